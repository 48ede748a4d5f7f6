-- `counter::build_points` meets its contract. Assumes nothing.
use Prim.Native.Nat.{◌<◌}
use native.Mathlib.Omega.{arith}
use lib.Pow.{pow_mono}
use Rattle.polynomial_laws.specs.Degree.{positive}
use Rattle.counting_laws.specs.Building.{building_start, building_more, building_done}
use Rattle.counter.proofs.build_points.Goals as goal

pub loop-i-init : goal.loop-i-init
loop-i-init c = building_start _ _ _

-- at most 2^8 points
pub loop-i-preserved : goal.loop-i-preserved
loop-i-preserved c =
    let room : c.loop-i.i < 2048 = omega (arith, c.leading_term-all.ensures, pow_mono {j = 8} c.requires.counted_degree.high) in
    building_more _ _ _ (positive c.requires.well_formed.degree_p) c.loop-i.invariant room c.leading_term-all.ensures c.coordinate_digits.ensures

pub returns : goal.returns
returns c = building_done _ _ _ _ _ c.loop-i.invariant (omega (arith, c.leading_term-all.ensures))
