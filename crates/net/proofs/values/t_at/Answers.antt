-- `values::t_at` meets its contract: before each turn `value` is that of the dimension before, and the table has the coordinates below; t(1) = 0.
-- Assumes nothing.
use mathlib.Core.Path.{◌≡◌, sym}
use Prim.Native.Nat.{◌-◌}
use native.Mathlib.Omega.{arith}
use Rattle.polynomial.specs.Modulus.{modulus}
use Rattle.net_laws.specs.TValue.{t_value_first}
use Rattle.net.proofs.values.t_at.Goals as goal

pub loop-dimension-init : goal.loop-dimension-init
loop-dimension-init c =
    let (lawful, degree_p) = c.requires.lawful_degree in
    let begun = c.first_coordinate-table.ensures.table (modulus _ _ (omega (arith, lawful.low)) degree_p) c.args.q c.args.degree in
    (omega (arith, c.requires.lawful_dimension.low), sym (t_value_first _ _ degree_p c.args.q), begun)

pub returns : goal.returns
returns c =
    let last : c.loop-dimension.dimension - 1 ≡ c.args.s = omega arith in rw last at c.loop-dimension.invariant.1
