-- `linear_maps::maps::fill` meets its contract. Assumes nothing.
use native.Mathlib.Omega.{arith}
use Rattle.linear_maps.specs.Filling.{filled_start, filled_room, filled_more, filled_done}
use Rattle.linear_maps.proofs.maps.fill.Goals as goal

pub loop-unit-init : goal.loop-unit-init
loop-unit-init g c = filled_start c.requires.first_lt_lead

pub fill_block-image-requires-clause-block_in_bounds : goal.fill_block-image-requires-clause-block_in_bounds
fill_block-image-requires-clause-block_in_bounds g c =
    let at = c.loop-unit.invariant in
    (omega (arith, filled_room at c.requires.lead_bound c.loop-unit-test.true, at.sized), at.empty _ (omega arith))

pub overflow_add-base : goal.overflow_add-base
overflow_add-base g c = omega (arith, filled_room c.loop-unit.invariant c.requires.lead_bound c.loop-unit-test.true)

pub loop-unit-preserved : goal.loop-unit-preserved
loop-unit-preserved g c = filled_more c.loop-unit.invariant c.requires.lead_bound c.loop-unit-test.true c.fill_block-image.ensures

pub returns : goal.returns
returns g c = filled_done c.loop-unit.invariant c.requires.lead_bound c.loop-unit-test.false
