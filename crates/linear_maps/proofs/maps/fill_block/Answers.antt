-- `linear_maps::maps::fill_block` meets its contract. Assumes nothing.
use native.Mathlib.Omega.{arith}
use Rattle.linear_maps.specs.Filling.{block_start, block_room, block_more, block_done}
use Rattle.linear_maps.proofs.maps.fill_block.Goals as goal

pub loop-n-init : goal.loop-n-init
loop-n-init g c =
    let pre = c.requires in
    block_start pre.first_lt_lead pre.block_in_bounds.1

pub spread-requires : goal.spread-requires
spread-requires g c = omega (arith, block_room c.loop-n.invariant c.loop-n-test.true, c.requires.block_in_bounds.0, c.loop-n.invariant.kept)

pub loop-n-preserved : goal.loop-n-preserved
loop-n-preserved g c =
    let at = c.loop-n.invariant in
    block_more at c.loop-n-test.true c.spread.ensures c.next-image.ensures (c.requires.next.stays _ _ at.residue c.next-image.type_inv c.next-image.ensures)

pub returns : goal.returns
returns g c = block_done c.loop-n.invariant c.loop-n-test.false
