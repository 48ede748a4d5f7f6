-- `box_numbers::boxes_of` meets its contract. Assumes nothing.
use Rattle.counting_laws.specs.Numbering.{numbered_start, numbered_room, numbered_more, numbered_done}
use Rattle.box_numbers.proofs.boxes_of.Goals as goal

pub loop-j-init : goal.loop-j-init
loop-j-init c = numbered_start _ _ _ _ c.requires

pub append_digits-boxes-requires : goal.append_digits-boxes-requires
append_digits-boxes-requires c = numbered_room _ _ _ _ c.requires c.loop-j.invariant c.loop-j-test.true

pub loop-j-preserved : goal.loop-j-preserved
loop-j-preserved c = numbered_more _ _ _ _ c.requires c.loop-j.invariant c.loop-j-test.true c.append_digits-boxes.ensures

pub returns : goal.returns
returns c = numbered_done _ _ _ _ c.requires c.loop-j.invariant c.loop-j-test.false
