-- `marks::marked_top` meets its contract. Assumes nothing.
use Rattle.marks.proofs.marked_top.Goals as goal

pub returns-then-gaps : goal.returns-then-gaps
returns-then-gaps c = rw c.if-gaps.true
