-- Invariant: each point's number holds the digits of the coordinates passed, and what those left write behind it makes the box's number.
use Rattle.counting_laws.specs.Numbering.{Numbered}
use Rattle.box_numbers.proofs.boxes_of.Given as goal

abbrev pub invariant-loop-j : goal.invariant-loop-j
invariant-loop-j l = Numbered l.m l.s l.points l.shape l.j l.boxes
