-- Invariant: each counter holds how many of the points passed lie in its box.
use lib.ListN.{take}
use Rattle.counting_laws.specs.Points.{box_at}
use Rattle.counting_laws.specs.Tally.{Tallied}
use Rattle.box_counts.proofs.count_in_boxes.Given as goal

abbrev pub invariant-loop-number : goal.invariant-loop-number
invariant-loop-number l = Tallied (box_at l.m l.points (take l.s l.shape)) 256 l.number-index l.counts
