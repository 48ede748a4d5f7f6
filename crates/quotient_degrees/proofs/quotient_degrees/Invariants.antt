-- Invariant: the largest degree so far and K of (a, b) make K of (p, q), and both pairs have one common factor. The measure is b.
use Rattle.quotient_degrees.proofs.DegreeLaws.{Divided}
use Rattle.quotient_degrees.proofs.quotient_degrees.Given as goal

abbrev pub invariant-loop-b : goal.invariant-loop-b
invariant-loop-b l = Divided l.p l.q l.a l.b l.degree_of_a l.largest

abbrev pub decreases-loop-b : goal.decreases-loop-b
decreases-loop-b l = l.b
