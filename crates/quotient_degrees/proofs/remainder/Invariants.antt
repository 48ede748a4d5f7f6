-- Invariant: the rest is a word and has the remainder of a. The measure is the rest.
use Rattle.quotient_degrees.proofs.DegreeLaws.{Rest}
use Rattle.quotient_degrees.proofs.remainder.Given as goal

abbrev pub invariant-loop-rest : goal.invariant-loop-rest
invariant-loop-rest l = Rest l.a l.b l.rest

abbrev pub decreases-loop-rest : goal.decreases-loop-rest
decreases-loop-rest l = l.rest
