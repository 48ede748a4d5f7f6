use Rattle.relations.proofs.ReduceLaws.{Reducing}
use Rattle.relations.proofs.vectors.reduce.Given as goal

abbrev pub invariant-loop-place : goal.invariant-loop-place
invariant-loop-place l = Reducing l.basis l.mask l.row l.v l.place

abbrev pub decreases-loop-place : goal.decreases-loop-place
decreases-loop-place l = l.v
