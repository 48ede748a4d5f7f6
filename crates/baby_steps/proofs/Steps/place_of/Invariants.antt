-- Invariant: the last place that holds the residue is the place at hand or one before it, and that one has the low digits of the residue. The measure
-- is the place.
use Rattle.baby_steps.proofs.ChainLaws.{Seeking}
use Rattle.baby_steps.proofs.Steps.place_of.Given as goal

abbrev pub invariant-loop-place : goal.invariant-loop-place
invariant-loop-place l = Seeking l.self.mask l.self.count l.residue l.self.value l.place

abbrev pub decreases-loop-place : goal.decreases-loop-place
decreases-loop-place l = l.place
