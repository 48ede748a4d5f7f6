use Rattle.relations.proofs.WeightLaws.{Weighing}
use Rattle.relations.proofs.weight.weight_of.Given as goal

abbrev pub invariant-loop-label : goal.invariant-loop-label
invariant-loop-label l = Weighing l.starts l.sum l.weight l.label

abbrev pub decreases-loop-label : goal.decreases-loop-label
decreases-loop-label l = l.label
