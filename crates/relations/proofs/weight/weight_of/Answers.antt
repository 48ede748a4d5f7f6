-- `weight::weight_of` meets its contract: before each turn `weight` is the weight but for the rows that what is left of the label names. Assumes
-- nothing.
use native.Mathlib.Omega.{arith}
use Rattle.relations.proofs.WeightLaws.{weighing_start, Turn, turn, weighing_more, weighed, falls, divides}
use Rattle.relations.proofs.weight.weight_of.Goals as goal
use Rattle.relations.proofs.weight.weight_of.Goals.{In-loop-label}

turned : (c : In-loop-label) → Turn c.args.starts c.loop-label.label
turned c = turn c.args.starts c.loop-label.label c.requires (omega arith) c.loop-label.invariant.small

pub loop-label-init : goal.loop-label-init
loop-label-init c = weighing_start c.args.starts c.args.sum (omega arith)

pub nonzero_rem-first : goal.nonzero_rem-first
nonzero_rem-first c = divides c.args.starts c.loop-label.label (turned c)

pub overflow_sub-first : goal.overflow_sub-first
overflow_sub-first c = omega (arith, turned c)

pub overflow_sub-weight-in-loop-label : goal.overflow_sub-weight-in-loop-label
overflow_sub-weight-in-loop-label c = omega (arith, turned c)

pub loop-label-smaller : goal.loop-label-smaller
loop-label-smaller c = falls c.args.starts c.loop-label.label (turned c)

pub loop-label-preserved : goal.loop-label-preserved
loop-label-preserved c =
    let a = c.args in
    let l = c.loop-label in
    weighing_more a.starts a.sum l.weight l.label l.invariant (turned c)

pub returns : goal.returns
returns c =
    let a = c.args in
    let l = c.loop-label in
    weighed a.starts a.sum l.weight l.label l.invariant (omega arith)
