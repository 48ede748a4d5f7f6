-- `reduction::reduce` meets its contract. Assumes nothing.
use Rattle.std.proofs.Common.{arith}
use Rattle.digit_rows.proofs.ReductionLaws.{reduce_start, reduce_more}
use Rattle.digit_rows.proofs.reduction.reduce.Goals as goal
use Rattle.digit_rows.proofs.reduction.reduce.Goals.{else-sum-v, then-sum-v}

pub loop-i-init : goal.loop-i-init
loop-i-init c = reduce_start c.args.basis.now c.args.digits

pub loop-i-preserved : goal.loop-i-preserved
loop-i-preserved c =
    let l = c.loop-i in
    let a = c.args in
    reduce_more a.basis.now l.i a.digits l.v c.if-sum-v.v l.invariant
    (elim c.if-sum-v.branch [ then-sum-v w ↦ omega arith | else-sum-v w ↦ omega arith ])
