-- `vectors::reduce` meets its contract: v is the row and a sum of chosen vectors, and falls with each. Assumes nothing.
use native.Mathlib.Omega.{arith}
use Rattle.relations.proofs.WordLaws.{leading}
use Rattle.relations.proofs.ReduceLaws.{row_some, reducing_start, next_less, reducing_more, reduced}
use Rattle.relations.proofs.vectors.reduce.Goals as goal

pub overflow_sub-place : goal.overflow_sub-place
overflow_sub-place c = (leading c.args.row (row_some c.args.basis.now c.args.mask c.args.row c.requires.apart) (omega arith)).zeros

pub loop-place-init : goal.loop-place-init
loop-place-init c = reducing_start c.args.basis.now c.args.mask c.args.row c.requires.apart (omega arith)

pub overflow_sub-place-in-loop-place : goal.overflow_sub-place-in-loop-place
overflow_sub-place-in-loop-place c =
    let a = c.args in
    let l = c.loop-place in
    let pre = c.requires in
    (reducing_more a.basis.now a.mask a.row pre.apart pre.occupied l.v l.place l.invariant c.loop-place-test.true).lead.zeros

pub loop-place-smaller : goal.loop-place-smaller
loop-place-smaller c =
    let a = c.args in
    let l = c.loop-place in
    let pre = c.requires in
    next_less a.basis.now a.mask a.row pre.apart pre.occupied l.v l.place l.invariant c.loop-place-test.true

pub loop-place-preserved : goal.loop-place-preserved
loop-place-preserved c =
    let a = c.args in
    let l = c.loop-place in
    let pre = c.requires in
    reducing_more a.basis.now a.mask a.row pre.apart pre.occupied l.v l.place l.invariant c.loop-place-test.true

pub returns : goal.returns
returns c =
    let a = c.args in
    let l = c.loop-place in
    reduced a.basis.now a.mask a.row c.requires.apart l.v l.place l.invariant c.loop-place-test.false
