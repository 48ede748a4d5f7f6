-- `baby_steps::Steps::place_of` meets its contract. Assumes nothing.
use mathlib.Core.Path.{◌≡◌, sym}
use native.Mathlib.Omega.{arith}
use Rattle.baby_steps.proofs.ChainLaws.{seeking_start, seeking_found, seeking_less, seeking_next, seeking_none}
use Rattle.baby_steps.proofs.Steps.place_of.Goals as goal

pub loop-place-init : goal.loop-place-init
loop-place-init c = seeking_start c.args.self.now.chained c.args.self.now.mask_fits

pub returns-then-self-j : goal.returns-then-self-j
returns-then-self-j c = (seeking_found c.args.self.now.chained c.loop-place.invariant (omega (arith, c.loop-place-test.true)) c.if-self-j.true, omega arith)

pub loop-place-smaller : goal.loop-place-smaller
loop-place-smaller c = seeking_less c.args.self.now.chained c.loop-place.invariant (omega (arith, c.loop-place-test.true))

pub loop-place-preserved : goal.loop-place-preserved
loop-place-preserved c = seeking_next c.args.self.now.chained c.loop-place.invariant (omega (arith, c.loop-place-test.true)) c.if-self-j.false

pub returns : goal.returns
returns c =
    let l = c.loop-place in
    let none : l.place ≡ 0 = omega (arith, c.loop-place-test.false) in
    sym (seeking_none c.args.self.now.chained (rw none at l.invariant))
