-- `generator::common_divisor::gcd_of` meets its contract. Assumes nothing.
use mathlib.Core.Path.{◌≡◌, refl, sym, ◌∙◌}
use native.Mathlib.Nat.{mod-lt}
use native.Mathlib.Omega.{arith}
use Rattle.generator.proofs.CommonDivisor.{gcd_zero, gcd_step}
use Rattle.generator.proofs.common_divisor.gcd_of.Goals as goal

pub loop-small-init : goal.loop-small-init
loop-small-init c = refl

pub loop-small-smaller : goal.loop-small-smaller
loop-small-smaller c = mod-lt _ (omega arith)

pub loop-small-preserved : goal.loop-small-preserved
loop-small-preserved c = gcd_step _ _ ∙ c.loop-small.invariant

pub returns : goal.returns
returns c =
    let done : c.loop-small.small ≡ 0 = c.loop-small-test.false in
    sym (gcd_zero _) ∙ rw done at c.loop-small.invariant
