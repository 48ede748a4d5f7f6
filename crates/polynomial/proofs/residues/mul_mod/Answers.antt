-- `polynomial::residues::mul_mod` meets its contract. Assumes nothing.
use native.Mathlib.Omega.{arith}
use Rattle.number_laws.specs.Bounds.{one_shl}
use Rattle.polynomial.proofs.ResidueLaws.{product_zero, product_start, product_clear, product_set, product_end}
use Rattle.polynomial.proofs.residues.mul_mod.Goals as goal
use Rattle.polynomial.proofs.residues.mul_mod.Goals.{else-a-term-eq0, then-a-term-eq0}

pub returns-then-a-eq0 : goal.returns-then-a-eq0
returns-then-a-eq0 c = rw c.if-a-eq0.true (product_zero c.requires.modulus c.args.b)

pub loop-term-init : goal.loop-term-init
loop-term-init c =
    let leading = c.degree_of-term.ensures in
    rw (one_shl _ leading.1, leading.0) (product_start c.requires.modulus c.args.a c.args.b (omega arith))

pub loop-term-preserved : goal.loop-term-preserved
loop-term-preserved c =
    let at = c.loop-term.invariant in
    let more = c.loop-term-test.true in
    let double = c.times_x.ensures.0 in
    elim c.if-a-term-eq0.branch [ then-a-term-eq0 w ↦ rw w.summand-is (product_clear c.requires.modulus at more c.requires.b_lt_lead double w.if-a-term-eq0.true) | else-a-term-eq0 w ↦ rw w.summand-is (product_set c.requires.modulus at more c.requires.b_lt_lead double w.if-a-term-eq0.false) ]
