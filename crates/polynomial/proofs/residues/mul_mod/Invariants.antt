-- The invariant: the product is that of b and what the coefficients of a above `term` write, modulo p. The measure is the term.
use Rattle.polynomial.proofs.ResidueLaws.{ProductAt}
use Rattle.polynomial.proofs.residues.mul_mod.Given as goal

abbrev pub invariant-loop-term : goal.invariant-loop-term
invariant-loop-term l = ProductAt l.p l.lead l.a l.b l.term l.product

abbrev pub decreases-loop-term : goal.decreases-loop-term
decreases-loop-term l = l.term
