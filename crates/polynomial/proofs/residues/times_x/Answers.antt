-- `polynomial::residues::times_x` meets its contract: the double is a residue where its digit at `lead` is clear, and p takes the digit away where
-- not. Assumes nothing.
use native.Mathlib.Omega.{arith}
use Rattle.polynomial.specs.Modulus.{lead_fits}
use Rattle.polynomial.proofs.ResidueLaws.{times_x_small, times_x_large}
use Rattle.polynomial.proofs.residues.times_x.Goals as goal

pub overflow_mul-double : goal.overflow_mul-double
overflow_mul-double c = record { fits = omega (arith, lead_fits c.requires.modulus (omega arith)) }

pub returns-then-double-lead-eq0 : goal.returns-then-double-lead-eq0
returns-then-double-lead-eq0 c = times_x_small c.requires.modulus c.args.y c.requires.y_lt_lead c.if-double-lead-eq0.true

pub returns-else-double-lead-eq0 : goal.returns-else-double-lead-eq0
returns-else-double-lead-eq0 c = times_x_large c.requires.modulus c.args.y c.requires.y_lt_lead c.if-double-lead-eq0.false
