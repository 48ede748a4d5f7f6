-- `polynomial::residues::Residues::modulo` meets its contract. Assumes nothing.
use Rattle.polynomial.specs.Modulus.{lawful_modulus}
use Rattle.polynomial.proofs.residues.Residues.modulo.Goals as goal

pub invariant_of-result : goal.invariant_of-result
invariant_of-result c = record { modulus = lawful_modulus c.requires.lawful c.requires.degree c.leading_term.ensures }
