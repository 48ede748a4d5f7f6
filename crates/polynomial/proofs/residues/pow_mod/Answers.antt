-- `polynomial::residues::pow_mod` meets its contract. Assumes nothing.
use Rattle.std.proofs.Common.{rules}
use Rattle.polynomial.specs.Modulus.{modulus_one}
use Rattle.polynomial.proofs.residues.pow_mod.Goals as goal

pub power_by-requires : goal.power_by-requires
power_by-requires c = record {
  bound = c.args.lead;
  at = modulus_one c.requires.modulus;
  one = record { callable = λ y residue. search rules; stays = λ y r residue fits call. search rules };
  other = record { callable = λ y residue. search rules; stays = λ y r residue fits call. search rules };
}

pub returns : goal.returns
returns c =
    c.power_by.ensures _ _ c.args.q c.requires.modulus (λ y r residue call. search rules) (λ y r residue call. search rules)
