-- `full_orders::powers::pow_x` meets its contract. Assumes nothing.
use Rattle.std.proofs.Common.{rules}
use Rattle.polynomial.specs.Modulus.{modulus_one}
use Rattle.polynomial.specs.Powers.{x_factor}
use Rattle.polynomial_laws.specs.Power.{power_of_x}
use Rattle.full_orders.proofs.PowerLaws.{squared}
use Rattle.full_orders.proofs.powers.pow_x.Goals as goal

pub power_by-requires : goal.power_by-requires
power_by-requires c =
    let h = c.args.residues.modulus in
    record {
      bound = c.args.residues.lead;
      at = modulus_one h;
      one = record {
        callable = λ y residue. search rules;
        stays = λ y r residue fits call. (squared h _ residue (search rules) c.requires.maps).1;
      };
      other = record { callable = λ y residue. search rules; stays = λ y r residue fits call. search rules };
    }

pub returns : goal.returns
returns c =
    let h = c.args.residues.modulus in
    rw power_of_x at
    (c.power_by.ensures _ _ 2 h (λ y r residue call. (squared h _ residue (search rules) c.requires.maps).0)
    (λ y r residue call. (x_factor h y (search rules)).0))
