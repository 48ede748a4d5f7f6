-- `linear_maps::maps::square_map` meets its contract: the square of 1 is 1. Assumes nothing.
use Rattle.std.proofs.Common.{rules}
use Rattle.polynomial.specs.Modulus.{modulus_one}
use Rattle.linear_maps.specs.Filling.{squares_additive, squares_double, first_square}
use Rattle.linear_maps.proofs.maps.square_map.Goals as goal

pub returns : goal.returns
returns c =
    let h = c.args.residues.modulus in
    c.fill.ensures _ (record { additive = squares_additive h; doubles = λ a v w residue call. squares_double h a v w (search rules) })
    (first_square h).0

pub fill-requires-clause-first_lt_lead : goal.fill-requires-clause-first_lt_lead
fill-requires-clause-first_lt_lead c = modulus_one c.args.residues.modulus
