-- `linear_maps::maps::times_map` meets its contract: 1 times c is c. Assumes nothing.
use Rattle.std.proofs.Common.{rules}
use Rattle.linear_maps.specs.Filling.{times_additive, times_double, first_times}
use Rattle.linear_maps.proofs.maps.times_map.Goals as goal

pub returns : goal.returns
returns c =
    let h = c.args.residues.modulus in
    c.fill.ensures _ (record { additive = times_additive h c.args.c; doubles = λ a v w residue call. times_double h c.args.c a v w (search rules) })
    (first_times h _ c.requires.c_lt_lead).0
