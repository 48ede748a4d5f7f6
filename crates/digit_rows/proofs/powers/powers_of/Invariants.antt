use mathlib.Core.Path.{◌≡◌}
use lib.ListN.{length}
use Rattle.definitions.specs.Generator.{largest_degree}
use Rattle.digit_rows.specs.Powers.{Residues, FirstPowers}
use Rattle.digit_rows.proofs.powers.powers_of.Given as goal

abbrev pub invariant-loop-j : goal.invariant-loop-j
invariant-loop-j l = (length l.powers ≡ largest_degree) × FirstPowers l.q l.residues.p l.j l.powers × Residues l.residues.lead l.powers
