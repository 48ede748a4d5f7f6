-- `powers::powers_of` meets its contract: before each turn the first j elements are the powers, and all are residues. Assumes nothing.
use mathlib.Core.Path.{refl, ◌∙◌}
use native.Mathlib.Omega.{arith}
use lib.ListN.{length-set}
use Rattle.definitions.specs.Generator.{largest_degree}
use Rattle.digit_rows.proofs.PowerLaws.{powers_start, residues_start, powers_more, residues_more}
use Rattle.digit_rows.proofs.powers.powers_of.Goals as goal

pub loop-j-init : goal.loop-j-init
loop-j-init c = (refl, powers_start c.args.residues.modulus c.args.q, residues_start c.args.residues.modulus largest_degree)

pub loop-j-preserved : goal.loop-j-preserved
loop-j-preserved c =
    let l = c.loop-j in
    let next = c.product in (
      length-set l.powers l.j next.result ∙ l.invariant.0,
      powers_more c.args.residues.modulus c.args.q l.j next.result l.powers (omega arith) (omega (arith, c.requires)) next.ensures.0 l.invariant.1,
      residues_more c.args.residues.modulus l.j next.result l.powers (omega (arith, c.requires)) next.ensures.1 l.invariant.2,
    )
