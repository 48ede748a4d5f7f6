-- `baby_steps::Steps::of` meets its contract. Assumes nothing.
use mathlib.Core.Path.{refl, ◌∙◌}
use Prim.Native.Nat.{◌<◌}
use native.Mathlib.Omega.{arith}
use lib.ListN.{length}
use Rattle.baby_steps.proofs.ChainLaws.{chained_none, filling_start, filling_more}
use Rattle.baby_steps.proofs.Steps.of.Goals as goal

pub invariant_of-steps-clause-chained : goal.invariant_of-steps-clause-chained
invariant_of-steps-clause-chained c = chained_none _

pub loop-init : goal.loop-init
loop-init c = (refl, refl, filling_start c.args.residues.modulus c.requires.q_lt_lead)

pub loop-preserved : goal.loop-preserved
loop-preserved c =
    let steps = c.loop.steps in
    let inv = c.loop.invariant in
    let room : c.loop.counter < length steps.value = omega (arith, steps.chained.value_room, c.loop-test.true, c.requires.between.high) in (
      c.push.ensures.mask ∙ inv.0,
      omega (arith, c.push.ensures.count, inv.1),
      rw (c.push.ensures.value, inv.1) (filling_more c.args.residues.modulus inv.2 room c.times_x-residue.ensures),
    )
