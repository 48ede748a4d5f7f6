-- `baby_steps::Steps::push` meets its contract. Assumes nothing.
use native.Mathlib.Numerals.{add-one}
use Rattle.baby_steps.proofs.ChainLaws.{chained_more}
use Rattle.baby_steps.proofs.Steps.push.Goals as goal

pub invariant_of-self-clause-chained : goal.invariant_of-self-clause-chained
invariant_of-self-clause-chained c =
    let steps = c.args.self.now in
    rw add-one (chained_more steps.chained steps.mask_fits c.requires c.args.residue)
