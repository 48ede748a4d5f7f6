-- `write_steps` takes one row after the other. Assumes nothing.
use mathlib.Core.Path.{sym}
use Rattle.row_steps.specs.Written.{none_written}
use Rattle.row_steps.proofs.TurnLaws as laws
use Rattle.row_steps.proofs.write_steps.Goals as goal
use Rattle.row_steps.proofs.write_steps.Goals.{In-loop-i}

pub loop-i-init : goal.loop-i-init
loop-i-init c = sym (none_written _ _ _)

pub step_of-requires-clause-well_formed : goal.step_of-requires-clause-well_formed
step_of-requires-clause-well_formed c =
    let wide = c.requires.lawful_degree in
    (laws.pair_has_step _ _ _ _ _ _ wide.1 wide.2 c.loop-i-test.true c.loop-i.invariant c.requires.have_steps).0

pub step_of-requires-clause-p_value : goal.step_of-requires-clause-p_value
step_of-requires-clause-p_value c =
    let wide = c.requires.lawful_degree in
    (laws.pair_has_step _ _ _ _ _ _ wide.1 wide.2 c.loop-i-test.true c.loop-i.invariant c.requires.have_steps).1

pub loop-i-preserved : goal.loop-i-preserved
loop-i-preserved c =
    let wide = c.requires.lawful_degree in
    laws.one_more _ _ _ _ _ _ wide.1 wide.2 c.loop-i-test.true c.loop-i.invariant c.step_of.ensures
