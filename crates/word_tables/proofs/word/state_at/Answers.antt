-- `word_tables::word::state_at` meets its contract: the states are the powers of q. Assumes nothing.
use mathlib.Core.Path.{sym, ◌∙◌}
use native.Mathlib.Omega.{arith}
use Rattle.order_laws.specs.Cycle.{degree_big}
use Rattle.order_laws.specs.State.{state_power}
use Rattle.word_tables.proofs.word.state_at.Goals as goal

pub returns : goal.returns
returns c =
    let pre = c.requires in
    let power = c.power.ensures in
    let is = c.modulo.ensures in
    let big = degree_big _ _ (omega (arith, pre.lawful_degree.low)) pre.well_formed.degree_p in
    ((rw is.0 at power.0) ∙ sym (state_power _ big _ _), rw is.1 at power.1)
