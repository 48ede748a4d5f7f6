-- `recount_line::put_pair` puts the line of the counter's refusal, or both t-values. Assumes nothing.
use Rattle.std.specs.Prelude.{Ok}
use Rattle.std.specs.Prelude.{◌≡◌, refl}
use Rattle.std.proofs.Common.{sym, ◌∙◌}
use Rattle.definitions.specs.Calls.{counted}
use Rattle.recount_line.specs.Printed.{pair_refused, pair_both, quick_given}
use Rattle.recount_line.proofs.put_pair.Goals as goal
use Rattle.recount_line.proofs.put_pair.Goals.{In-Ok, After-t_value}

counts : (c : In-Ok) → let a = c.args in counted a.degree a.p a.q a.dimension ≡ Ok c.in-Ok.count
counts c = sym c.count_t_value.ensures ∙ c.in-Ok.is

quicks : (c : After-t_value) → let a = c.args in c.t_value.result ≡ Ok c.in-Ok.count
quicks c = c.t_value.ensures ∙ quick_given _ _ _ _ (counts (goal.at.After-t_value c).In-Ok)

pub unwrap-quick-requires : goal.unwrap-quick-requires
unwrap-quick-requires c = rw (quicks c) refl

pub returns-in-Ok : goal.returns-in-Ok
returns-in-Ok c =
    let text = pair_both _ _ _ _ (counts (goal.at.returns-in-Ok c).In-Ok) (sym c.t_value.ensures ∙ c.unwrap-quick.ensures) in
    record { value = rw text c.put_both.ensures.value; out_after = rw text c.put_both.ensures.out_after }

pub returns-in-Err : goal.returns-in-Err
returns-in-Err c =
    let text = pair_refused _ _ _ _ (sym c.count_t_value.ensures ∙ c.in-Err.is) in
    record { value = rw (text, ← c.refusal_number-number.ensures) c.put_refused.ensures.value; out_after = rw (text, ← c.refusal_number-number.ensures) c.put_refused.ensures.out_after }
