-- `row_results::row` meets its contract: a row is handed out number by number, and the end as no numbers. Assumes nothing.
use Rattle.std.specs.Prelude.{Option}
use mathlib.Core.Path.{sym, ap, ◌∙◌}
use native.Mathlib.Omega.{arith}
use Rattle.definitions.specs.Answers.{next_row_values}
use Rattle.definitions.specs.declared.Row.{Row}
use Rattle.number_laws.specs.Count.{bit_most, bool_byte_lem}
use Rattle.row_results.specs.Results.{row_result}
use Rattle.row_results.proofs.RowLaws.{row_is, end_is}
use Rattle.row_results.proofs.row.Goals as goal

pub overflow_add-result-in-Some : goal.overflow_add-result-in-Some
overflow_add-result-in-Some c =
    let a = c.args in omega (arith, bool_byte_lem a.gaps, bit_most a.gaps)

pub returns-in-Some : goal.returns-in-Some
returns-in-Some c =
    let a = c.args in
    row_is a.top a.gaps a.next _ (bool_byte_lem a.gaps) c.page_row.ensures
    ∙ sym (ap (λ (x : Option Row). row_result (next_row_values x) a.top a.gaps a.next) c.in-Some.is)

pub returns-in-None : goal.returns-in-None
returns-in-None c =
    let a = c.args in
    sym (ap (λ (x : Option Row). row_result (next_row_values x) a.top a.gaps a.next) c.in-None.is ∙ end_is a.top a.gaps a.next)
