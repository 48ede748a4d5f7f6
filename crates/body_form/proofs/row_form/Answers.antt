-- `body_form::row_form` meets its contract: the numbers decide where they fail, else the t-values do. Assumes nothing.
use Rattle.std.proofs.Common.{◌≡◌, ℕ, ◌+◌, ◌*◌, sym, ap, ◌∙◌}
use Rattle.catalogue_laws.specs.Form.{numbers_form, numbers_form_is, values_form_is, row_stop, row_values}
use Rattle.body_form.proofs.row_form.Goals as goal
use Rattle.body_form.proofs.row_form.Goals.{After-numbers_below}

-- What the test of the numbers gave.
numbers_test : (c : After-numbers_below) → c.numbers_below.result ≡ numbers_form c.args.form.degree c.args.s.now c.args.at
numbers_test c =
    let a = c.args in
    c.numbers_below.ensures
    ∙ numbers_form_is a.form.degree a.s.now a.at c.number_size-width.result c.lead.result c.number_size-width.ensures.0 c.lead.ensures

pub returns-then-numbers_below : goal.returns-then-numbers_below
returns-then-numbers_below c =
    let a = c.args in
    let tested = sym (numbers_test (goal.at.returns-then-numbers_below c).After-numbers_below) ∙ c.if-numbers_below.true in
    let place = ap (λ (w : ℕ). a.at + 3 * w) c.number_size-width.ensures.0 in
    c.bytes_below.ensures
    ∙ values_form_is a.form.degree a.form.top a.s.now a.at _ c.value_count.result place c.value_count.ensures
    ∙ sym (row_values a.form.degree a.form.top a.s.now a.at tested)

pub returns-else-numbers_below : goal.returns-else-numbers_below
returns-else-numbers_below c =
    let a = c.args in
    let fails = sym (numbers_test (goal.at.returns-else-numbers_below c).After-numbers_below) ∙ c.if-numbers_below.false in
    c.if-numbers_below.false ∙ sym (row_stop a.form.degree a.form.top a.s.now a.at fails)
