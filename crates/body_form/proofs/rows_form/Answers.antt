-- `body_form::rows_form` meets its contract: `all` asks of each row. Assumes nothing.
use Rattle.std.proofs.Common.{rules, ℕ, suc, ◌+◌, ◌*◌, ◌<◌, ◌≤◌, length, refl, ap, arith, mul-le-mul_right, suc-mul, ◌∙◌}
use Rattle.std.proofs.lemmas.Iterator.{YieldsList-from_range, serves_from_Range}
use Rattle.std.proofs.lemmas.Iterator.Search.{all_from_yields_List}
use Rattle.definitions.specs.Catalogue.{numbers_size, values_size, row_form}
use Rattle.definitions.specs.Number.{every}
use Rattle.number_laws.specs.Ranges.{every_range}
use Rattle.catalogue_laws.specs.Sizes.{row_size_is}
use Rattle.body_form.proofs.rows_form.Goals as goal
use Rattle.body_form.proofs.rows_form.Goals.{After-row_size-size}

-- The row at k lies within the file.
whole : (c : After-row_size-size) (k : ℕ) → k < c.args.rows
    → c.args.at + k * c.row_size-size.result + numbers_size c.args.form.degree + values_size c.args.form.top ≤ length c.args.s.now
whole c k inside =
    let a = c.args in
    let size = c.row_size-size.result in
    let room : suc k * size ≤ a.rows * size = mul-le-mul_right size inside in
    let body = ap (λ (n : ℕ). a.rows * n) c.row_size-size.ensures in
    omega (arith, room, suc-mul k size, body, c.row_size-size.ensures, row_size_is a.form.degree a.form.top a.form.gaps, c.requires)

pub all-requires-clause-callable : goal.all-requires-clause-callable
all-requires-clause-callable c =
    serves_from_Range (λ k q called. search rules) (λ k low high. let within = whole (goal.at.all-requires-clause-callable c).After-row_size-size k high in search rules)

pub returns : goal.returns
returns c =
    let a = c.args in
    let size = c.row_size-size in
    let formed = λ (k : ℕ). row_form a.form.degree a.form.top a.s.now (a.at + k * size.result) in
    all_from_yields_List formed _ _ _ c.all.ensures.ran (YieldsList-from_range 0 a.rows a.rows refl (omega arith)) (λ k b q called. search rules)
    ∙ every_range a.rows formed
    ∙ ap (λ (n : ℕ). every a.rows (λ k. row_form a.form.degree a.form.top a.s.now (a.at + k * n))) size.ensures
