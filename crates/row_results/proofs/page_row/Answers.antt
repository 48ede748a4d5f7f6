-- `row_results::page_row` meets its contract: without Δ the row ends with t(T), and with Δ that stands behind t(T). Assumes nothing.
use Rattle.row_results.proofs.RowLaws.{row_without, row_with}
use Rattle.row_results.proofs.page_row.Goals as goal

pub returns-then-not-gaps : goal.returns-then-not-gaps
returns-then-not-gaps c =
    let a = c.args in row_without a.found a.top (c.if-not-gaps.true)

pub returns : goal.returns
returns c =
    let a = c.args in
    row_with a.found a.top (c.if-not-gaps.false)
    c.behind_t.ensures c.behind_t-2.ensures c.behind_t-3.ensures
    c.behind_t-4.ensures c.behind_t-5.ensures c.behind_t-6.ensures
