-- `catalogue_fields::rows::write_rows` meets its contract. Assumes nothing.
use Rattle.catalogue_fields.proofs.RowLaws as laws
use Rattle.catalogue_fields.proofs.rows.write_rows.Goals as goal
use Rattle.catalogue_fields.proofs.rows.write_rows.Goals.{In-loop-k}

turn : (c : In-loop-k) → let a = c.args in
    laws.Turn a.list.degree a.list.top a.list.gaps a.at a.count a.rows.now a.file.now c.loop-k.file c.loop-k.k
    c.row_size-size.result c.width_of-width.result
turn c =
    let a = c.args in
    let pre = c.requires in
    laws.rows_turn a.list.degree a.list.top a.list.gaps a.at a.count a.rows.now a.file.now
    pre.lawful_degree.1.low pre.lawful_rows pre.gaps_in_bounds c.loop-k.k c.loop-k-test.true c.loop-k.invariant c.row_size-size.ensures
    c.width_of-width.ensures

pub write_row-requires-clause-lawful_row : goal.write_row-requires-clause-lawful_row
write_row-requires-clause-lawful_row c = (turn (goal.at.write_row-requires-clause-lawful_row c).In-loop-k).lawful

pub loop-k-preserved : goal.loop-k-preserved
loop-k-preserved c = (turn (goal.at.loop-k-preserved c).In-loop-k).next c.write_row.ensures

pub returns : goal.returns
returns c = laws.rows_end _ _ _ _ _ _ _ c.loop-k.invariant c.loop-k-test.false
