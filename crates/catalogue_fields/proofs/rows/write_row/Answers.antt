-- `catalogue_fields::rows::write_row` meets its contract: each part of the row is written behind the one before. Assumes nothing.
use Rattle.std.proofs.Common.{◌+◌, ◌-◌, ◌*◌, ◌≤◌, length, arith}
use Rattle.number_laws.specs.Bounds.{lead_is}
use Rattle.catalogue_laws.specs.Sizes.{row_size_is}
use Rattle.catalogue_fields.proofs.RowLaws as laws
use Rattle.catalogue_fields.proofs.rows.write_row.Goals as goal
use Rattle.catalogue_fields.proofs.rows.write_row.Goals.{After-number_size-width}

-- The row lies within the buffer.
room : (c : After-number_size-width) → let a = c.args in a.at + (3 * c.number_size-width.result + (length a.row.now - 3)) ≤ length a.file.now
room c =
    let l = c.args.list in
    omega (arith, row_size_is l.degree l.top l.gaps, c.number_size-width.ensures.0, c.requires.gaps_in_bounds, c.requires.lawful_row.width)

pub write_number-requires : goal.write_number-requires
write_number-requires c = omega (arith, room (goal.at.write_number-requires c).After-number_size-width)

pub write_number-requires-2 : goal.write_number-requires-2
write_number-requires-2 c = omega (arith, room (goal.at.write_number-requires-2 c).After-number_size-width)

pub write_number-requires-3 : goal.write_number-requires-3
write_number-requires-3 c = omega (arith, room (goal.at.write_number-requires-3 c).After-number_size-width)

pub write_bytes-requires : goal.write_bytes-requires
write_bytes-requires c =
    let a = c.args in
    let l = a.list in
    let pre = c.requires in
    let ranks = laws.ranks_length l.degree l.top l.gaps a.row.now pre.lawful_degree.1 pre.lawful_row in record {
      n_in_bounds = omega (arith, room (goal.at.write_bytes-requires c).After-number_size-width);
      by_index = laws.ranks_small l.degree l.top l.gaps a.row.now pre.lawful_degree.1 pre.lawful_row pre.lawful_degree.0;
    }

pub returns : goal.returns
returns c =
    let a = c.args in
    let l = a.list in
    let pre = c.requires in
    laws.row_written l.degree l.top l.gaps a.row.now pre.lawful_degree.1 pre.lawful_row c.number_size-width.ensures.0 (lead_is pre.lawful_degree.0)
    a.at a.file.now pre.gaps_in_bounds c.write_number.ensures c.write_number-2.ensures c.write_number-3.ensures c.write_bytes.ensures
