-- `listing_parts::rows::next_rows` has the cursor hand out as many rows as fit both slices, and puts them. Assumes nothing.
use mathlib.Core.Path.{◌≡◌}
use Prim.Native.Nat.{ℕ, ◌*◌, ◌/◌, ◌≤◌}
use native.Mathlib.Nat.{mul-le-mul_right}
use native.Mathlib.Omega.{arith}
use lib.ListN.{length}
use Rattle.definitions.specs.Ranking.{row_width, longest_row}
use Rattle.search.specs.Frame.{width_most}
use Rattle.paged_rows.specs.Room.{step_room}
use Rattle.listing_rows.specs.Taken.{HandedWithin}
use Rattle.listing_start.specs.declared.Printing.TheVariants.{Rows}
use Rattle.listing_parts.specs.Parts.{rows_that_fit, rows_that_fit_some}
use Rattle.listing_parts.proofs.NextRows.{fits_numbers, fits_bytes, few_handed, next_none, next_more, next_end}
use Rattle.listing_parts.proofs.rows.next_rows.Goals as goal
use Rattle.listing_parts.proofs.rows.next_rows.Goals.{After-take_rows-portion}

-- How many rows fit.
abbrev fit : After-take_rows-portion → ℕ
fit c = let a = c.args in rows_that_fit (Rows a.from a.size a.done) a.rows.now a.text.now

some_fit : (c : After-take_rows-portion) → 1 ≤ fit c
some_fit c =
    let a = c.args in
    rows_that_fit_some (Rows a.from a.size a.done) a.rows.now a.text.now c.requires.list_in_bounds c.requires.step_room_in_bounds (omega arith)

-- ---- where rows are asked for
pub take_rows-portion-requires : goal.take_rows-portion-requires
take_rows-portion-requires c =
    let a = c.args in
    let w = c.width_of-width.result in
    let some = rows_that_fit_some (Rows a.from a.size a.done) a.rows.now a.text.now c.requires.list_in_bounds c.requires.step_room_in_bounds (omega arith) in
    record {
      on_list = c.requires.on_way.on_list;
      width_value = c.width_of-width.ensures;
      le_most = rw (c.how_many-most.ensures, c.width_of-width.ensures) some;
      width_in_bounds = rw c.how_many-most.ensures (fits_numbers (length a.rows.now) w (length a.text.now / step_room));
    }

-- ---- where they were handed out
handed : (c : After-take_rows-portion) → let a = c.args in
    HandedWithin a.from (fit c) a.rows.now c.take_rows-portion.result c.take_rows-portion.new.rows
handed c = rw (c.how_many-most.ensures, c.width_of-width.ensures) at c.take_rows-portion.ensures

pub returns-then-count-eq0 : goal.returns-then-count-eq0
returns-then-count-eq0 c =
    let known = (goal.at.returns-then-count-eq0 c).After-take_rows-portion in
    let a = c.args in
    let all = next_none a.from a.size a.done (fit known) (handed known) (some_fit known) c.requires.on_way a.text.now
    c.if-count-eq0.true c.requires.step_room_in_bounds c.put_page.ensures.value c.put_page.ensures.out_after in
    record { value = all.0; rows_after = all.1.0; text_after = all.1.1 }

-- ---- where they are put
pub put_rows-bytes-requires : goal.put_rows-bytes-requires
put_rows-bytes-requires c =
    let known = (goal.at.put_rows-bytes-requires c).After-take_rows-portion in
    let a = c.args in
    let count = c.take_rows-portion.result.rows in
    let few : count ≤ fit known = omega (arith, (handed known).count) in
    let wide = c.width_of-width.ensures in
    let numbers = fits_numbers (length a.rows.now) (row_width a.from.list) (length a.text.now / step_room) in
    let bytes = fits_bytes (length a.rows.now / row_width a.from.list) (length a.text.now) step_room in
    let less-numbers : count * row_width a.from.list ≤ fit known * row_width a.from.list = mul-le-mul_right (row_width a.from.list) few in
    let less-bytes : count * step_room ≤ fit known * step_room = mul-le-mul_right step_room few in
    let low : row_width a.from.list ≤ longest_row = width_most c.requires.on_way.on_list.lawful in
    let kept : length c.take_rows-portion.new.rows ≡ length a.rows.now = c.take_rows-portion.auto.rows in
    let left_over = few_handed a.from a.size a.done (fit known) (handed known) in
    record {
      width_le_longest_row = rw wide low;
      width_in_bounds = rw wide (omega arith);
      le_size = c.requires.on_way.some;
      count_bound = omega (arith, c.requires.on_way.few);
      step_room_in_bounds = omega arith;
    }

pub returns-then-portion : goal.returns-then-portion
returns-then-portion c =
    let known = (goal.at.returns-then-portion c).After-take_rows-portion in
    let a = c.args in
    let put = c.put_rows-bytes.ensures in
    let all = next_more a.from a.size a.done (fit known) (handed known) (some_fit known) c.requires.on_way a.text.now
    c.if-count-eq0.false (rw c.width_of-width.ensures at put.value) (rw c.width_of-width.ensures at put.text_after) c.if-portion.true in
    record { value = all.0; rows_after = all.1.0; text_after = all.1.1 }

pub returns : goal.returns
returns c =
    let known = (goal.at.returns c).After-take_rows-portion in
    let a = c.args in
    let put = c.put_rows-bytes.ensures in
    let all = next_end a.from a.size a.done (fit known) (handed known) (some_fit known) c.requires.on_way a.text.now
    c.if-count-eq0.false (rw c.width_of-width.ensures at put.value) (rw c.width_of-width.ensures at put.text_after) c.if-portion.false in
    record { value = all.0; rows_after = all.1.0; text_after = all.1.1 }
