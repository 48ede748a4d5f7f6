-- `row_text::write::write_row` writes a row's text over what stood at the place. Assumes nothing.
use mathlib.Core.Path.{refl, ap, ◌∙◌}
use native.Mathlib.Omega.{arith}
use lib.ListN.{length, get_or}
use Rattle.definitions.specs.Listing.{decimal, newline}
use Rattle.slice_laws.specs.Over.{over_one, over_then_room}
use Rattle.row_text.specs.Rows.{gap, row_left, left_turn_length, left_turn_step, left_end}
use Rattle.row_text.proofs.write.write_row.Goals as goal

pub loop-i-init : goal.loop-i-init
loop-i-init c =
    let a = c.args in rw (row_left a.row.now) (record { length_left = refl; text_left = refl })

pub write_gap-start-requires : goal.write_gap-start-requires
write_gap-start-requires c = omega (arith, left_turn_length c.args.row.now c.loop-i.i c.loop-i-test.true)

pub write_decimal-place-requires : goal.write_decimal-place-requires
write_decimal-place-requires c =
    let here = c.loop-i in
    let row = c.args.row.now in
    let whole = left_turn_length row here.i c.loop-i-test.true in
    over_then_room here.place (gap here.i) (decimal (get_or row here.i 0)) here.out
    c.write_gap-start.ensures.value c.write_gap-start.ensures.out_after (omega arith)

pub loop-i-preserved : goal.loop-i-preserved
loop-i-preserved c =
    let here = c.loop-i in
    let row = c.args.row.now in
    let step = left_turn_step row here.i c.loop-i-test.true here.place here.out (omega arith)
    c.write_gap-start.ensures.value c.write_gap-start.ensures.out_after c.write_decimal-place.ensures.value c.write_decimal-place.ensures.out_after in
    record { length_left = step.1 ∙ here.invariant.length_left; text_left = step.2 ∙ here.invariant.text_left }

pub bounds-out-place : goal.bounds-out-place
bounds-out-place c =
    let row = c.args.row.now in
    omega (arith, ap length (left_end row c.loop-i.i c.loop-i-test.false))

pub overflow_add-result : goal.overflow_add-result
overflow_add-result c =
    let row = c.args.row.now in
    omega (arith, ap length (left_end row c.loop-i.i c.loop-i-test.false))

pub returns : goal.returns
returns c =
    let here = c.loop-i in
    let row = c.args.row.now in
    let end = left_end row here.i c.loop-i-test.false in
    let one = ap length end in record { value = omega arith; out_after = over_one here.place newline here.out (omega arith) ∙ rw end at here.invariant.text_left }
