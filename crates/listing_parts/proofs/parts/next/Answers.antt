-- `listing_parts::parts::next` puts the next part, by what is left to print. Assumes nothing.
use mathlib.Core.Path.{refl, sym, ap}
use native.Mathlib.Omega.{arith}
use Rattle.definitions.specs.Listing.{refused_text, header_text, total_text}
use Rattle.slice_laws.specs.Over.{over_nothing}
use Rattle.slice_laws.proofs.Placing.{put_front}
use Rattle.paged_rows.specs.Room.{refused_room_lem, header_room, total_room}
use Rattle.cursor.specs.declared.reading.Cursor.{Cursor}
use Rattle.listing_start.specs.declared.Printing.TheVariants.{Refused, Whole, Rows, Total, Nothing}
use Rattle.listing_parts.proofs.Front.{line_part}
use Rattle.listing_parts.proofs.parts.next.Goals as goal

-- ---- rows
pub next_rows-requires : goal.next_rows-requires
next_rows-requires c =
    let is = c.in-Rows.is in
    record { on_way = rw is at c.requires.underway; list_in_bounds = rw is at c.requires.at_in_bounds; step_room_in_bounds = c.requires.step_room_in_bounds }

pub returns-in-Refused : goal.returns-in-Refused
returns-in-Refused c =
    let is = c.in-Refused.is in
    let lawful = rw is at c.requires.underway in
    let line = put_front (refused_text c.in-Refused.number) c.args.text.now
    (omega (arith, refused_room_lem c.in-Refused.number lawful, c.requires.step_room_in_bounds)) c.put_refused.ensures.value c.put_refused.ensures.out_after in
    let all = line_part (Refused c.in-Refused.number) c.args.rows.now c.args.text.now refl line.0 refl line.1 in record { value = rw is all.0; rows_after = rw is all.1.0; text_after = rw is all.1.1 }

pub returns-in-Whole : goal.returns-in-Whole
returns-in-Whole c =
    let is = c.in-Whole.is in
    let list = c.in-Whole.list in
    let lawful = rw is at c.requires.underway in
    let line = put_front (header_text list.degree list.top) c.args.text.now
    (omega (arith, header_room list.degree list.top (omega (arith, lawful.0.degree.high)) (omega (arith, lawful.0.top.high)), c.requires.step_room_in_bounds))
    c.put_header.ensures.value c.put_header.ensures.out_after in
    let all = line_part (Whole list c.in-Whole.size) c.args.rows.now c.args.text.now refl line.0
    (ap (λ (d : Cursor). Rows d c.in-Whole.size 0) c.start.ensures) line.1 in record { value = rw is all.0; rows_after = rw is all.1.0; text_after = rw is all.1.1 }

pub returns-in-Rows : goal.returns-in-Rows
returns-in-Rows c =
    let is = c.in-Rows.is in
    let done = c.next_rows.ensures in
    record { value = rw is done.value; rows_after = rw is done.rows_after; text_after = rw is done.text_after }

pub returns-in-Total : goal.returns-in-Total
returns-in-Total c =
    let is = c.in-Total.is in
    let lawful = rw is at c.requires.underway in
    let line = put_front (total_text c.in-Total.count) c.args.text.now
    (omega (arith, total_room c.in-Total.count lawful, c.requires.step_room_in_bounds)) c.put_total.ensures.value c.put_total.ensures.out_after in
    let all = line_part (Total c.in-Total.count) c.args.rows.now c.args.text.now refl line.0 refl line.1 in record { value = rw is all.0; rows_after = rw is all.1.0; text_after = rw is all.1.1 }

-- ---- nothing
pub returns-in-Nothing : goal.returns-in-Nothing
returns-in-Nothing c =
    let is = c.in-Nothing.is in
    let all = line_part Nothing c.args.rows.now c.args.text.now refl refl refl (sym (over_nothing 0 c.args.text.now)) in record { value = rw is all.0; rows_after = rw is all.1.0; text_after = rw is all.1.1 }
