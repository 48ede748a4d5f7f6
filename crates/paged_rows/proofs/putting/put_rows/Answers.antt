-- `paged_rows::putting::put_rows` puts rows with the lines of their pages one behind the other. Assumes nothing.
use mathlib.Core.Path.{◌≡◌, sym, ap, ◌∙◌}
use mathlib.Core.Bool.{Bool, ◌||◌}
use Prim.Native.Nat.{suc, ◌+◌, ◌*◌, ◌≤◌}
use native.Mathlib.Nat.{mul-le-mul_right}
use native.Mathlib.Omega.{arith}
use lib.Dec.{ltb}
use lib.ListN.{length}
use borrow.Author.Tests.{lt-ltb, le-ltb}
use Rattle.definitions.specs.Ranking.{longest_row}
use Rattle.paged_rows.specs.Room.{step_room}
use Rattle.paged_rows.proofs.PutRows.{put_start, put_turn, put_end, row_within, row_cut, row_wide}
use Rattle.paged_rows.proofs.putting.put_rows.Goals as goal
use Rattle.paged_rows.proofs.putting.put_rows.Goals.{In-loop-i, then-i-count, else-i-count}

-- The row of a turn lies within the rows.
inside : (c : In-loop-i) → let a = c.args in c.loop-i.i * a.width + a.width ≤ length a.rows.now
inside c =
    let a = c.args in
    row_within c.loop-i.i a.count a.width (length a.rows.now) c.loop-i-test.true c.requires.width_in_bounds

pub loop-i-init : goal.loop-i-init
loop-i-init c =
    let a = c.args in put_start a.width a.count a.size a.done a.further a.rows.now a.text.now

pub overflow_mul-from : goal.overflow_mul-from
overflow_mul-from c = omega (arith, inside c)

pub overflow_add-row : goal.overflow_add-row
overflow_add-row c = omega (arith, inside c)

pub offset_bounds-rows-from : goal.offset_bounds-rows-from
offset_bounds-rows-from c = omega (arith, inside (goal.at.offset_bounds-rows-from c).In-loop-i)

pub slice_bounds-row-end : goal.slice_bounds-row-end
slice_bounds-row-end c = omega (arith, inside (goal.at.slice_bounds-row-end c).In-loop-i)

pub put_step-at-requires : goal.put_step-at-requires
put_step-at-requires c =
    let here = c.loop-i in
    let a = c.args in
    let next : suc here.i * step_room ≤ a.count * step_room = mul-le-mul_right step_room c.loop-i-test.true in
    let room : here.at + step_room ≤ length here.text = omega (arith, here.invariant.short, here.invariant.long, c.requires.step_room_in_bounds) in
    record { step_room_in_bounds = room; row_len_bound = row_wide here.i a.width longest_row a.rows.now c.requires.width_le_longest_row; le_size = c.requires.le_size; done_lt_most_rows = omega arith }

pub loop-i-preserved : goal.loop-i-preserved
loop-i-preserved c =
    let here = c.loop-i in
    let a = c.args in
    let cut = row_cut here.i a.width a.rows.now in
    let done = c.put_step-at.ensures in
    let more : c.if-i-count.more ≡ (ltb (here.i + 1) a.count || a.further) =
    elim c.if-i-count.branch [
      | then-i-count w ↦ (let yes = lt-ltb (here.i + 1) a.count w.if-i-count.true in w.more-is ∙ yes ∙ sym (ap (λ (b : Bool). b || a.further) yes))
      | else-i-count w ↦ w.more-is ∙ sym (ap (λ (b : Bool). b || a.further) (le-ltb (here.i + 1) a.count w.if-i-count.false))
    ] in
    put_turn a.width a.count a.size a.done a.further a.rows.now here.invariant c.loop-i-test.true c.requires.step_room_in_bounds
    (rw (cut, more) at done.row_len_bound_2) (rw (cut, more) at done.value) (rw (cut, more) at done.text_after)

pub returns : goal.returns
returns c =
    let a = c.args in
    let all = put_end a.width a.count a.size a.done a.further a.rows.now c.loop-i.invariant (omega arith) in record { value = all.0; text_after = all.1 }
