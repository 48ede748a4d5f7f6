-- `page_line::due::put_due` puts the line of a page behind its last row, and nothing behind its other rows. Assumes nothing.
use mathlib.Core.Path.{◌≡◌}
use Prim.Native.Nat.{◌/◌, ◌%◌, ◌+◌}
use native.Mathlib.Nat.{mod-lt, div-le_self}
use native.Mathlib.Omega.{arith}
use Rattle.definitions.specs.Listing.{page_text}
use Rattle.slice_laws.proofs.Placing.{put_nothing}
use Rattle.page_line.specs.Due.{due_text, due_within, due_at_end, due_at_full}
use Rattle.page_line.proofs.due.put_due.Goals as goal
use Rattle.page_line.proofs.due.put_due.Goals.{Joined-else-further, else-further-via-else-further, else-further-via-then-further+else-row-size}

-- By which way the line is due.
due : (c : Joined-else-further) → let a = c.args in
    due_text a.size a.done a.further ≡ page_text (a.done / a.size + 1) (a.done % a.size + 1) a.further
due c =
    let a = c.args in
    elim c.else-further.branch [ else-further-via-then-further+else-row-size w ↦ rw w.if-further.true (due_at_full a.size a.done c.requires.le_size w.if-row-size.false) | else-further-via-else-further w ↦ rw w.if-further.false (due_at_end a.size a.done c.requires.le_size) ]

pub overflow_add-row : goal.overflow_add-row
overflow_add-row c =
    let a = c.args in omega (arith, mod-lt a.done c.requires.le_size)

pub returns-then-row-size : goal.returns-then-row-size
returns-then-row-size c =
    let a = c.args in
    let none = due_within a.size a.done c.requires.le_size c.if-row-size.true in
    record {
      value = rw (c.if-further.true, none) ((put_nothing a.at a.out.now).0);
      out_after = rw (c.if-further.true, none) ((put_nothing a.at a.out.now).1);
    }

pub overflow_add-done : goal.overflow_add-done
overflow_add-done c =
    let a = c.args in omega (arith, div-le_self a.done a.size)

pub returns : goal.returns
returns c =
    let known = (goal.at.returns c).Joined-else-further in
    record { value = rw (due known) (c.put_page.ensures.value); out_after = rw (due known) (c.put_page.ensures.out_after) }
