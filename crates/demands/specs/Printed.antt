-- What the listing prints, of the calls themselves: `start` reads the bytes of a line, and `parts::next` puts the next part, each call with slices
-- of its own, chosen after what came before, that hold a row. What is printed so far and the text that is left are together the listing of the
-- line; no call on the way lacks what it requires; each prints at least a byte, so it ends; and what is printed at the end is the listing. `Post` is
-- what the toolchain makes of the source's `ensures`, and `Pre` of its `requires`. Assumes nothing.
use Rattle.std.specs.Prelude.{◌≡◌, true, false, List, [], ◌++◌, ℕ, suc, ◌+◌, ◌≤◌, length, take}
use Rattle.std.proofs.Common.{sym, ap, ◌∙◌, append_assoc, append-nil, arith, length-append}
use denote.Ref.{Bor, MutBor}
use Rattle.definitions.specs.Listing.{read_line, line_values, listing}
use Rattle.paged_rows.specs.Room.{step_room}
use Rattle.listing_start.specs.Left.{text_left, Underway, row_room}
use Rattle.listing_start.specs.Decision.{start_text, start_underway}
use Rattle.listing_start.specs.declared.Printing.{Printing}
use Rattle.listing_parts.specs.Parts.{goes_on, part_text, behind_part, rows_that_fit, part_left, part_underway, part_some, nothing_left, rows_that_fit_some, put_part}
use Rattle.listing.proofs.read_line.Reads as read-line
use Rattle.listing_start.proofs.start.Reads as start
use Rattle.listing_parts.proofs.parts.next.Reads as next
use Rattle.demands.specs.Arguments.{third}

-- The numbers that a line asks with, or that of its refusal, are the definition's.
pub read_line_values : (κs : _) (line : _) (r : _) (e : _) → read-line.Post κs (line, tt) r e → line_values r ≡ line_values (read_line line.now)
read_line_values κs line r e h = ap line_values h

-- `Prints input n done at`: n parts were put upon the bytes of a line, the bytes `done` in all, and `at` is left to print.
pub data Prints (input : List ℕ) : ℕ → List ℕ → Printing → Type 0 where
  begins : {at : Printing} (κs : _) (line : Bor (List ℕ)) (e : _) → line.now ≡ input → start.Post κs (line, tt) at e → Prints input 0 [] at
  goes_on_lem : {n : ℕ} {done : List ℕ} {at : Printing} → Prints input n done at → goes_on at ≡ true
      → (κs : _) (rows text : MutBor (List ℕ)) (r e : _) → row_room at ≤ length rows.now → step_room ≤ length text.now → next.Post κs (at, (rows, (text, tt))) r e
      → Prints input (suc n) (done ++ take r.bytes (third e).now) r.next

module _ (input : List ℕ) where
  -- What is left is lawful,
  prints_underway : {n : ℕ} {done : List ℕ} {at : Printing} → Prints input n done at → Underway at
  prints_underway (begins κs line e i h) = rw h (start_underway (read_line line.now))
  prints_underway (goes_on_lem {at = at} w g κs rows text r e room bytes h) =
      rw h.0 (part_underway (rows_that_fit at rows.now text.now) at (prints_underway w))

  -- so that the next call may be made, whatever slices that hold a row it brings.
  pub prints_may_go_on : {n : ℕ} {done : List ℕ} {at : Printing} → Prints input n done at
      → (κs : _) (rows text : MutBor (List ℕ)) → row_room at ≤ length rows.now → step_room ≤ length text.now → next.Pre κs (at, (rows, (text, tt)))
  prints_may_go_on w κs rows text room bytes = (prints_underway w, (room, bytes))

  -- WHAT IS PRINTED AND WHAT IS LEFT ARE THE LISTING.
  pub prints_so_far : {n : ℕ} {done : List ℕ} {at : Printing} → Prints input n done at → done ++ text_left at ≡ listing input
  prints_so_far (begins κs line e i h) = rw (h, i) (start_text input)
  prints_so_far (goes_on_lem {done = done} {at = at} w g κs rows text r e room bytes h) =
      let k = rows_that_fit at rows.now text.now in
      let part : take r.bytes (third e).now ≡ part_text k at = (put_part k at text.now h.0 h.1.1).1 in
      let behind : text_left r.next ≡ text_left (behind_part k at) = rw h.0 in
      rw (part, behind, append_assoc done (part_text k at) (text_left (behind_part k at)), ← part_left k at (prints_underway w)) (prints_so_far w)

  -- IT ENDS: each part has a byte at least, so there are no more parts than bytes of the listing.
  pub prints_few : {n : ℕ} {done : List ℕ} {at : Printing} → Prints input n done at → n ≤ length done
  prints_few (begins κs line e i h) = omega arith
  prints_few (goes_on_lem {done = done} {at = at} w g κs rows text r e room bytes h) =
      let k = rows_that_fit at rows.now text.now in
      let part : take r.bytes (third e).now ≡ part_text k at = (put_part k at text.now h.0 h.1.1).1 in
      let some = part_some k at (rows_that_fit_some at rows.now text.now room bytes) g in
      rw (part, length-append done (part_text k at)) (omega (arith, prints_few w))

  pub prints_end : {n : ℕ} {done : List ℕ} {at : Printing} → Prints input n done at → n ≤ length (listing input)
  prints_end {done = done} {at = at} w = omega (arith, prints_few w, simp length-append at (ap length (prints_so_far w)))

  -- IT IS THE LISTING: what is printed where nothing is left.
  pub prints_whole : {n : ℕ} {done : List ℕ} {at : Printing} → Prints input n done at → goes_on at ≡ false → done ≡ listing input
  prints_whole {done = done} {at = at} w g = sym (append-nil done) ∙ rw (← nothing_left at g) (prints_so_far w)

-- Each part says whether anything is left behind it.
pub next_tells : (κs : _) (at : Printing) (rows text r e : _) → next.Post κs (at, (rows, (text, tt))) r e → r.more ≡ goes_on r.next
next_tells κs at rows text r e h = rw h.0
