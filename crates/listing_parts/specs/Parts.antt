-- A part of the text, and what is left behind it: a line, or the first rows that are left with the lines of their pages. THE PARTS JOINED ARE THE
-- TEXT: a part and the text that is left behind it are the text that was left, wherever the rows are cut; and no part is empty while a row fits.
-- Assumes nothing.
use Rattle.std.specs.Prelude.{◌≡◌, Bool, false, cond, ℕ, zero, suc, ◌+◌, ◌/◌, ◌≤◌, ◌<◌, min}
use Rattle.std.proofs.Math.Path.{refl, sym, ap}
use Rattle.std.proofs.Common.{◌∙◌, zero-add, le-div_iff_mul-le, arith, take-append-drop, take_at}
use Rattle.std.proofs.Math.Bool.{true}
use Rattle.std.proofs.lemmas.Bool.{false≢true}
use mathlib.Core.List.{List, [], ◌∷◌, ◌++◌, append_assoc, append-nil}
use Rattle.std.proofs.Math.ListN.{length, take, drop, length-append}
use Rattle.std.proofs.Math.Seq.{drop-nil}
use Rattle.definitions.specs.Number.{join, over}
use Rattle.definitions.specs.Ranking.{longest_row, ranked}
use Rattle.definitions.specs.Listing.{refused_text, header_text, page_text, total_text}
use Rattle.number_laws.specs.Truth.{by_test}
use Rattle.number_laws.specs.Bounds.{lead_high}
use Rattle.slice_laws.specs.Over.{over_front}
use Rattle.ranking_laws.specs.Ranked.{ranked_few}
use Rattle.search.specs.Frame.{width_most}
use Rattle.cursor.specs.Left.{left, start_of, passed}
use Rattle.cursor.specs.Passed.{passed_left, passed_on}
use Rattle.cursor.specs.Turns.{left_start, start_reads}
use Rattle.cursor.specs.declared.reading.Cursor.{Cursor}
use Rattle.paged_rows.specs.Printed.{some, printed, printed_from, rows_text, list_is_printed, parts_are_printed}
use Rattle.paged_rows.specs.Room.{step_room, row_some_text, empty_page, refused_some, header_some, total_some}
use Rattle.listing_start.specs.Left.{text_left, Underway, row_room}
use Rattle.listing_start.specs.declared.Printing.{Printing}
use Rattle.listing_start.specs.declared.Printing.TheVariants.{Refused, Whole, Rows, Total, Nothing}
use Rattle.listing_parts.specs.declared.parts.Part.{Part}

-- The text of the first k rows of those that are left; where none is left, the line of an empty page.
abbrev pub rows_part : ℕ → ℕ → ℕ → List (List ℕ) → List ℕ
rows_part k size done [] = page_text 1 0 false
rows_part k size done (r ∷ rows) = rows_text size done (some (drop k (r ∷ rows))) (take k (r ∷ rows))

-- The next part, where k rows fit: its rows and its text, and what is left behind it.
abbrev pub part_rows : ℕ → Printing → List (List ℕ)
part_rows k (Refused n) = []
part_rows k (Whole l size) = []
part_rows k (Rows c size done) = take k (left c)
part_rows k (Total n) = []
part_rows k Nothing = []

abbrev pub part_text : ℕ → Printing → List ℕ
part_text k (Refused n) = refused_text n
part_text k (Whole l size) = header_text l.degree l.top
part_text k (Rows c size done) = rows_part k size done (left c)
part_text k (Total n) = total_text n
part_text k Nothing = []

abbrev pub behind_rows : ℕ → Cursor → ℕ → ℕ → List (List ℕ) → Printing
behind_rows k c size done [] = Total (done + length (left c))
behind_rows k c size done (r ∷ rows) = Rows (passed c (take k (left c))) size (done + length (take k (left c)))

abbrev pub behind_part : ℕ → Printing → Printing
behind_part k (Refused n) = Nothing
behind_part k (Whole l size) = Rows (start_of l) size 0
behind_part k (Rows c size done) = behind_rows k c size done (drop k (left c))
behind_part k (Total n) = Nothing
behind_part k Nothing = Nothing

-- Whether anything is left.
abbrev pub goes_on : Printing → Bool
goes_on (Refused n) = true
goes_on (Whole l size) = true
goes_on (Rows c size done) = true
goes_on (Total n) = true
goes_on Nothing = false

abbrev pub next_part : ℕ → Printing → Part
next_part k at = record { bytes = length (part_text k at); more = goes_on (behind_part k at); next = behind_part k at }

-- How many rows fit the slices s of numbers and t of bytes; the answer to a call with them, and what they hold then.
abbrev pub rows_that_fit : Printing → List ℕ → List ℕ → ℕ
rows_that_fit at s t = min (length s / row_room at) (length t / step_room)

abbrev pub part_at : Printing → List ℕ → List ℕ → Part
part_at at s t = next_part (rows_that_fit at s t) at

abbrev pub rows_after : Printing → List ℕ → List ℕ → List ℕ
rows_after at s t = over 0 (join (part_rows (rows_that_fit at s t) at)) s

abbrev pub text_after : Printing → List ℕ → List ℕ → List ℕ
text_after at s t = over 0 (part_text (rows_that_fit at s t) at) t

-- ---- a part and what is left behind it

printed_none : (size done : ℕ) → printed size done [] ≡ []
unfolding printed
printed_none size done = refl

printed_some : (size done : ℕ) (r : List ℕ) (rows : List (List ℕ)) → printed_from size done (r ∷ rows) ≡ printed size done (r ∷ rows)
unfolding printed_from
printed_some size done r rows = refl

-- The rows up to the last, where none is left over.
rows_end : (size done : ℕ) (rows : List (List ℕ)) → rows_text size done false rows ≡ printed size done rows
rows_end size done rows =
    sym (append-nil (rows_text size done false rows))
    ∙ rw (← printed_none size (done + length rows)) (parts_are_printed size done rows [])
    ∙ ap (printed size done) (append-nil rows)

-- What follows the first k of some rows, of which l are left over: the rows left over, and the total.
abbrev behind_first : ℕ → ℕ → ℕ → List (List ℕ) → List (List ℕ) → List ℕ
behind_first k size done rows [] = total_text (done + length rows)
behind_first k size done rows (r ∷ l) =
    printed_from size (done + length (take k rows)) (r ∷ l) ++ total_text (done + length (take k rows) + length (r ∷ l))

module _ (k size done : ℕ) where
  -- All rows, cut behind the first k.
  rows_cut : (rows : List (List ℕ)) → printed_from size done rows ++ total_text (done + length rows)
      ≡ rows_part k size done rows ++ behind_first k size done rows (drop k rows)
  unfolding printed_from
  rows_cut [] = rw (drop-nil {A = List ℕ} k)
  rows_cut (x ∷ xs) = go (drop k (x ∷ xs)) refl
    where
      go : (l : List (List ℕ)) → drop k (x ∷ xs) ≡ l → printed_from size done (x ∷ xs) ++ total_text (done + length (x ∷ xs))
          ≡ rows_text size done (some l) (take k (x ∷ xs)) ++ behind_first k size done (x ∷ xs) l
      go [] e =
          let all : take k (x ∷ xs) ≡ x ∷ xs = sym (append-nil (take k (x ∷ xs))) ∙ rw e at (take-append-drop k (x ∷ xs)) in
          rw (all, rows_end size done (x ∷ xs))
      go (r ∷ l) e =
          let first = take k (x ∷ xs) in
          let n = done + length first in
          let whole : first ++ (r ∷ l) ≡ x ∷ xs = rw e at (take-append-drop k (x ∷ xs)) in
          let cut : rows_text size done true first ++ printed size n (r ∷ l) ≡ printed size done (x ∷ xs) =
          parts_are_printed size done first (r ∷ l) ∙ ap (printed size done) whole in
          let sum : done + length first + length (r ∷ l) ≡ done + length (x ∷ xs) = omega (arith, simp length-append at (ap length whole)) in
          rw (sum, ← append_assoc (rows_text size done true first) (printed size n (r ∷ l)) (total_text (done + length (x ∷ xs))), cut)

  rows_behind : (c : Cursor) (l : List (List ℕ)) → drop k (left c) ≡ l → behind_first k size done (left c) l ≡ text_left (behind_rows k c size done l)
  rows_behind c [] e = refl
  rows_behind c (r ∷ l) e = rw (passed_left c k, e)

-- THE TEXT THAT IS LEFT IS THE NEXT PART AND THE TEXT THAT IS LEFT BEHIND IT.
pub part_left : (k : ℕ) (at : Printing) → Underway at → text_left at ≡ part_text k at ++ text_left (behind_part k at)
part_left k (Refused n) u = sym (append-nil (refused_text n))
part_left k (Whole l size) u =
    list_is_printed l size u.1
    ∙ rw (left_start l, zero-add) (append_assoc (header_text l.degree l.top) (printed_from size 0 (ranked l)) (total_text (length (ranked l))))
part_left k (Rows c size done) u =
    rows_cut k size done (left c) ∙ ap (λ (t : List ℕ). rows_part k size done (left c) ++ t) (rows_behind k size done c (drop k (left c)) refl)
part_left k (Total n) u = sym (append-nil (total_text n))
part_left k Nothing u = refl

-- What is left behind a part is lawful again.
pub part_underway : (k : ℕ) (at : Printing) → Underway at → Underway (behind_part k at)
part_underway k (Refused n) u = tt
part_underway k (Whole l size) u =
    let degree = u.0.degree in
    let few = ranked_few l (omega (arith, degree.low)) in
    let most = lead_high degree in
    record { on_list = (start_reads l u.0).on_list; some = u.1; few = rw (left_start l) (omega arith) }
part_underway k (Rows c size done) u = go (drop k (left c)) refl
  where
    go : (l : List (List ℕ)) → drop k (left c) ≡ l → Underway (behind_rows k c size done l)
    go [] e = u.few
    go (r ∷ l) e = record {
      on_list = passed_on c k u.on_list;
      some = u.some;
      few = rw (passed_left c k) (omega (arith, u.few, simp length-append at (ap length (take-append-drop k (left c)))));
    }
part_underway k (Total n) u = tt
part_underway k Nothing u = tt

-- While anything is left, a part is not empty where a row fits that is next,
pub part_some : (k : ℕ) (at : Printing) → (1 ≤ row_room at → 1 ≤ k) → goes_on at ≡ true → 1 ≤ length (part_text k at)
unfolding rows_text
part_some k (Refused n) h g = refused_some n
part_some k (Whole l size) h g = header_some l.degree l.top
part_some zero (Rows c size done) h g = absurd (let one = h (omega arith) in omega arith)
part_some (suc k) (Rows c size done) h g = go (left c)
  where
    go : (rows : List (List ℕ)) → 1 ≤ length (rows_part (suc k) size done rows)
    go [] = empty_page.0
    go (r ∷ rows) = simp length-append (omega (arith, row_some_text r))
part_some k (Total n) h g = total_some n
part_some k Nothing h g = absurd (false≢true g)

-- so each part leaves a shorter text, and the parts come to an end.
pub part_shorter : (k : ℕ) (at : Printing) → Underway at → (1 ≤ row_room at → 1 ≤ k) → goes_on at ≡ true
    → length (text_left (behind_part k at)) < length (text_left at)
part_shorter k at u h g =
    let some_byte = part_some k at h g in
    let sum = simp length-append at (ap length (part_left k at u)) in
    omega arith

-- The measure of a loop over the parts: 0 at the end, and else one more than the bytes that are left.
abbrev pub to_go : Bool → Printing → ℕ
to_go more at = cond more (suc (length (text_left at))) 0

pub part_falls : (k : ℕ) (at : Printing) → Underway at → (1 ≤ row_room at → 1 ≤ k) → {r : Part} → r ≡ next_part k at → to_go r.more r.next < to_go true at
part_falls k at u h e = rw e (by_test (goes_on (behind_part k at))
    (λ m. rw m (let less = part_shorter k at u h (goes at m) in omega arith))
    (λ m. rw m (omega arith)))
  where
    goes : (at : Printing) → goes_on (behind_part k at) ≡ true → goes_on at ≡ true
    goes (Refused n) m = refl
    goes (Whole l size) m = refl
    goes (Rows c size done) m = refl
    goes (Total n) m = refl
    goes Nothing m = m

pub nothing_left : (at : Printing) → goes_on at ≡ false → text_left at ≡ []
nothing_left (Refused n) g = absurd (false≢true (sym g))
nothing_left (Whole l size) g = absurd (false≢true (sym g))
nothing_left (Rows c size done) g = absurd (false≢true (sym g))
nothing_left (Total n) g = absurd (false≢true (sym g))
nothing_left Nothing g = refl

-- ---- the slices of a call

-- A row that is next fits slices that hold one.
pub rows_that_fit_some : (at : Printing) (s t : List ℕ) → row_room at ≤ length s → step_room ≤ length t → 1 ≤ row_room at → 1 ≤ rows_that_fit at s t
rows_that_fit_some at s t h l w =
    let numbers : 1 ≤ length s / row_room at = (le-div_iff_mul-le {k = row_room at} {x = 1} {y = length s} (omega arith)).1 (omega arith) in
    let bytes : 1 ≤ length t / step_room = (le-div_iff_mul-le {k = step_room} {x = 1} {y = length t} (omega arith)).1 (omega arith) in
    omega arith

-- The longest row is enough.
pub row_room_most : (at : Printing) → Underway at → row_room at ≤ longest_row
row_room_most (Refused n) u = omega arith
row_room_most (Whole l size) u = omega arith
row_room_most (Rows c size done) u = width_most u.on_list.lawful
row_room_most (Total n) u = omega arith
row_room_most Nothing u = omega arith

-- What is put is at the front of the text, whatever its room.
pub put_part : (k : ℕ) (at : Printing) (t : List ℕ) {r : Part} {exit : List ℕ} → r ≡ next_part k at → exit ≡ over 0 (part_text k at) t
    → (r.bytes ≤ length exit) × (take r.bytes exit ≡ part_text k at)
put_part k at t e f =
    rw (e, f, over_front (part_text k at) t)
    (simp length-append (omega arith), take_at (part_text k at) (drop (length (part_text k at)) t) (length (part_text k at)) refl)
