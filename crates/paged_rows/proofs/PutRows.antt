-- Rows put one behind the other with the lines of their pages: what is put and what is left to put are the whole text, at the start and after each
-- row; at the end nothing is left. Assumes nothing.
use mathlib.Core.Path.{◌≡◌, refl, sym, ap, ◌∙◌}
use mathlib.Core.Bool.{Bool, ◌||◌}
use mathlib.Core.List.{List, [], ◌∷◌, ◌++◌}
use Prim.Native.Nat.{ℕ, suc, ◌+◌, ◌-◌, ◌*◌, ◌≤◌, ◌<◌}
use native.Mathlib.Nat.{add-zero, mul-le-mul_right}
use native.Mathlib.Numerals.{add-one}
use native.Mathlib.Omega.{arith}
use lib.Dec.{ltb}
use lib.ListN.{length, take, drop, length-append, length-take, length-drop, drop_of_length-le}
use lib.Seq.{drop-cons}
use borrow.Author.Tests.{lt-ltb, le-ltb}
use Rattle.definitions.specs.Number.{over}
use Rattle.definitions.specs.Listing.{row_text}
use Rattle.slice_laws.specs.Over.{over_nothing, over_append, over_then, over_then_room, length_over}
use Rattle.slice_laws.specs.Place.{placed, behind}
use Rattle.slice_laws.proofs.Placing.{placed_fits, behind_fits}
use Rattle.page_laws.specs.Rows.{rows_of, length_rows, row_at_lem}
use Rattle.page_line.specs.Due.{due_text}
use Rattle.paged_rows.specs.Printed.{some, step_text, rows_text}
use Rattle.paged_rows.specs.Room.{step_room}

-- ---- a row and the line of its page

-- The two texts put one behind the other.
module _ (at size done : ℕ) (further : Bool) (row text : List ℕ) (room : at + length (step_text size done further row) ≤ length text) where
  pub step_put : {end r : ℕ} {mid exit : List ℕ} → end ≡ behind at (row_text row) text → mid ≡ placed at (row_text row) text
      → r ≡ behind end (due_text size done further) mid → exit ≡ placed end (due_text size done further) mid
      → (r ≡ at + length (step_text size done further row)) × (exit ≡ over at (step_text size done further row) text)
  step_put {end} {r} {mid} {exit} u v x y =
      let due = due_text size done further in
      let sum = length-append (row_text row) due in
      let first : at + length (row_text row) ≤ length text = omega arith in
      let both_fit : at + length (row_text row) + length due ≤ length text = omega arith in
      let end_is : end ≡ at + length (row_text row) = u ∙ behind_fits at (row_text row) text first in
      let mid-is : mid ≡ over at (row_text row) text = v ∙ placed_fits at (row_text row) text first in
      let second : end + length due ≤ length mid = over_then_room at (row_text row) due text end_is mid-is both_fit in
      over_then at (row_text row) due text both_fit end_is mid-is (x ∙ behind_fits end due mid second) (y ∙ placed_fits end due mid second)

-- ---- rows of one width behind each other

-- Row i of n rows lies within a slice that holds them.
pub row_within : (i n w size : ℕ) → i < n → n * w ≤ size → i * w + w ≤ size
row_within i n w size h k = let m : suc i * w ≤ n * w = mul-le-mul_right w h in omega arith

pub row_cut : (i w : ℕ) (rows : List ℕ) → take (i * w + w - i * w) (drop (i * w) rows) ≡ take w (drop (i * w) rows)
row_cut i w rows = let wide : i * w + w - i * w ≡ w = omega arith in rw wide

-- A row is as wide as the rows are.
pub row_wide : (i w most : ℕ) (rows : List ℕ) → w ≤ most → length (take (i * w + w - i * w) (drop (i * w) rows)) ≤ most
row_wide i w most rows h = rw length-take (omega arith)

some_left : (l : List (List ℕ)) (i n : ℕ) → length l ≡ n - (i + 1) → some l ≡ ltb (i + 1) n
some_left [] i n e = sym (le-ltb (i + 1) n (omega arith))
some_left (r ∷ l) i n e = sym (lt-ltb (i + 1) n (omega arith))

rows_more : (size done : ℕ) (further : Bool) (r : List ℕ) (rows : List (List ℕ))
    → rows_text size done further (r ∷ rows) ≡ step_text size done (some rows || further) r ++ rows_text size (suc done) further rows
unfolding rows_text
rows_more size done further r rows = refl

rows_none : (size done : ℕ) (further : Bool) → rows_text size done further [] ≡ []
unfolding rows_text
rows_none size done further = refl

module _ (w count size done : ℕ) (further : Bool) (rows : List ℕ) where
  -- All rows; their text; and the text of those from row i on.
  abbrev all : List (List ℕ)
  all = rows_of w count rows

  abbrev pub whole : List ℕ
  whole = rows_text size done further all

  abbrev pub rest : ℕ → List ℕ
  rest i = rows_text size (done + i) further (drop i all)

  -- i rows are put, up to the place `at`, into a buffer that was text₀.
  pub record PutTo (text₀ text : List ℕ) (at i : ℕ) : Type 0 where
    pub within : i ≤ count
    pub short : at ≤ i * step_room
    pub long : length text ≡ length text₀
    pub place : at + length (rest i) ≡ length whole
    pub written : over at (rest i) text ≡ over 0 whole text₀

  pub put_start : (text : List ℕ) → PutTo text text 0 0
  put_start text = record {
    within = omega arith;
    short = omega arith;
    long = refl;
    place = rw (add-zero done) (omega arith);
    written = rw (add-zero done);
  }

  rest_turn : (i : ℕ) → i < count
      → rest i ≡ step_text size (done + i) (ltb (i + 1) count || further) (take w (drop (i * w) rows)) ++ rest (i + 1)
  rest_turn i h =
      let long = length_rows w count rows in
      let next : done + (i + 1) ≡ suc (done + i) = omega arith in
      let others : length (drop (suc i) all) ≡ count - (i + 1) = length-drop (suc i) all ∙ omega arith in
      rw (next, add-one i, drop-cons all i [] (omega arith), rows_more, row_at_lem w count i rows h, some_left (drop (suc i) all) i count others, add-one i)

  pub put_turn : {text₀ text exit : List ℕ} {at i r : ℕ} → PutTo text₀ text at i → i < count → count * step_room ≤ length text₀
      → let step = step_text size (done + i) (ltb (i + 1) count || further) (take w (drop (i * w) rows)) in
      length step ≤ step_room → r ≡ at + length step → exit ≡ over at step text → PutTo text₀ exit r (i + 1)
  put_turn {text₀} {text} {exit} {at} {i} {r} here h room few e f =
      let step = step_text size (done + i) (ltb (i + 1) count || further) (take w (drop (i * w) rows)) in
      let turn = rest_turn i h in
      let sum = ap length turn ∙ length-append step (rest (i + 1)) in
      let next : suc i * step_room ≤ count * step_room = mul-le-mul_right step_room h in
      let inside : at + length step ≤ length text = omega (arith, here.short, here.long) in
      record {
        within = omega arith;
        short = omega (arith, here.short);
        long = ap length f ∙ length_over at step text inside ∙ here.long;
        place = omega (arith, here.place);
        written = rw (e, f, over_append at step (rest (i + 1)) text inside, ← turn) here.written;
      }

  pub put_end : {text₀ text : List ℕ} {at i : ℕ} → PutTo text₀ text at i → count ≤ i → (at ≡ length whole) × (text ≡ over 0 whole text₀)
  put_end {text₀} {text} {at} {i} here h =
      let none : rest i ≡ [] =
      ap (rows_text size (done + i) further) (drop_of_length-le all {i = i} (omega (arith, length_rows w count rows))) ∙ rows_none size (done + i) further in
      (omega (arith, here.place, ap length none), sym (over_nothing at text) ∙ rw none at here.written)
