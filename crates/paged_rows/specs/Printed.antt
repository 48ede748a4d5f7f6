-- The list printed row by row: behind a row stands the line of its page where the row is the page's last or the list's last.
-- So printed, the rows are the pages of the listing: by the rows left on the page, and then by the pages.
-- Assumes nothing.
use Rattle.std.specs.Prelude.{◌≡◌, Bool, true, false, ◌||◌, not, List, [], ◌∷◌, ◌++◌, map, ℕ, zero, suc, ◌+◌, ◌-◌, ◌*◌, ◌/◌, ◌%◌, ◌≤◌, ◌<◌, eqb, ltb, length, take, drop}
use Rattle.std.proofs.Math.Path.{refl}
use Rattle.std.proofs.Common.{ap, ◌∙◌, append_assoc, append-nil, zero-add, add-zero, zero-mul, mod-eq_of_lt, add-one, arith, length-drop}
use Rattle.std.proofs.Math.Nat.{mul-add-div_right, div-eq_of_lt, mul-add-mod_self_right}
use Rattle.std.proofs.Math.Seq.{take-nil}
use borrow.Author.Tests.{eq-eqb, ne_eqb, lt-ltb, le-ltb, ltb-true, ltb-false}
use Rattle.definitions.specs.Number.{join}
use Rattle.definitions.specs.Listing.{row_text, page_text, pages_text, header_text, total_text, list_text}
use Rattle.definitions.specs.Ranking.{ranked}
use Rattle.definitions.specs.declared.Selection.{Selection}
use Rattle.page_line.specs.Due.{due_text, due_true}

abbrev pub some : List (List ℕ) → Bool
some [] = false
some (r ∷ rows) = true

-- The rows left to print, behind `done` rows.
unfoldable pub printed : ℕ → ℕ → List (List ℕ) → List ℕ
printed size done [] = []
printed size done (r ∷ rows) = row_text r ++ due_text size done (some rows) ++ printed size (suc done) rows

-- The same with the line of one empty page where the list has no row.
unfoldable pub printed_from : ℕ → ℕ → List (List ℕ) → List ℕ
printed_from size done [] = page_text 1 0 false
printed_from size done (r ∷ rows) = printed size done (r ∷ rows)

module _ (size : ℕ) where
  -- Row i of page k.
  place_page : (k i : ℕ) → i < size → (k * size + i) / size ≡ k
  place_page k i h = mul-add-div_right (omega arith) k i ∙ rw (div-eq_of_lt h) (add-zero k)

  place_row : (k i : ℕ) → i < size → (k * size + i) % size ≡ i
  place_row k i h = mul-add-mod_self_right k size i ∙ mod-eq_of_lt h

  due_page : (k i : ℕ) (further : Bool) → i < size → (not further || eqb (suc i) size) ≡ true
      → due_text size (k * size + i) further ≡ page_text (suc k) (suc i) further
  due_page k i further h e =
      let row = place_row k i h in
      let test : (not further || eqb ((k * size + i) % size + 1) size) ≡ true = rw (row, add-one i) e in
      due_true size (k * size + i) further test ∙ rw (row, place_page k i h, add-one i, add-one k)

  due_end : (k i : ℕ) → i < size → due_text size (k * size + i) false ≡ page_text (suc k) (suc i) false
  due_end k i h = due_page k i false h refl

  due_full : (k i : ℕ) → suc i ≡ size → due_text size (k * size + i) true ≡ page_text (suc k) size true
  due_full k i h = due_page k i true (omega arith) (eq-eqb (suc i) size h) ∙ ap (λ (n : ℕ). page_text (suc k) n true) h

  due_not : (k i : ℕ) → suc i < size → due_text size (k * size + i) true ≡ []
  unfolding due_text
  due_not k i h =
      let row = place_row k i (omega arith) in
      rw (due_text, ne_eqb ((k * size + i) % size + 1) size (λ e. omega arith))

  -- What is left of a page of which `room` more rows fit, and the pages behind it.
  left_page : ℕ → ℕ → ℕ → List (List ℕ) → List ℕ
  left_page k i room rows =
      join (map row_text (take room rows))
      ++ elim (ltb room (length rows)) [
        | true ↦ page_text (suc k) size true ++ printed size (suc k * size) (drop room rows)
        | false ↦ page_text (suc k) (i + length rows) false
      ]

  left_more : (k i room : ℕ) (rows : List (List ℕ)) → room < length rows
      → left_page k i room rows ≡ join (map row_text (take room rows)) ++ (page_text (suc k) size true ++ printed size (suc k * size) (drop room rows))
  unfolding left_page
  left_more k i room rows h = rw (lt-ltb room (length rows) h)

  left_end : (k i room : ℕ) (rows : List (List ℕ)) → length rows ≤ room
      → left_page k i room rows ≡ join (map row_text (take room rows)) ++ page_text (suc k) (i + length rows) false
  unfolding left_page
  left_end k i room rows h = rw (le-ltb room (length rows) h)

  -- One row more on the page.
  left_row : (r : List ℕ) (k i room : ℕ) (rows : List (List ℕ)) → row_text r ++ left_page k (suc i) room rows ≡ left_page k i (suc room) (r ∷ rows)
  left_row r k i room rows = go (ltb room (length rows)) refl
    where
      go : (b : Bool) → ltb room (length rows) ≡ b → row_text r ++ left_page k (suc i) room rows ≡ left_page k i (suc room) (r ∷ rows)
      go true e =
          let h = ltb-true room (length rows) e in
          rw (left_more k (suc i) room rows h, left_more k i (suc room) (r ∷ rows) (omega arith)) (simp append_assoc)
      go false e =
          let h = ltb-false room (length rows) e in
          let all : suc i + length rows ≡ i + suc (length rows) = omega arith in
          rw (left_end k (suc i) room rows h, left_end k i (suc room) (r ∷ rows) (omega arith), all) (simp append_assoc)

  printed_row : (done : ℕ) (r : List ℕ) (rows : List (List ℕ))
      → printed size done (r ∷ rows) ≡ row_text r ++ due_text size done (some rows) ++ printed size (suc done) rows
  unfolding printed
  printed_row done r rows = refl

  printed_none : (done : ℕ) → printed size done [] ≡ []
  unfolding printed
  printed_none done = refl

  page_left : (r : List ℕ) (rows : List (List ℕ)) (k i room : ℕ) → i + suc room ≡ size
      → printed size (k * size + i) (r ∷ rows) ≡ left_page k i (suc room) (r ∷ rows)
  page_left r [] k i room h =
      rw (printed_row, printed_none, due_end k i (omega arith), left_end k i (suc room) (r ∷ []) (omega arith), take-nil {A = List ℕ} room, add-one i)
      (simp append-nil)
  page_left r (s ∷ rows) k i zero h =
      let next : suc (k * size + i) ≡ suc k * size = omega arith in
      rw (printed_row (k * size + i) r (s ∷ rows), due_full k i (omega arith), left_more k i 1 (r ∷ s ∷ rows) (omega arith), next)
      (simp (append-nil, append_assoc))
  page_left r (s ∷ rows) k i (suc room) h =
      let next : suc (k * size + i) ≡ k * size + suc i = omega arith in
      rw (printed_row (k * size + i) r (s ∷ rows), due_not k i (omega arith), append-nil (row_text r), next, page_left s rows k (suc i) room (omega arith))
      (left_row r k i (suc room) (s ∷ rows))

  pages_more : (within number : ℕ) (rows : List (List ℕ)) → size < length rows
      → pages_text (suc within) number size rows
      ≡ join (map row_text (take size rows)) ++ (page_text number size true ++ pages_text within (suc number) size (drop size rows))
  unfolding pages_text
  pages_more within number rows h = rw (lt-ltb size (length rows) h)

  pages_end : (within number : ℕ) (rows : List (List ℕ)) → length rows ≤ size
      → pages_text (suc within) number size rows ≡ join (map row_text (take size rows)) ++ page_text number (length rows) false
  unfolding pages_text
  pages_end within number rows h = rw (le-ltb size (length rows) h)

  page_whole : (k : ℕ) (rows : List (List ℕ)) → 1 ≤ size → 1 ≤ length rows → printed size (k * size) rows ≡ left_page k 0 size rows
  page_whole k [] h l = absurd (omega arith)
  page_whole k (r ∷ rows) h l =
      let all : suc (size - 1) ≡ size = omega arith in
      rw all at (rw (add-zero (k * size)) at (page_left r rows k 0 (size - 1) (omega arith)))

  -- The pages from page k on.
  pages_printed : (within k : ℕ) (rows : List (List ℕ)) → 1 ≤ size → 1 ≤ length rows → length rows ≤ within
      → pages_text (suc within) (suc k) size rows ≡ printed size (k * size) rows
  pages_printed zero k rows h l m = absurd (omega arith)
  pages_printed (suc within) k rows h l m = go (ltb size (length rows)) refl (pages_printed within (suc k) (drop size rows) h)
    where
      go : (b : Bool) → ltb size (length rows) ≡ b
          → (1 ≤ length (drop size rows) → length (drop size rows) ≤ within
          → pages_text (suc within) (suc (suc k)) size (drop size rows) ≡ printed size (suc k * size) (drop size rows))
          → pages_text (suc (suc within)) (suc k) size rows ≡ printed size (k * size) rows
      go true e ih =
          let more = ltb-true size (length rows) e in
          let rest = length-drop size rows in
          rw (pages_more (suc within) (suc k) rows more, page_whole k rows h l, left_more k 0 size rows more, ih (omega arith) (omega arith))
      go false e ih =
          let end = ltb-false size (length rows) e in
          rw (pages_end (suc within) (suc k) rows end, page_whole k rows h l, left_end k 0 size rows end, zero-add (length rows))

-- The listing's pages are its rows, printed one after the other.
pub pages_are_printed : (size : ℕ) (rows : List (List ℕ)) → 1 ≤ size → pages_text (suc (length rows)) 1 size rows ≡ printed_from size 0 rows
unfolding printed_from
pages_are_printed size [] h = rw (pages_end size 0 1 [] (omega arith), take-nil {A = List ℕ} size)
pages_are_printed size (r ∷ rows) h = pages_printed size (length (r ∷ rows)) 0 (r ∷ rows) h (omega arith) (omega arith) ∙ rw (zero-mul size)

pub list_is_printed : (l : Selection) (size : ℕ) → 1 ≤ size
    → list_text l size ≡ header_text l.degree l.top ++ printed_from size 0 (ranked l) ++ total_text (length (ranked l))
unfolding list_text
list_is_printed l size h = rw (pages_are_printed size (ranked l) h)

-- A row, and the line of its page where that ends.
abbrev pub step_text : ℕ → ℕ → Bool → List ℕ → List ℕ
step_text size done further row = row_text row ++ due_text size done further

-- Some rows of the list, of which more follow or not.
unfoldable pub rows_text : ℕ → ℕ → Bool → List (List ℕ) → List ℕ
rows_text size done further [] = []
rows_text size done further (r ∷ rows) = step_text size done (some rows || further) r ++ rows_text size (suc done) further rows

some_append : (a b : List (List ℕ)) → some (a ++ b) ≡ (some a || some b)
some_append [] b = refl
some_append (r ∷ a) b = refl

-- The parts joined are the rows of the whole list, wherever it is cut.
pub parts_are_printed : (size done : ℕ) (a b : List (List ℕ)) → rows_text size done (some b) a ++ printed size (done + length a) b ≡ printed size done (a ++ b)
unfolding rows_text printed
parts_are_printed size done [] b = rw (add-zero done)
parts_are_printed size done (r ∷ a) b =
    let next : done + suc (length a) ≡ suc done + length a = omega arith in
    let first = row_text r ++ due_text size done (some a || some b) in
    rw (
      next,
      append_assoc first (rows_text size (suc done) (some b) a) (printed size (suc done + length a) b),
      parts_are_printed size (suc done) a b,
      some_append a b,
    )
