-- A row's text, number by number: a space stands before each number but the first, and a newline behind the last.
-- Its length is one more than the digits of each number, summed.
-- Assumes nothing.
use Rattle.std.specs.Prelude.{◌≡◌, refl, List, [], ◌∷◌, ◌++◌, ℕ, zero, suc, ◌+◌, ◌≤◌, ◌<◌, length, drop, get_or}
use Rattle.std.proofs.Common.{ap, ◌∙◌, append_assoc, add-one, arith, length-append, drop_of_length-le, drop-cons}
use Rattle.definitions.specs.Listing.{decimal, row_text, newline, space}
use Rattle.definitions.specs.Number.{over}
use Rattle.slice_laws.specs.Over.{over_append, length_over, over_then}

-- What stands before number i of a row.
unfoldable pub gap : ℕ → List ℕ
gap zero = []
gap (suc i) = space ∷ []

-- What is left of a row's text before number i, with the numbers r left.
unfoldable pub left_text : ℕ → List ℕ → List ℕ
left_text i [] = newline ∷ []
left_text i (n ∷ r) = gap i ++ (decimal n ++ left_text (suc i) r)

pub left_more : (i n : ℕ) (r : List ℕ) → left_text i (n ∷ r) ≡ gap i ++ (decimal n ++ left_text (suc i) r)
unfolding left_text
left_more i n r = refl

left_anywhere : (i j : ℕ) (r : List ℕ) → left_text (suc i) r ≡ left_text (suc j) r
unfolding left_text gap
left_anywhere i j [] = refl
left_anywhere i j (n ∷ r) = ap (λ (t : List ℕ). space ∷ decimal n ++ t) (left_anywhere (suc i) (suc j) r)

left_row : (n : ℕ) (r : List ℕ) → row_text (n ∷ r) ≡ decimal n ++ left_text 1 r
unfolding row_text left_text gap
left_row n [] = refl
left_row n (k ∷ r) =
    ap (λ (t : List ℕ). decimal n ++ space ∷ t) (left_row k r)
    ∙ ap (λ (t : List ℕ). decimal n ++ space ∷ (decimal k ++ t)) (left_anywhere 0 1 r)

pub row_left : (r : List ℕ) → row_text r ≡ left_text 0 r
unfolding row_text left_text gap
row_left [] = refl
row_left (n ∷ r) = left_row n r

-- The bytes of a row with numbers.
unfoldable pub row_bytes : List ℕ → ℕ
row_bytes [] = 0
row_bytes (n ∷ r) = length (decimal n) + 1 + row_bytes r

pub bytes_more : (n : ℕ) (r : List ℕ) → row_bytes (n ∷ r) ≡ length (decimal n) + 1 + row_bytes r
unfolding row_bytes
bytes_more n r = refl

left_length : (i : ℕ) (r : List ℕ) → length (left_text (suc i) r) ≡ suc (row_bytes r)
unfolding left_text gap row_bytes
left_length i [] = refl
left_length i (n ∷ r) = simp length-append (omega (arith, left_length (suc i) r))

pub row_length : (n : ℕ) (r : List ℕ) → length (row_text (n ∷ r)) ≡ row_bytes (n ∷ r)
unfolding row_bytes
row_length n r = ap length (left_row n r) ∙ simp length-append (omega (arith, left_length 0 r))

-- The text at number i of a row, whose numbers from i on are left.
module _ (row : List ℕ) (i : ℕ) (h : i < length row) where
  pub bytes_turn : row_bytes (drop i row) ≡ length (decimal (get_or row i 0)) + 1 + row_bytes (drop (i + 1) row)
  bytes_turn = rw (add-one i, drop-cons row i 0 h) (bytes_more (get_or row i 0) (drop (suc i) row))

  pub left_turn : left_text i (drop i row) ≡ gap i ++ (decimal (get_or row i 0) ++ left_text (i + 1) (drop (i + 1) row))
  left_turn = rw (add-one i, drop-cons row i 0 h) (left_more i (get_or row i 0) (drop (suc i) row))

  pub left_turn_length : length (left_text i (drop i row)) ≡ length (gap i) + (length (decimal (get_or row i 0)) + length (left_text (i + 1) (drop (i + 1) row)))
  left_turn_length = ap length left_turn ∙ simp length-append

  -- The gap and the number are written, and the rest of the text is left.
  pub left_turn_step : (at : ℕ) (out : List ℕ) {start place : ℕ} {spaced exit : List ℕ} → at + length (left_text i (drop i row)) ≤ length out
      → start ≡ at + length (gap i) → spaced ≡ over at (gap i) out
      → place ≡ start + length (decimal (get_or row i 0)) → exit ≡ over start (decimal (get_or row i 0)) spaced
      → (length exit ≡ length out)
      × (place + length (left_text (i + 1) (drop (i + 1) row)) ≡ at + length (left_text i (drop i row)))
      × (over place (left_text (i + 1) (drop (i + 1) row)) exit ≡ over at (left_text i (drop i row)) out)
  left_turn_step at out room e f u v =
      let whole = left_turn_length in
      let two = length-append (gap i) (decimal (get_or row i 0)) in
      let both = over_then at (gap i) (decimal (get_or row i 0)) out (omega arith) e f u v in
      let end = both.0 in (
        ap length both.1 ∙ length_over at (gap i ++ decimal (get_or row i 0)) out (omega arith),
        omega arith,
        rw (left_turn, both.0, both.1, ← append_assoc (gap i) (decimal (get_or row i 0)) (left_text (i + 1) (drop (i + 1) row)))
            (over_append at (gap i ++ decimal (get_or row i 0)) (left_text (i + 1) (drop (i + 1) row)) out (omega arith)),
      )

pub gap_first : {i : ℕ} → i ≡ 0 → gap i ≡ []
unfolding gap
gap_first e = rw e

pub gap_other : (i : ℕ) → (i ≡ 0 → ⊥) → gap i ≡ space ∷ []
unfolding gap
gap_other zero h = absurd (h refl)
gap_other (suc i) h = refl

-- No numbers, and some.
pub row_none : (r : List ℕ) → length r ≡ 0 → length (row_text r) ≡ 1
unfolding row_text
row_none [] e = refl
row_none (n ∷ r) e = absurd (omega arith)

pub row_some : (r : List ℕ) → (length r ≡ 0 → ⊥) → length (row_text r) ≡ row_bytes r
row_some [] h = absurd (h refl)
row_some (n ∷ r) h = row_length n r

-- No number is left.
module _ (row : List ℕ) (i : ℕ) (h : length row ≤ i) where
  pub bytes_end : row_bytes (drop i row) ≡ 0
  unfolding row_bytes
  bytes_end = rw (drop_of_length-le row h)

  pub left_end : left_text i (drop i row) ≡ newline ∷ []
  unfolding left_text
  left_end = rw (drop_of_length-le row h)
