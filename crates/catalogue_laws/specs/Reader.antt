-- A reader that a lookup opens hands out the rows of the body, in order, as many as the entry says, and then the end, where it stays.
-- Row k starts at k times a row's size, which is a whole row's start as long as k is below the row count; the place behind it is row k + 1's.
-- Assumes nothing.
use Rattle.std.specs.Prelude.{◌≡◌, refl, ◌⊎◌, Bool, true, false, List, [], ◌∷◌, ◌++◌, map, eqb, length, Ok, Option, Some, None}
use Rattle.std.proofs.Common.{sym, ap, ap₂, ◌∙◌, inl, inr, zero-add, zero-mul}
use Rattle.std.proofs.Math.Bool.{and-false}
use Prim.Native.Nat.{ℕ, zero, suc, ◌+◌, ◌*◌, ◌%◌, ◌<◌, ◌≤◌}
use Rattle.std.proofs.Math.Nat.{suc-add, suc-mul, mul-le-mul_right, mul-mod_left}
use native.Mathlib.Omega.{arith}
use Rattle.std.proofs.Math.ListN.{replicate}
use borrow.Author.Tests.{le-leb, lt-leb, eq-eqb}
use Rattle.definitions.specs.Number.{numbers}
use Rattle.definitions.specs.Generator.{lawful_degree}
use Rattle.definitions.specs.Ranking.{lawful_top}
use Rattle.definitions.specs.Catalogue.{row_size, at_row, row_at, next_row, next_place, lookup_numbers, lookup_part, reader_top, reader_gaps}
use Rattle.definitions.specs.declared.Row.{Row}
use Rattle.number_laws.specs.Bounds.{lawful_top_is}
use Rattle.answer_laws.specs.Given.{same_value}
use Rattle.definitions.specs.declared.Lookup.{Lookup}
use Rattle.catalogue_laws.specs.Sizes.{row_size_least}
use Rattle.catalogue_laws.specs.Reading.{next_end, next_found, next_place_end, next_place_row, at_row_degree, at_row_top}
use Rattle.catalogue_laws.specs.Outcome.{Given, Refused, lookup_outcome, part_length, entry_for}

-- What a reader at a place hands out in n calls, each from behind the row before.
unfoldable pub hands_out : ℕ → ℕ → ℕ → Bool → List ℕ → ℕ → List (Option Row)
unfolding next_row next_place
hands_out zero m top gaps body place = []
hands_out (suc n) m top gaps body place = next_row m top gaps body place ∷ hands_out n m top gaps body (next_place m top gaps body place)

-- Rows k .. k + n - 1 of a body.
unfoldable pub body_rows : ℕ → ℕ → Bool → List ℕ → ℕ → ℕ → List (Option Row)
unfolding numbers row_at
body_rows m top gaps body k n = map (λ (i : ℕ). Some (row_at m top gaps body (i * row_size m top gaps))) (numbers k n)

-- At the end it stays.
pub hands_out_end : (n m top : ℕ) (gaps : Bool) (body : List ℕ) (place : ℕ) → at_row m top gaps body place ≡ false
    → hands_out n m top gaps body place ≡ replicate n None
unfolding hands_out
hands_out_end zero m top gaps body place e = refl
hands_out_end (suc n) m top gaps body place e =
    rw (next_end m top gaps body place e, next_place_end m top gaps body place e) (ap (◌∷◌ None) (hands_out_end n m top gaps body place e))

module _ (m top : ℕ) (gaps : Bool) (rows : ℕ) (body : List ℕ) (d : lawful_degree m ≡ true) (t : lawful_top top ≡ true)
    (size : length body ≡ rows * row_size m top gaps) where
  row_starts : (k : ℕ) → k < rows → at_row m top gaps body (k * row_size m top gaps) ≡ true
  unfolding at_row
  row_starts k l =
      let more : suc k * row_size m top gaps ≤ rows * row_size m top gaps = mul-le-mul_right (row_size m top gaps) l in
      let start = eq-eqb (k * row_size m top gaps % row_size m top gaps) 0 (mul-mod_left k (row_size m top gaps)) in
      let whole = le-leb (k * row_size m top gaps + row_size m top gaps) (length body) (omega (arith, suc-mul k (row_size m top gaps))) in
      rw (d, t, start, whole)

  rows_end : at_row m top gaps body (rows * row_size m top gaps) ≡ false
  unfolding at_row
  rows_end =
      rw (d, t, lt-leb (rows * row_size m top gaps + row_size m top gaps) (length body) (omega (arith, row_size_least m top gaps)))
      (and-false (eqb (rows * row_size m top gaps % row_size m top gaps) 0))

  hands_out_rows : (j k n : ℕ) → k + j ≡ rows → hands_out (j + n) m top gaps body (k * row_size m top gaps) ≡ body_rows m top gaps body k j ++ replicate n None
  unfolding hands_out body_rows numbers
  hands_out_rows zero k n e =
      let f : k ≡ rows = omega arith in
      rw (zero-add, f) (hands_out_end n m top gaps body (rows * row_size m top gaps) rows_end)
  hands_out_rows (suc j) k n e = rw suc-add (turn (hands_out_rows j (suc k) n (omega arith)))
    where
      turn : hands_out (j + n) m top gaps body (suc k * row_size m top gaps) ≡ body_rows m top gaps body (suc k) j ++ replicate n None
          → hands_out (suc (j + n)) m top gaps body (k * row_size m top gaps) ≡ body_rows m top gaps body k (suc j) ++ replicate n None
      turn ih =
          let at = row_starts k (omega arith) in
          let size = row_size m top gaps in
          rw (next_found m top gaps body (k * size) at, next_place_row m top gaps body (k * size) at, ← suc-mul k size)
          (ap (◌∷◌ (Some (row_at m top gaps body (k * row_size m top gaps)))) ih)

-- ---- the theorem

top_lawful : (s : List ℕ) (m : ℕ) → Given s m → lawful_top (entry_for s m).top ≡ true
top_lawful s m g = (lawful_top_is (entry_for s m).top).1 g.finds.found.lawful.top_is_lawful

-- A reader that is opened with a degree: the rows, and then the end, however often it is asked.
pub reader_hands_out : (s : List ℕ) (m top : ℕ) (gaps : Bool) (rows n : ℕ) → lookup_numbers s m ≡ Ok (record { top = top; gaps = gaps; rows = rows })
    → hands_out (rows + n) m (reader_top s m) (reader_gaps s m) (lookup_part s m) 0 ≡ body_rows m top gaps (lookup_part s m) 0 rows ++ replicate n None
reader_hands_out s m top gaps rows n e = go (lookup_outcome s m)
  where
    go : Given s m ⊎ Refused s m
        → hands_out (rows + n) m (reader_top s m) (reader_gaps s m) (lookup_part s m) 0 ≡ body_rows m top gaps (lookup_part s m) 0 rows ++ replicate n None
    go (inl g) =
        let same = same_value (sym g.numbers_are ∙ e) in
        let t : (entry_for s m).top ≡ top = ap (λ (x : Lookup). x.top) same in
        let k : (entry_for s m).gaps ≡ gaps = ap (λ (x : Lookup). x.gaps) same in
        let r : (entry_for s m).rows ≡ rows = ap (λ (x : Lookup). x.rows) same in
        let z : 0 * row_size m top gaps ≡ 0 = zero-mul (row_size m top gaps) in
        let size : length (lookup_part s m) ≡ rows * row_size m top gaps = part_length s m g ∙ rw (g.finds.found.degree_is, r, t, k) in
        let l : lawful_top top ≡ true = sym (ap lawful_top t) ∙ top_lawful s m g in
        let h = hands_out_rows m top gaps rows (lookup_part s m) g.finds.degree_is_lawful l size rows 0 n (zero-add rows) in
        ap₂ (λ (t : ℕ) (b : Bool). hands_out (rows + n) m t b (lookup_part s m) 0) (g.top_is ∙ t) (g.gaps_is ∙ k)
        ∙ ap (hands_out (rows + n) m top gaps (lookup_part s m)) (sym z) ∙ h
    go (inr f) = let z : ◌≡◌ {A = ℕ} 0 1 = cc f.numbers_are in absurd (omega arith)

-- One whose lookup is refused: the end.
pub reader_refused : (s : List ℕ) (m n : ℕ) → Refused s m → hands_out n m (reader_top s m) (reader_gaps s m) (lookup_part s m) 0 ≡ replicate n None
reader_refused s m n f = hands_out_end n m (reader_top s m) (reader_gaps s m) (lookup_part s m) 0 (go (lawful_degree m) refl)
  where
    low : lawful_top (reader_top s m) ≡ false
    low = ap lawful_top f.top_is

    go : (b : Bool) → lawful_degree m ≡ b → at_row m (reader_top s m) (reader_gaps s m) (lookup_part s m) 0 ≡ false
    go false d = at_row_degree m (reader_top s m) (reader_gaps s m) (lookup_part s m) 0 d
    go true d = at_row_top m (reader_top s m) (reader_gaps s m) (lookup_part s m) 0 d low
