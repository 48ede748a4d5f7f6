-- Rows, written and read back: the bytes of a lawful row, wherever they stand, are of the form and read as the row; and so is each row of a body.
-- A row field by field, each standing behind those before; a body row by row, each as long as a row is. Assumes nothing.
use Rattle.std.specs.Prelude.{◌≡◌, refl, Bool, true, false, cond, List, [], ◌∷◌, ◌++◌, map, ℕ, zero, suc, ◌+◌, ◌-◌, ◌*◌, ◌^◌, ◌<◌, ◌≤◌, leb, get_or, take, drop}
use Rattle.std.proofs.Math.Path.{sym, subst}
use Rattle.std.proofs.Common.{ap, ◌∙◌, zero-mul, suc-mul, length-append, length-take, length-drop, get_or-take, get_or-drop}
use native.Mathlib.Omega.{arith}
use Rattle.std.proofs.Math.Decide.{dec_le}
use Rattle.std.proofs.Math.ListN.{length, get_or-eq_default}
use borrow.Author.Tests.{le-leb, lt-ltb}
use Rattle.definitions.specs.Number.{bit, every, join}
use Rattle.definitions.specs.Ranking.{least_top, ranks_from}
use Rattle.definitions.specs.Catalogue.{byte_at, number_at, number_size, numbers_size, values_size, row_size, row_form, t_at, delta_at, row_at}
use Rattle.number_laws.specs.Bounds.{LawfulDegree, LawfulTop}
use Rattle.number_laws.specs.Every.{every_in}
use Rattle.catalogue_laws.specs.Sizes.{number_fits, row_size_is}
use Rattle.definitions.specs.Writing.{bytes_of, p_of, q_of, step_of, row_bytes}
use Rattle.catalogue_laws.specs.Rows.{row_of}
use Rattle.catalogue_laws.specs.Form.{numbers_form, row_values}
use Rattle.catalogue_laws.specs.Reading.{t_above, t_within}
use Rattle.catalogue_laws.specs.Bytes.{Stands, stands_first, stands_rest, stands_byte, stands_number, bytes_length}

-- A row of degree m and top dimension T that a catalogue can hold: p with its leading term, q and σ below 2^m, each t at most m, and Δ, where the row
-- has it, a byte.
pub record LawfulRow (m top : ℕ) (gaps : Bool) (r : List ℕ) : Type 0 where
  pub width : length r ≡ suc top + bit gaps
  pub p_least : 2 ^ m ≤ p_of r
  pub p_most : p_of r < 2 ^ suc m
  pub q_most : q_of r < 2 ^ m
  pub step_most : step_of r < 2 ^ m
  pub t_most : (s : ℕ) → least_top ≤ s → s ≤ top → get_or r s 0 ≤ m
  pub delta_most : gaps ≡ true → get_or r (suc top) 0 < 256

-- Each number that ranks a lawful row is a byte.
pub ranks_small : (m top : ℕ) (gaps : Bool) (r : List ℕ) → LawfulDegree m → LawfulRow m top gaps r → (s : ℕ) → least_top ≤ s → s < length r → get_or r s 0 < 256
ranks_small m top gaps r d h s least l = go (dec_le s top)
  where
    last : (b : Bool) → gaps ≡ b → (s ≤ top → ⊥) → get_or r s 0 < 256
    last true e n =
        let f : s ≡ suc top = omega (arith, h.width, ap bit e) in
        rw f (h.delta_most e)
    last false e n = absurd (n (omega (arith, h.width, ap bit e)))

    go : Dec (s ≤ top) → get_or r s 0 < 256
    go (yes i) = omega (arith, h.t_most s least i, d.high)
    go (no i) = last gaps refl i

pub row_length : (m top : ℕ) (gaps : Bool) (r : List ℕ) → least_top ≤ top → LawfulRow m top gaps r → length (row_bytes m r) ≡ row_size m top gaps
unfolding row_bytes
row_length m top gaps r l h = simp (length-append, bytes_length, length-drop) (omega (arith, h.width, row_size_is m top gaps))

module _ (m top : ℕ) (gaps : Bool) (r : List ℕ) (s : List ℕ) (at : ℕ) where
  -- The three numbers as they are written, and what stands behind each.
  abbrev w : ℕ
  w = number_size m

  abbrev low : List ℕ
  low = bytes_of w (p_of r - 2 ^ m)

  abbrev second : List ℕ
  second = bytes_of w (q_of r)

  abbrev third : List ℕ
  third = bytes_of w (step_of r)

  module _ (degree : LawfulDegree m) (tall : LawfulTop top) (h : LawfulRow m top gaps r) (stands : Stands s at (row_bytes m r)) where
    low_stands : Stands s at low
    unfolding row_bytes
    low_stands = stands_first s at low second (stands_first s at (low ++ second) third (stands_first s at _ (drop ranks_from r) stands))

    second_stands : Stands s (at + w) second
    unfolding row_bytes
    second_stands =
        subst (λ (n : ℕ). Stands s (at + n) second) (bytes_length w (p_of r - 2 ^ m))
        (stands_rest s at low second (stands_first s at (low ++ second) third (stands_first s at _ (drop ranks_from r) stands)))

    third_stands : Stands s (at + 2 * w) third
    unfolding row_bytes
    third_stands =
        let e : length (low ++ second) ≡ 2 * w = simp (length-append, bytes_length) (omega arith) in
        subst (λ (n : ℕ). Stands s (at + n) third) e (stands_rest s at (low ++ second) third (stands_first s at _ (drop ranks_from r) stands))

    values_stand : Stands s (at + numbers_size m) (drop ranks_from r)
    unfolding row_bytes
    values_stand =
        let e : length ((low ++ second) ++ third) ≡ numbers_size m = simp (length-append, bytes_length) (omega arith) in
        subst (λ (n : ℕ). Stands s (at + n) (drop ranks_from r)) e (stands_rest s at ((low ++ second) ++ third) (drop ranks_from r) stands)

    low_below : p_of r - 2 ^ m < 2 ^ m
    low_below = omega (arith, h.p_least, h.p_most)

    pub low_is : number_at w s at ≡ p_of r - 2 ^ m
    low_is = stands_number w (p_of r - 2 ^ m) s at (omega (arith, number_fits m degree, low_below)) low_stands

    pub q_is : number_at w s (at + w) ≡ q_of r
    q_is = stands_number w (q_of r) s (at + w) (omega (arith, number_fits m degree, h.q_most)) second_stands

    pub step_is : number_at w s (at + 2 * w) ≡ step_of r
    step_is = stands_number w (step_of r) s (at + 2 * w) (omega (arith, number_fits m degree, h.step_most)) third_stands

    -- The numbers that rank the row: t-values, and Δ where it has it.
    rank_is : (k : ℕ) → 3 + k < length r → byte_at s (at + numbers_size m + k) ≡ get_or r (3 + k) 0
    rank_is k l = stands_byte s (at + numbers_size m) (drop ranks_from r) k values_stand (rw length-drop (omega arith)) ∙ get_or-drop ranks_from r k 0

    pub t_is : (k : ℕ) → k < values_size top → byte_at s (at + numbers_size m + k) ≡ get_or r (3 + k) 0
    t_is k l = rank_is k (omega (arith, h.width))

    pub delta_is : delta_at m top gaps s at ≡ cond gaps (get_or r (suc top) 0) 0
    delta_is = go gaps refl
      where
        go : (b : Bool) → gaps ≡ b → delta_at m top b s at ≡ cond b (get_or r (suc top) 0) 0
        go true e =
            let f : 3 + values_size top ≡ suc top = omega (arith, tall.low) in
            rank_is (values_size top) (omega (arith, h.width, ap bit e)) ∙ ap (λ (n : ℕ). get_or r n 0) f
        go false e = refl

    numbers_written : numbers_form m s at ≡ true
    unfolding every
    numbers_written =
        let e₀ : at + 0 * w ≡ at = omega arith in
        let e₁ : at + 1 * w ≡ at + w = omega arith in
        let low-passes = lt-ltb (number_at w s at) (2 ^ m) (omega (arith, low_is, low_below)) in
        let q-passes = lt-ltb (number_at w s (at + w)) (2 ^ m) (omega (arith, q_is, h.q_most)) in
        let step-passes = lt-ltb (number_at w s (at + 2 * w)) (2 ^ m) (omega (arith, step_is, h.step_most)) in
        rw (step-passes, e₁, q-passes, e₀, low-passes)

    pub row_written_form : row_form m top s at ≡ true
    row_written_form =
        row_values m top s at numbers_written
        ∙ every_in (values_size top) (λ (k : ℕ). leb (byte_at s (at + numbers_size m + k)) m)
        (λ k l. le-leb (byte_at s (at + numbers_size m + k)) m (omega (arith, t_is k l, h.t_most (3 + k) (omega arith) (omega arith))))

    -- The first T + 1 numbers, which a `Row` has before Δ.
    abbrev firsts : List ℕ
    firsts = take (suc top) r

    number_kept : (k : ℕ) → k ≤ top → get_or firsts k 0 ≡ get_or r k 0
    number_kept k l = get_or-take (suc top) r k 0 (omega arith)

    t_read : (k : ℕ) → least_top ≤ k → t_at m top s at k ≡ get_or firsts k 0
    t_read k l = go (dec_le k top)
      where
        go : Dec (k ≤ top) → t_at m top s at k ≡ get_or firsts k 0
        go (yes i) =
            let f : 3 + (k - least_top) ≡ k = omega arith in
            t_within m top s at k i ∙ t_is (k - least_top) (omega arith) ∙ ap (λ (n : ℕ). get_or r n 0) f ∙ sym (number_kept k i)
        go (no i) = t_above m top s at k (omega arith) ∙ sym (get_or-eq_default firsts 0 (omega (arith, length-take (suc top) r)))

    pub row_written : row_at m top gaps s at ≡ row_of top gaps r
    unfolding row_at
    row_written =
        let p : 2 ^ m + number_at w s at ≡ p_of firsts = omega (arith, low_is, h.p_least, number_kept 0 (omega arith)) in
        let q = q_is ∙ sym (number_kept 1 (omega (arith, tall.low))) in
        let step = step_is ∙ sym (number_kept 2 (omega (arith, tall.low))) in
        let t₃ = t_read 3 (omega arith) in
        let t₄ = t_read 4 (omega arith) in
        let t₅ = t_read 5 (omega arith) in
        let t₆ = t_read 6 (omega arith) in
        let t₇ = t_read 7 (omega arith) in
        let t₈ = t_read 8 (omega arith) in
        rw (p, q, step, t₃, t₄, t₅, t₆, t₇, t₈, delta_is)

-- ---- bodies

-- Each of the rows is lawful.
abbrev pub LawfulRows : ℕ → ℕ → Bool → List (List ℕ) → Type 0
LawfulRows m top gaps rows = (k : ℕ) → k < length rows → LawfulRow m top gaps (get_or rows k [])

module _ (m top : ℕ) (gaps : Bool) (top_least : least_top ≤ top) where
  abbrev rows_bytes : List (List ℕ) → List ℕ
  rows_bytes rows = join (map (row_bytes m) rows)

  pub rows_length : (rows : List (List ℕ)) → LawfulRows m top gaps rows → length (rows_bytes rows) ≡ length rows * row_size m top gaps
  rows_length [] h = sym (zero-mul (row_size m top gaps))
  rows_length (r ∷ rows) h =
      let ih = rows_length rows (λ k l. h (suc k) (omega arith)) in
      length-append (row_bytes m r) (rows_bytes rows)
      ∙ omega (arith, ih, row_length m top gaps r top_least (h 0 (omega arith)), suc-mul (length rows) (row_size m top gaps))

  -- Each row stands where the rows before it end.
  pub rows_stand : (rows : List (List ℕ)) → LawfulRows m top gaps rows → (s : List ℕ) (at : ℕ) → Stands s at (rows_bytes rows)
      → (k : ℕ) → k < length rows → Stands s (at + k * row_size m top gaps) (row_bytes m (get_or rows k []))
  rows_stand [] h s at p k l = absurd (omega arith)
  rows_stand (r ∷ rows) h s at p zero l =
      let e : at ≡ at + 0 * row_size m top gaps = omega (arith, zero-mul (row_size m top gaps)) in
      subst (λ (n : ℕ). Stands s n (row_bytes m r)) e (stands_first s at (row_bytes m r) (rows_bytes rows) p)
  rows_stand (r ∷ rows) h s at p (suc k) l =
      let q : Stands s (at + length (row_bytes m r)) (rows_bytes rows) = stands_rest s at (row_bytes m r) (rows_bytes rows) p in
      let ih = rows_stand rows (λ k l. h (suc k) (omega arith)) s (at + length (row_bytes m r)) q k (omega arith) in
      let e : at + length (row_bytes m r) + k * row_size m top gaps ≡ at + suc k * row_size m top gaps =
      omega (arith, row_length m top gaps r top_least (h 0 (omega arith)), suc-mul k (row_size m top gaps)) in
      subst (λ (n : ℕ). Stands s n (row_bytes m (get_or rows k []))) e ih
