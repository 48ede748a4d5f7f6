-- The table of digit rows: coordinate 0 to begin with, and one turn of the loop that adds a coordinate.
-- Assumes nothing.
use mathlib.Core.Path.{◌≡◌, refl, sym, ap, ◌∙◌, subst}
use mathlib.Core.List.{List, ◌++◌}
use Prim.Native.Nat.{ℕ, suc, ◌+◌, ◌-◌, ◌*◌, ◌≤◌, ◌<◌}
use native.Mathlib.Omega.{arith}
use native.Mathlib.Decide.{dec_lt}
use lib.ListN.{get_or, set, length, length-set, replicate, take}
use borrow.Rule.Slice.PartMut.{put_mid, post_of}
use Rattle.std.proofs.lemmas.List.{length-take-le, set-append_left, set-append_right}
use Rattle.definitions.specs.Generator.{largest_degree}
use Rattle.definitions.specs.Polynomial.{prod, rem}
use Rattle.number_laws.specs.Lists.{set_each}
use Rattle.polynomial.specs.Modulus.{Modulus, modulus_positive}
use Rattle.net_laws.specs.Point.{digit_row, digit_row_next, digit_row_suc}
use Rattle.digit_rows.specs.Table.{table_room, OneOf, Tabled, Begun}
use Rattle.digit_rows.proofs.PowerLaws.{first_row, residues_start, residues_more}

pub begun : Begun (replicate table_room 1)
begun = record {
  table = λ h q m. record {
    sized = refl;
    firsts = λ j l. first h q j (omega arith);
    rows = λ j i low high l. absurd (omega arith);
    residues = residues_start h table_room;
  };
}
  where
    first : {p lead : ℕ} → Modulus p lead → (q j : ℕ) → j ≡ 0 → get_or (replicate table_room 1) (j * largest_degree) 0 ≡ digit_row p q j 0
    first {p} h q j e = rw e (sym (first_row h q))

-- A write to a part of a list, which is put back, is one to the list.
pub set_part : (a k j v : ℕ) (xs ys : List ℕ) → a ≤ length xs → j < length ys → set (put_mid a k xs ys) (a + j) v ≡ put_mid a k xs (set ys j v)
set_part a k j v xs ys low fits =
    let e : a + j - a ≡ j = omega arith in
    set-append_right (take a xs) (ys ++ post_of a k xs) a (a + j) v (length-take-le a xs low) (omega arith)
    ∙ rw (e, set-append_left ys (post_of a k xs) j v fits)

-- The coordinates before c are there, and of c the first i rows; `row` is the next.
pub record Adding (p q lead m c i row : ℕ) (xs : List ℕ) : Type 0 where
  pub before : Tabled p q lead m c xs
  pub within : i ≤ m
  pub now : (k : ℕ) → k < i → get_or xs (c * largest_degree + k) 0 ≡ digit_row p q c k
  pub next : row ≡ digit_row p q c i
  pub small : row < lead

module _ {p lead m c : ℕ} (q : ℕ) (h : Modulus p lead) (one : OneOf m c) where
  -- the first row is q times that of the coordinate before
  pub adding_start : (row : ℕ) (xs : List ℕ) → Tabled p q lead m c xs → row ≡ rem (prod q (get_or xs (c * largest_degree - largest_degree) 0)) p → row < lead
      → Adding p q lead m c 0 row xs
  adding_start row xs t e small = record {
    before = t;
    within = omega arith;
    now = λ k l. absurd (omega arith);
    next =
        let place : c * largest_degree - largest_degree ≡ (c - 1) * largest_degree = omega (arith, one.behind) in
        let behind : suc (c - 1) ≡ c = omega (arith, one.behind) in
        e ∙ ap (λ (z : ℕ). rem (prod q z) p) (ap (λ (k : ℕ). get_or xs k 0) place ∙ t.firsts (c - 1) (omega arith))
        ∙ sym (digit_row_next p (modulus_positive h) q (c - 1)) ∙ ap (λ (j : ℕ). digit_row p q j 0) behind;
    small = small;
  }

  module _ (i row : ℕ) (xs : List ℕ) (a : Adding p q lead m c i row xs) (l : i < m) where
    abbrev place : ℕ
    place = c * largest_degree + i

    place_fits : c * largest_degree + i < table_room
    place_fits = omega (arith, one)

    fits : place < length xs
    fits = omega (arith, place_fits, a.before.sized)

    -- the rows of the coordinates before stand elsewhere
    kept : (k v : ℕ) → (k ≡ place → ⊥) → get_or xs k 0 ≡ v → get_or (set xs place row) k 0 ≡ v
    kept k v apart e = set_each (λ j x. j ≡ k → x ≡ v) xs place row fits (λ here. absurd (apart (sym here))) k (λ n same. e) refl

    pub adding_more : (r : ℕ) → r ≡ rem (2 * row) p → r < lead → Adding p q lead m c (i + 1) r (set xs place row)
    adding_more r e small = record {
      before = record {
        sized = length-set xs place row ∙ a.before.sized;
        firsts = λ j low. kept (j * largest_degree) _ (λ same. omega arith) (a.before.firsts j low);
        rows = λ j k some low few. kept (j * largest_degree + k) _ (λ same. omega (arith, one)) (a.before.rows j k some low few);
        residues = residues_more h place row xs fits a.small a.before.residues;
      };
      within = omega arith;
      now = now;
      next =
          let more : suc i ≡ i + 1 = omega arith in
          e ∙ ap (λ (z : ℕ). rem (2 * z) p) a.next ∙ sym (digit_row_suc p (modulus_positive h) q c i) ∙ ap (digit_row p q c) more;
      small = small;
    }
      where
        now : (k : ℕ) → k < i + 1 → get_or (set xs place row) (c * largest_degree + k) 0 ≡ digit_row p q c k
        now k few =
            set_each (λ j x. j ≡ c * largest_degree + k → x ≡ digit_row p q c k) xs place row fits
            (λ here. let same : i ≡ k = omega arith in a.next ∙ ap (digit_row p q c) same) (c * largest_degree + k)
            (λ n here. a.now k (omega arith)) refl

  pub tabled_more : (i row : ℕ) (xs : List ℕ) → Adding p q lead m c i row xs → m ≤ i → Tabled p q lead m (suc c) xs
  tabled_more i row xs a all = record { sized = a.before.sized; firsts = firsts; rows = rows; residues = a.before.residues }
    where
      row_of : (j k : ℕ) → c ≤ j → j < suc c → k < m → get_or xs (j * largest_degree + k) 0 ≡ digit_row p q j k
      row_of j k low high l =
          let same : c ≡ j = omega arith in
          subst (λ (j : ℕ). get_or xs (j * largest_degree + k) 0 ≡ digit_row p q j k) same (a.now k (omega arith))

      rows : (j k : ℕ) → 1 ≤ j → j < suc c → k < m → get_or xs (j * largest_degree + k) 0 ≡ digit_row p q j k
      rows j k some high l = go (dec_lt j c)
        where
          go : Dec (j < c) → get_or xs (j * largest_degree + k) 0 ≡ digit_row p q j k
          go (yes b) = a.before.rows j k some b l
          go (no b) = row_of j k (omega arith) high l

      firsts : (j : ℕ) → j < suc c → get_or xs (j * largest_degree) 0 ≡ digit_row p q j 0
      firsts j high = go (dec_lt j c)
        where
          go : Dec (j < c) → get_or xs (j * largest_degree) 0 ≡ digit_row p q j 0
          go (yes b) = a.before.firsts j b
          go (no b) =
              let e : j * largest_degree + 0 ≡ j * largest_degree = omega arith in
              subst (λ (k : ℕ). get_or xs k 0 ≡ digit_row p q j 0) e (row_of j 0 (omega arith) high (omega (arith, one.some)))
