-- A row of a body for C has its numbers as a page has them: p, q, σ, t(3) .. t(T), then Δ where the rows have it, and 0 behind them.
-- From t(3) on, one number at a time: up to t(T) the next t-value, behind t(T) Δ, and further on the t-values above T, which are 0.
-- Assumes nothing.
use Rattle.std.specs.Prelude.{◌≡◌, Bool, ◌&&◌, eqb, Some}
use Rattle.std.proofs.Math.Path.{refl, ap, ap₂}
use Rattle.std.proofs.Common.{◌∙◌, zero-add, suc-add, eq-eqb, ne_eqb}
use Rattle.std.proofs.Math.Bool.{true, false, cond, and-false}
use mathlib.Core.List.{List, ◌∷◌, ◌++◌, map}
use Prim.Native.Nat.{ℕ, zero, suc, ◌+◌, ◌-◌, ◌≤◌, ◌<◌}
use native.Mathlib.Omega.{arith}
use Rattle.std.proofs.Math.ListN.{replicate}
use Rattle.std.proofs.lemmas.Bool.{lt-leb}
use Rattle.definitions.specs.Number.{bit, numbers, put_if}
use Rattle.definitions.specs.Answers.{next_row_values}
use Rattle.definitions.specs.Ranking.{least_top, largest_top}
use Rattle.definitions.specs.Catalogue.{values_size, t_at, delta_at, row_at}
use Rattle.definitions.specs.declared.Row.{Row}
use Rattle.row_results.specs.Results.{behind_t, row_result}

module _ (top : ℕ) (gaps : Bool) (delta : ℕ) (t : ℕ → ℕ) (above : (s : ℕ) → top < s → t s ≡ 0) where
  -- The number behind t(s).
  abbrev behind : ℕ → ℕ
  behind s = cond (gaps && eqb top s) delta (t (suc s))

  behind_other : (s : ℕ) → (top ≡ s → ⊥) → behind s ≡ t (suc s)
  behind_other s n = rw (ne_eqb top s n, and-false gaps)

  none_further : (n s : ℕ) → top < s → map behind (numbers s n) ≡ replicate n 0
  unfolding numbers
  none_further zero s l = refl
  none_further (suc n) s l =
      ap₂ ◌∷◌ (behind_other s (λ e. omega arith) ∙ above (suc s) (omega arith)) (none_further n (suc s) (omega arith))

  -- Behind t(T): Δ or 0, and zeros.
  behind_last : (n : ℕ) → map behind (numbers top (suc n)) ≡ put_if gaps delta (replicate (suc n - bit gaps) 0)
  unfolding numbers
  behind_last n = rw (eq-eqb top top refl, none_further n (suc top) (omega arith)) (go gaps)
    where
      go : (b : Bool) → cond (b && true) delta (t (suc top)) ∷ replicate n 0 ≡ put_if b delta (replicate (suc n - bit b) 0)
      go true = let e : suc n - 1 ≡ n = omega arith in rw e
      go false = let e : suc n - 0 ≡ suc n = omega arith in rw e (ap (λ (x : ℕ). x ∷ replicate n 0) (above (suc top) (omega arith)))

  -- From t(s) on, j t-values before the last one.
  behind_all : (j n s : ℕ) → s + j ≡ top
      → map behind (numbers s (j + suc n)) ≡ map t (numbers (suc s) j) ++ put_if gaps delta (replicate (suc n - bit gaps) 0)
  unfolding numbers
  behind_all zero n s e = let last : s ≡ top = omega arith in rw (zero-add, last) (behind_last n)
  behind_all (suc j) n s e =
      rw (suc-add, behind_other s (λ f. omega arith)) (ap (◌∷◌ (t (suc s))) (behind_all j n (suc s) (omega arith)))

module _ (m top : ℕ) (gaps : Bool) (body : List ℕ) (place next : ℕ) (low : least_top ≤ top) (high : top ≤ largest_top) where
  abbrev t : ℕ → ℕ
  t = t_at m top body place

  abbrev delta : ℕ
  delta = delta_at m top gaps body place

  above : (s : ℕ) → top < s → t s ≡ 0
  above s l = rw (lt-leb s top l)

  abbrev row : Row
  row = row_at m top gaps body place

  abbrev values : List ℕ
  values = next_row_values (Some row)

  -- The numbers behind t(3), which are those behind the t-values up to t(8).
  values_are : map (behind_t values top gaps) (numbers least_top (values_size largest_top))
      ≡ map (behind top gaps delta t above) (numbers least_top (values_size largest_top))
  unfolding numbers row_at
  values_are = rw (above 9 (omega arith))

  pub page_row_lem : (row_result values top gaps next).numbers
      ≡ row.p ∷ row.q ∷ row.step ∷ map t (numbers least_top (values_size top)) ++ put_if gaps delta (replicate (suc (largest_top - top) - bit gaps) 0)
  unfolding numbers row_at
  page_row_lem =
      let count : values_size largest_top ≡ (top - least_top) + suc (largest_top - top) = omega arith in
      let size : suc (top - least_top) ≡ values_size top = omega arith in
      ap (λ (l : List ℕ). row.p ∷ row.q ∷ row.step ∷ t 3 ∷ l)
      (values_are
      ∙ ap (λ (n : ℕ). map (behind top gaps delta t above) (numbers least_top n)) count
      ∙ behind_all top gaps delta t above (top - least_top) (largest_top - top) least_top (omega arith))
      ∙ ap (λ (n : ℕ). row.p ∷ row.q ∷ row.step ∷ map t (numbers least_top n) ++ put_if gaps delta (replicate (suc (largest_top - top) - bit gaps) 0)) size
