-- A row's numbers as a page has them, of the numbers as the code has them, for both kinds of row; and the end, whose numbers are all 0. By the
-- definition of the struct. Assumes nothing.
use Rattle.std.specs.Prelude.{Some, None}
use mathlib.Core.Path.{◌≡◌, refl}
use mathlib.Core.Bool.{Bool, true, false, cond, ◌&&◌}
use mathlib.Core.List.{List, [], ◌∷◌}
use Prim.Native.Nat.{ℕ, ◌+◌}
use lib.Dec.{eqb}
use lib.ListN.{replicate}
use Rattle.definitions.specs.Number.{bit, numbers}
use Rattle.definitions.specs.Answers.{next_row_values}
use Rattle.definitions.specs.Ranking.{longest_row}
use Rattle.definitions.specs.declared.Row.{Row}
use Rattle.row_results.specs.Results.{page_row, row_result}

module _ (r : Row) (top : ℕ) where
  pub row_without : {gaps : Bool} → gaps ≡ false
      → r.p ∷ r.q ∷ r.step ∷ r.t3 ∷ r.t4 ∷ r.t5 ∷ r.t6 ∷ r.t7 ∷ r.t8 ∷ 0 ∷ [] ≡ page_row (next_row_values (Some r)) top gaps
  unfolding numbers
  row_without e = rw e

  -- The number behind t(s) is Δ or n.
  abbrev chosen : ℕ → ℕ → ℕ
  chosen s n = cond (eqb top s) r.delta n

  pub row_with : {gaps : Bool} → gaps ≡ true → {n₄ n₅ n₆ n₇ n₈ n₉ : ℕ} → n₄ ≡ chosen 3 r.t4 → n₅ ≡ chosen 4 r.t5 → n₆ ≡ chosen 5 r.t6
      → n₇ ≡ chosen 6 r.t7 → n₈ ≡ chosen 7 r.t8 → n₉ ≡ chosen 8 0
      → r.p ∷ r.q ∷ r.step ∷ r.t3 ∷ n₄ ∷ n₅ ∷ n₆ ∷ n₇ ∷ n₈ ∷ n₉ ∷ [] ≡ page_row (next_row_values (Some r)) top gaps
  unfolding numbers
  row_with e e₄ e₅ e₆ e₇ e₈ e₉ = rw (e, e₄, e₅, e₆, e₇, e₈, e₉)

module _ (top : ℕ) (gaps : Bool) (next : ℕ) where
  -- A row's struct has these numbers.
  pub row_is : (r : Row) {one : ℕ} {ns : List ℕ} → one ≡ bit gaps → ns ≡ page_row (next_row_values (Some r)) top gaps
      → record { count = top + 1 + one; next = next; numbers = ns } ≡ row_result (next_row_values (Some r)) top gaps next
  row_is r e f = rw (e, f)

  -- At the end both numbers are 0.
  same : (b : Bool) (n : ℕ) → cond b n n ≡ n
  same true n = refl
  same false n = refl

  none : (s : ℕ) → ◌≡◌ {A = ℕ} (cond (gaps && eqb top s) 0 0) 0
  none s = same (gaps && eqb top s) 0

  pub end_is : row_result (next_row_values None) top gaps next ≡ record { count = 0; next = next; numbers = replicate longest_row 0 }
  unfolding numbers
  end_is = rw (none 3, none 4, none 5, none 6, none 7, none 8)
