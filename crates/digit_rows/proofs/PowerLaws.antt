-- The powers of q in an array that a loop fills, each q times the one before: what held of every element still does once one is set.
-- Assumes nothing.
use mathlib.Core.Path.{◌≡◌, sym, ◌∙◌}
use mathlib.Core.List.{List}
use Prim.Native.Nat.{ℕ, zero, suc, ◌+◌, ◌-◌, ◌≤◌, ◌<◌}
use native.Mathlib.Omega.{arith}
use lib.ListN.{get_or, set, length, replicate}
use Rattle.definitions.specs.Polynomial.{prod, rem}
use Rattle.definitions.specs.Generator.{largest_degree}
use Rattle.number_laws.specs.Lists.{set_each}
use Rattle.polynomial_laws.specs.Power.{power_zero, rem_one}
use Rattle.polynomial.specs.Modulus.{Modulus, modulus_positive, modulus_one}
use Rattle.net_laws.specs.Point.{digit_row, digit_row_first, digit_row_next}
use Rattle.digit_rows.specs.Powers.{Residues, FirstPowers}

module _ {p lead : ℕ} (h : Modulus p lead) where
  pub first_row : (q : ℕ) → digit_row p q 0 0 ≡ 1
  first_row q = digit_row_first p q 0 ∙ rw power_zero (rem_one p h.large)

  pub powers_start : (q : ℕ) → FirstPowers q p 1 (replicate largest_degree 1)
  powers_start q zero l = sym (first_row q)
  powers_start q (suc i) l = absurd (omega arith)

  pub residues_start : (n : ℕ) → Residues lead (replicate n 1)
  residues_start zero i = omega (arith, modulus_one h)
  residues_start (suc n) zero = modulus_one h
  residues_start (suc n) (suc i) = residues_start n i

  pub powers_more : (q j v : ℕ) (xs : List ℕ) → 1 ≤ j → j < length xs → v ≡ rem (prod q (get_or xs (j - 1) 0)) p
      → FirstPowers q p j xs → FirstPowers q p (j + 1) (set xs j v)
  powers_more q zero v xs low fits e known i l = absurd (omega arith)
  powers_more q (suc j) v xs low fits e known i l =
      let before : suc j - 1 ≡ j = omega arith in
      set_each (λ i x. x ≡ digit_row p q i 0) xs (suc j) v fits
      (e ∙ rw (before, known j (omega arith)) (sym (digit_row_next p (modulus_positive h) q j)))
      i (λ n. known i (omega arith))

  pub residues_more : (j v : ℕ) (xs : List ℕ) → j < length xs → v < lead → Residues lead xs → Residues lead (set xs j v)
  residues_more j v xs fits l known i = set_each (λ i x. x < lead) xs j v fits l i (λ n. known i)
