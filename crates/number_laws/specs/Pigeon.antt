-- The pigeonhole principle, for the numbers from 1 to n: where f gives n of them, each another, it gives each of them, and counting over 0 to n is
-- counting over 0 and what f gives. Less by one, f is a one-to-one map of the numbers below n, which keeps counts.
-- Assumes nothing.
use Rattle.std.specs.Prelude.{◌≡◌, refl, Bool, ℕ, suc, ◌+◌, ◌-◌, ◌≤◌, ◌<◌, eqb}
use Rattle.std.proofs.Math.Path.{ap}
use Rattle.std.proofs.Common.{add-one, arith, eqb-true, eq-eqb, ne_eqb}
use Rattle.definitions.specs.Number.{count, bit}
use Rattle.number_laws.specs.Count.{count_ext, count_add, count_without, count_some, count_permute}

pub record Numbering (n : ℕ) (f : ℕ → ℕ) : Type 0 where
  pub positive : (i : ℕ) → i < n → 0 < f i
  pub most : (i : ℕ) → i < n → f i ≤ n
  pub apart : (i j : ℕ) → i < n → j < n → f i ≡ f j → i ≡ j

pub record Reached (n : ℕ) (f : ℕ → ℕ) (y : ℕ) : Type 0 where
  pub argument : ℕ
  pub below : argument < n
  pub gives : f argument ≡ y

module _ {n : ℕ} {f : ℕ → ℕ} (h : Numbering n f) where
  pub numbering_counts : (test : ℕ → Bool) → count (suc n) test ≡ count n (λ i. test (f i)) + bit (test 0)
  unfolding count
  numbering_counts test = omega (arith, ap (λ k. count k test) (add-one n), count_add 1 n test, lowered, raised)
    where
      lowered : count n (λ i. test (f i - 1 + 1)) ≡ count n (λ i. test (i + 1))
      lowered = count_permute n (λ i. f i - 1) (λ i l. omega (arith, h.positive i l, h.most i l))
          (λ i j k l e. h.apart i j k l (omega (arith, h.positive i k, h.positive j l))) (λ i. test (i + 1))

      raised : count n (λ i. test (f i - 1 + 1)) ≡ count n (λ i. test (f i))
      raised = count_ext n _ _ (λ i l. ap test (omega (arith, h.positive i l)))

  pub pigeonhole : (y : ℕ) → 0 < y → y ≤ n → Reached n f y
  pigeonhole y pos most =
      let is_y : ℕ → Bool = λ i. eqb i y in
      let some : 0 < count (suc n) is_y = omega (arith, count_without (suc n) y is_y (omega arith) (eq-eqb y y refl)) in
      let not-0 : bit (eqb 0 y) ≡ 0 = ap bit (ne_eqb 0 y (λ e. omega arith)) in
      let w = count_some n (λ i. eqb (f i) y) (omega (arith, numbering_counts is_y)) in
      record { argument = w.number; below = w.below; gives = eqb-true _ y w.passes }
