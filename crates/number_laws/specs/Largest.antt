-- The largest number from 1 to n that passes a test: none behind it passes, and it passes unless it is 0. Where every number that passes one test passes
-- a wider one, the search by the one may begin where the wider one ends. Assumes nothing.
use Rattle.std.specs.Prelude.{◌≡◌, Bool}
use Rattle.std.proofs.Math.Path.{refl}
use Rattle.std.proofs.Common.{sym, ap, ◌∙◌}
use Rattle.std.proofs.Math.Bool.{true, false}
use Prim.Native.Nat.{ℕ, zero, suc, ◌≤◌}
use native.Mathlib.Omega.{arith}
use Rattle.definitions.specs.Number.{largest}
use Rattle.number_laws.specs.Truth.{truth_false, not_both, by_test, le_unless}

module _ (test : ℕ → Bool) where
  -- ---- one number tried: it is the largest, or the search goes on before it
  pub largest_stop : (n : ℕ) → test (suc n) ≡ true → largest (suc n) test ≡ suc n
  unfolding largest
  largest_stop n pass = rw (largest, pass)

  pub largest_on : (n : ℕ) → test (suc n) ≡ false → largest (suc n) test ≡ largest n test
  unfolding largest
  largest_on n fail = rw (largest, fail)

  -- ---- what is found
  pub largest_to : (n : ℕ) → largest n test ≤ n
  unfolding largest
  largest_to zero = omega arith
  largest_to (suc n) = go (test (suc n)) (largest_to n)
    where
      go : (b : Bool) → largest n test ≤ n → elim b [ true ↦ suc n | false ↦ largest n test ] ≤ suc n
      go true l = omega arith
      go false l = omega arith

  pub largest_passes : (n : ℕ) → 1 ≤ largest n test → test (largest n test) ≡ true
  unfolding largest
  largest_passes zero some = absurd (omega arith)
  largest_passes (suc n) some = go (test (suc n)) refl (largest_passes n) some
    where
      go : (b : Bool) → test (suc n) ≡ b → (1 ≤ largest n test → test (largest n test) ≡ true) → 1 ≤ elim b [ true ↦ suc n | false ↦ largest n test ]
          → test (elim b [ true ↦ suc n | false ↦ largest n test ]) ≡ true
      go true e below some = e
      go false e below some = below some

  pub largest_least : (n w : ℕ) → 1 ≤ w → w ≤ n → test w ≡ true → w ≤ largest n test
  unfolding largest
  largest_least zero w low fits t = absurd (omega arith)
  largest_least (suc n) w low fits t = go (test (suc n)) refl (λ l. largest_least n w low l t)
    where
      go : (b : Bool) → test (suc n) ≡ b → (w ≤ n → w ≤ largest n test) → w ≤ elim b [ true ↦ suc n | false ↦ largest n test ]
      go true e below = fits
      go false e below = below (le_unless (λ over. let same : w ≡ suc n = omega arith in not_both t (rw same e)))

  pub largest_most : (n w : ℕ) → ((i : ℕ) → test i ≡ true → i ≤ w) → largest n test ≤ w
  largest_most n w most =
      le_unless (λ over. let l = most (largest n test) (largest_passes n (omega arith)) in omega arith)

-- ---- two tests
pub largest_ext : (f g : ℕ → Bool) (n : ℕ) → ((i : ℕ) → 1 ≤ i → i ≤ n → f i ≡ g i) → largest n f ≡ largest n g
largest_ext f g zero same = unfold largest in refl
largest_ext f g (suc n) same =
    let last : g (suc n) ≡ f (suc n) = sym (same (suc n) (omega arith) (omega arith)) in
    by_test (f (suc n))
    (λ t. largest_stop f n t ∙ sym (largest_stop g n (last ∙ t)))
    (λ e. largest_on f n e ∙ largest_ext f g n (λ i low high. same i low (omega arith)) ∙ sym (largest_on g n (last ∙ e)))

pub largest_wider : (wide test : ℕ → Bool) → ((i : ℕ) → test i ≡ true → wide i ≡ true) → (n : ℕ) → largest (largest n wide) test ≡ largest n test
largest_wider wide test only zero = unfold largest in refl
largest_wider wide test only (suc n) =
    by_test (wide (suc n))
    (λ t. ap (λ k. largest k test) (largest_stop wide n t))
    (λ f.
    ap (λ k. largest k test) (largest_on wide n f)
    ∙ largest_wider wide test only n
    ∙ sym (largest_on test n (truth_false _ (λ t. not_both (only (suc n) t) f))))
