-- Counting the numbers below n that pass a test: tests that agree count alike, and a second test splits a count in two.
-- A one-to-one map of the numbers below n into themselves keeps the count: it loses none, of the test nor of its opposite. So it reaches every number.
-- Assumes nothing.
use Rattle.std.specs.Prelude.{◌≡◌, refl, Bool, true, false, not, ◌&&◌, ℕ, zero, suc, ◌+◌, ◌-◌, ◌≤◌, ◌<◌, eqb}
use Rattle.std.proofs.Common.{ap, ◌∙◌, zero-add, suc-add, arith, eq-eqb, ne_eqb}
use Rattle.std.proofs.Math.Bool.{and-true}
use Rattle.std.proofs.Math.Decide.{ℕ_discrete}
use mir.Val.{bool_byte}
use Rattle.definitions.specs.Number.{count, bit}

-- ---- tests compared
pub count_ext : (n : ℕ) (test other : ℕ → Bool) → ((i : ℕ) → i < n → test i ≡ other i) → count n test ≡ count n other
unfolding count
count_ext zero test other same = refl
count_ext (suc n) test other same = rw (same n (omega arith), count_ext n test other (λ i l. same i (omega arith)))

count_every : (n : ℕ) → count n (λ i. true) ≡ n
unfolding count
count_every zero = refl
count_every (suc n) = omega (arith, count_every n)

pub count_all : (n : ℕ) (test : ℕ → Bool) → ((i : ℕ) → i < n → test i ≡ true) → count n test ≡ n
count_all n test all = count_ext n test (λ i. true) all ∙ count_every n

pub bit_most : (b : Bool) → bit b ≤ 1
bit_most true = omega arith
bit_most false = omega arith

-- The code's `b as usize`.
pub bool_byte_lem : (b : Bool) → bool_byte b ≡ bit b
bool_byte_lem true = refl
bool_byte_lem false = refl

pub count_most : (n : ℕ) (test : ℕ → Bool) → count n test ≤ n
unfolding count
count_most zero test = omega arith
count_most (suc n) test = omega (arith, bit_most (test n), count_most n test)

bit_split : (b c : Bool) → bit (b && c) + bit (b && not c) ≡ bit b
bit_split false c = refl
bit_split true false = refl
bit_split true true = refl

pub count_split : (n : ℕ) (test other : ℕ → Bool) → count n (λ i. test i && other i) + count n (λ i. test i && not (other i)) ≡ count n test
unfolding count
count_split zero test other = refl
count_split (suc n) test other = omega (arith, count_split n test other, bit_split (test n) (other n))

count_not : (n : ℕ) (test : ℕ → Bool) → count n test + count n (λ i. not (test i)) ≡ n
count_not n test = count_split n (λ i. true) test ∙ count_every n

-- ---- the numbers below a, and the rest counted from a
pub count_add : (a n : ℕ) (test : ℕ → Bool) → count (n + a) test ≡ count n (λ i. test (i + a)) + count a test
unfolding count
count_add a zero test = simp zero-add
count_add a (suc n) test = rw suc-add (omega (arith, count_add a n test))

-- ---- single numbers: one left out, one found
pub count_without : (n y : ℕ) (test : ℕ → Bool) → y < n → test y ≡ true → suc (count n (λ i. test i && not (eqb i y))) ≡ count n test
unfolding count
count_without zero y test l pass = absurd (omega arith)
count_without (suc n) y test l pass = go (ℕ_discrete n y) (λ k. count_without n y test k pass)
  where
    other : (i : ℕ) → (i ≡ y → ⊥) → (test i && not (eqb i y)) ≡ test i
    other i ne = rw (ne_eqb i y ne) (and-true (test i))

    go : Dec (n ≡ y) → (y < n → suc (count n (λ i. test i && not (eqb i y))) ≡ count n test)
        → suc (bit (test n && not (eqb n y)) + count n (λ i. test i && not (eqb i y))) ≡ bit (test n) + count n test
    go (yes e) below =
        rw (ap test e ∙ pass, eq-eqb n y e) (omega (arith, count_ext n _ test (λ i k. other i (λ same. omega arith))))
    go (no ne) below = rw (other n ne) (omega (arith, below (omega arith)))

pub record Passing (n : ℕ) (test : ℕ → Bool) : Type 0 where
  pub number : ℕ
  pub below : number < n
  pub passes : test number ≡ true

pub count_some : (n : ℕ) (test : ℕ → Bool) → 0 < count n test → Passing n test
unfolding count
count_some zero test some = absurd (omega arith)
count_some (suc n) test some = go (test n) refl (count_some n test)
  where
    go : (b : Bool) → test n ≡ b → (0 < count n test → Passing n test) → Passing (suc n) test
    go true pass earlier = record { number = n; below = omega arith; passes = pass }
    go false fail earlier =
        let w = earlier (omega (arith, ap bit fail)) in
        record { number = w.number; below = omega (arith, w.below); passes = w.passes }

-- ---- one-to-one maps
count_inject : (n k : ℕ) (g : ℕ → ℕ) → ((i : ℕ) → i < k → g i < n) → ((i j : ℕ) → i < k → j < k → g i ≡ g j → i ≡ j)
    → (test : ℕ → Bool) → count k (λ i. test (g i)) ≤ count n test
unfolding count
count_inject n zero g into apart test = omega arith
count_inject n (suc k) g into apart test =
    go (test (g k)) refl (count_inject n k g (λ i l. into i (omega arith)) (λ i j a b. apart i j (omega arith) (omega arith)))
  where
    -- without g k, which no smaller argument gives
    other : (i : ℕ) → i < k → (test (g i) && not (eqb (g i) (g k))) ≡ test (g i)
    other i l = rw (ne_eqb (g i) (g k) (λ e. omega (arith, apart i k (omega arith) (omega arith) e))) (and-true (test (g i)))

    go : (b : Bool) → test (g k) ≡ b → ((test : ℕ → Bool) → count k (λ i. test (g i)) ≤ count n test) → bit b + count k (λ i. test (g i)) ≤ count n test
    go false fail smaller = omega (arith, smaller test)
    go true pass smaller =
        omega (arith, smaller (λ i. test i && not (eqb i (g k))), count_ext k _ _ other, count_without n (g k) test (into k (omega arith)) pass)

pub count_permute : (n : ℕ) (g : ℕ → ℕ) → ((i : ℕ) → i < n → g i < n) → ((i j : ℕ) → i < n → j < n → g i ≡ g j → i ≡ j)
    → (test : ℕ → Bool) → count n (λ i. test (g i)) ≡ count n test
count_permute n g into apart test =
    omega (
      arith,
      count_inject n n g into apart test,
      count_inject n n g into apart (λ i. not (test i)),
      count_not n test,
      count_not n (λ i. test (g i)),
    )
