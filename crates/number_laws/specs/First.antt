-- The first number from a on, of n tried, that passes a test: all before it fail, and it passes unless it is the number behind all that are tried.
-- These two facts, by the recursion of `first`, tell it from every other number.
-- Assumes nothing.
use Rattle.std.specs.Prelude.{◌≡◌, refl, Bool, true, false, ℕ, zero, suc, ◌+◌, ◌≤◌, ◌<◌}
use Rattle.std.proofs.Common.{le_antisymm, arith}
use Rattle.std.proofs.Math.Decide.{ℕ_discrete}
use Rattle.definitions.specs.Number.{first}
use Rattle.number_laws.specs.Truth.{not_both, le_unless}

-- ---- one number tried: it is the first, or the search goes on behind it
module _ (n a : ℕ) (test : ℕ → Bool) where
  pub first_stop : test a ≡ true → first (suc n) a test ≡ a
  unfolding first
  first_stop pass = rw (first, pass)

  pub first_on : test a ≡ false → first (suc n) a test ≡ first n (suc a) test
  unfolding first
  first_on fail = rw (first, fail)

-- ---- what is found
record Found (n a : ℕ) (test : ℕ → Bool) (k : ℕ) : Type 0 where
  from : a ≤ k
  to : k ≤ a + n
  before : (i : ℕ) → a ≤ i → i < k → test i ≡ false
  passes : k < a + n → test k ≡ true

found : (n a : ℕ) (test : ℕ → Bool) → Found n a test (first n a test)
unfolding first
found zero a test = record { from = omega arith; to = omega arith; before = λ i h l. absurd (omega arith); passes = λ l. absurd (omega arith) }
found (suc n) a test = go (test a) refl (found n (suc a) test)
  where
    go : (b : Bool) → test a ≡ b → Found n (suc a) test (first n (suc a) test) → Found (suc n) a test (first (suc n) a test)
    go true pass rest =
        rw (first_stop n a test pass)
        (record { from = omega arith; to = omega arith; before = λ i h l. absurd (omega arith); passes = λ l. pass })
    go false fail rest =
        rw (first_on n a test fail) (record {
          from = omega (arith, rest.from);
          to = omega (arith, rest.to);
          before = λ i h l. at i h l (ℕ_discrete i a);
          passes = λ l. rest.passes (omega arith);
        })
      where
        at : (i : ℕ) → a ≤ i → i < first n (suc a) test → Dec (i ≡ a) → test i ≡ false
        at i h l (yes e) = rw e fail
        at i h l (no e) = rest.before i (omega arith) l

module _ (n a : ℕ) (test : ℕ → Bool) where
  pub first_from : a ≤ first n a test
  first_from = (found n a test).from

  pub first_to : first n a test ≤ a + n
  first_to = (found n a test).to

  pub first_before : (i : ℕ) → a ≤ i → i < first n a test → test i ≡ false
  first_before = (found n a test).before

  pub first_passes : first n a test < a + n → test (first n a test) ≡ true
  first_passes = (found n a test).passes

  -- ---- told from others
  pub first_least : (w : ℕ) → a ≤ w → test w ≡ true → first n a test ≤ w
  first_least w from pass = le_unless (λ l. not_both pass (first_before w from l))

  pub first_unique : (w : ℕ) → a ≤ w → w < a + n → test w ≡ true → ((i : ℕ) → a ≤ i → i < w → test i ≡ false) → first n a test ≡ w
  first_unique w from to pass before =
      le_antisymm (first_least w from pass) (le_unless (λ l. not_both (first_passes (omega arith)) (before (first n a test) first_from l)))

  pub first_none : ((i : ℕ) → a ≤ i → i < a + n → test i ≡ false) → first n a test ≡ a + n
  first_none none = le_antisymm first_to (le_unless (λ l. not_both (first_passes l) (none (first n a test) first_from l)))
