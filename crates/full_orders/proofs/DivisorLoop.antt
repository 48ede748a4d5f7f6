-- The test over the table's divisors r as a loop has it, one after the other: none of the values f (N / r) is 1, with N = 2^m - 1. What is left to test
-- is the list behind the place reached. The divisors are primes, so the first 0 stands behind the last. Assumes nothing.
use mathlib.Core.Path.{◌≡◌, refl, sym, ◌∙◌}
use mathlib.Core.Bool.{Bool, true, false}
use mathlib.Core.List.{List, [], ◌∷◌, Memᴰ}
use Prim.Native.Nat.{ℕ, zero, suc, ◌+◌, ◌/◌, ◌≤◌, ◌<◌}
use native.Mathlib.Nat.{le_of_suc-le-suc}
use native.Mathlib.Numerals.{add-one}
use native.Mathlib.Omega.{arith}
use native.Mathlib.Decide.{dec_le}
use lib.Dec.{eqb}
use lib.ListN.{length, drop, get_or, drop_of_length-le, get_or-eq_default}
use lib.Seq.{drop-cons}
use borrow.Author.Tests.{eq-eqb, ne_eqb}
use Rattle.definitions.specs.Generator.{period}
use Rattle.number_laws.specs.Bounds.{LawfulDegree}
use Rattle.number_laws.specs.Truth.{le_unless}
use Rattle.order_laws.specs.Exponents.{none_of}
use Rattle.order_laws.specs.Table.{divisors_of, places, divisors_fit, table_rule}

listed : (l : List ℕ) (i : ℕ) → i < length l → Memᴰ (get_or l i 0) l
listed [] i h = absurd (omega arith)
listed (x ∷ l) zero h = Memᴰ.head refl
listed (x ∷ l) (suc i) h = Memᴰ.tail (listed l i (le_of_suc-le-suc h))

none_of_nil : (test : ℕ → Bool) (N : ℕ) → none_of test N [] ≡ true
unfolding none_of
none_of_nil test N = refl

none_of_hit : (test : ℕ → Bool) (N r : ℕ) (l : List ℕ) → test (N / r) ≡ true → none_of test N (r ∷ l) ≡ false
unfolding none_of
none_of_hit test N r l t = rw t

none_of_miss : (test : ℕ → Bool) (N r : ℕ) (l : List ℕ) → test (N / r) ≡ false → none_of test N (r ∷ l) ≡ none_of test N l
unfolding none_of
none_of_miss test N r l t = rw t

-- A divisor is no 0, so a 0 stands behind the last.
behind : (m i : ℕ) → LawfulDegree m → get_or (divisors_of m) i 0 ≡ 0 → length (divisors_of m) ≤ i
behind m i h z = le_unless (λ l. omega (arith, ((table_rule m h).each _ (listed (divisors_of m) i l)).0.above))

-- No value f (N / r) is 1, r among the divisors.
abbrev pub none_is_one : ℕ → (ℕ → ℕ) → Bool
none_is_one m f = none_of (λ e. eqb (f e) 1) (period m) (divisors_of m)

-- The loop over the divisors in l, at place i: what the test says of them from there on, it says of all.
pub record Testing (m : ℕ) (f : ℕ → ℕ) (l : List ℕ) (i : ℕ) : Type 0 where
  pub lawful : LawfulDegree m
  pub listed : (j : ℕ) → j < places → get_or l j 0 ≡ get_or (divisors_of m) j 0
  pub place : i ≤ places
  pub left : none_of (λ e. eqb (f e) 1) (period m) (drop i (divisors_of m)) ≡ none_is_one m f

module _ {m : ℕ} {f : ℕ → ℕ} {l : List ℕ} where
  pub testing_start : LawfulDegree m → ((j : ℕ) → j < places → get_or l j 0 ≡ get_or (divisors_of m) j 0) → Testing m f l 0
  testing_start h listed = record { lawful = h; listed = listed; place = omega arith; left = refl }

  module _ {i : ℕ} (at : Testing m f l i) where
    nothing_left : length (divisors_of m) ≤ i → true ≡ none_is_one m f
    nothing_left k = sym (none_of_nil (λ e. eqb (f e) 1) (period m)) ∙ rw (drop_of_length-le (divisors_of m) {i = i} k) at at.left

    pub testing_end : places ≤ i → true ≡ none_is_one m f
    testing_end k = nothing_left (omega (arith, divisors_fit m at.lawful))

    module _ (more : i < places) where
      pub testing_zero : get_or l i 0 ≡ 0 → true ≡ none_is_one m f
      testing_zero z = nothing_left (behind m i at.lawful (sym (at.listed i more) ∙ z))

      -- A divisor at hand, and the value v of f at N divided by it.
      module _ {v : ℕ} (n : get_or l i 0 ≡ 0 → ⊥) (is : v ≡ f (period m / get_or l i 0)) where
        split : drop i (divisors_of m) ≡ get_or l i 0 ∷ drop (suc i) (divisors_of m)
        split = go (dec_le (length (divisors_of m)) i)
          where
            go : Dec (length (divisors_of m) ≤ i) → drop i (divisors_of m) ≡ get_or l i 0 ∷ drop (suc i) (divisors_of m)
            go (yes k) = absurd (n (at.listed i more ∙ get_or-eq_default (divisors_of m) 0 k))
            go (no k) = rw (at.listed i more) (drop-cons (divisors_of m) i 0 (omega arith))

        pub testing_one : v ≡ 1 → false ≡ none_is_one m f
        testing_one one =
            sym (none_of_hit (λ k. eqb (f k) 1) (period m) (get_or l i 0) (drop (suc i) (divisors_of m)) (eq-eqb _ 1 (sym is ∙ one)))
            ∙ rw split at at.left

        pub testing_other : (v ≡ 1 → ⊥) → Testing m f l (i + 1)
        testing_other other = record {
          lawful = at.lawful;
          listed = at.listed;
          place = omega arith;
          left =
              rw add-one
              (sym (none_of_miss (λ k. eqb (f k) 1) (period m) (get_or l i 0) (drop (suc i) (divisors_of m)) (ne_eqb _ 1 (λ one. other (is ∙ one))))
              ∙ rw split at at.left);
        }
