-- Sets of exponents that hold the remainders of their members and all their multiples: the smallest from 1 on divides every other.
-- So N is the smallest exactly where N is a member and no N / r is, r a prime divisor of N: a smaller one's gcd with N would divide such an N / r.
-- Assumes nothing.
use Rattle.std.specs.Prelude.{◌≡◌, ◌↔◌, Bool, true, false, not, ◌&&◌, ℕ, ◌/◌, ◌%◌, ◌≤◌, ◌<◌}
use Rattle.std.proofs.Math.Path.{refl, ap}
use Rattle.std.proofs.Common.{◌∙◌, mod-lt, arith}
use Rattle.std.proofs.Math.Bool.{and-eq-true_iff}
use mathlib.Core.List.{List, [], ◌∷◌, Memᴰ}
use Rattle.std.specs.Int.{◌∣◌}
use Rattle.std.proofs.Math.Nat.{dvd_of_mod-eq-zero, div-lt_self, le_of_dvd}
use borrow.Author.Tests.{not-true}
use Rattle.definitions.specs.Number.{gcd}
use Rattle.number_laws.specs.Truth.{truth_false, not_both, le_unless}
use Rattle.number_laws.specs.Gcd.{gcd_keeps, gcd_divides, quotient_positive}
use Rattle.number_laws.specs.Primes.{PrimeDivisors}
use Rattle.number_laws.specs.Covers.{primes_cover}

-- n is the smallest e ≥ 1 of P.
pub record Smallest (P : ℕ → Type 0) (n : ℕ) : Type 0 where
  pub positive : 0 < n
  pub holds : P n
  pub least : (e : ℕ) → 0 < e → P e → n ≤ e

pub record Closed (P : ℕ → Type 0) : Type 0 where
  pub remainder : (a b : ℕ) → P a → P b → P (a % b)
  pub multiple : (a b : ℕ) → b ∣ a → P b → P a

-- N is a member, and no N / r is, r of the list.
pub record Tested (P : ℕ → Type 0) (N : ℕ) (l : List ℕ) : Type 0 where
  pub holds : P N
  pub none : (r : ℕ) → Memᴰ r l → ¬ P (N / r)

module _ (P : ℕ → Type 0) (closed : Closed P) where
  pub smallest_divides : (n a : ℕ) → Smallest P n → P a → n ∣ a
  smallest_divides n a s h =
      let none : a % n ≤ 0 = le_unless (λ l. omega (arith, s.least (a % n) l (closed.remainder a n h s.holds), mod-lt a s.positive)) in
      dvd_of_mod-eq-zero n (omega arith)

  pub smallest_test : (N : ℕ) (l : List ℕ) → 0 < N → PrimeDivisors N l → Smallest P N ↔ Tested P N l
  smallest_test N l pos primes = (
    λ s. record {
      holds = s.holds;
      none = λ r m k.
          let (p, part) = primes.each r m in
          omega (arith, s.least (N / r) (quotient_positive r N part pos) k, div-lt_self pos p.above);
    },
    λ t. record {
      positive = pos;
      holds = t.holds;
      least = λ e h k. le_unless (λ less.
          let c = primes_cover N l pos primes (gcd e N) (gcd_divides e N).1 (λ same. omega (arith, le_of_dvd h (gcd_divides e N).0)) in
          t.none c.r c.listed (closed.multiple (N / c.r) (gcd e N) c.divides (gcd_keeps P closed.remainder e N k t.holds)));
    },
  )

-- ---- the same test, computed
unfoldable pub none_of : (ℕ → Bool) → ℕ → List ℕ → Bool
none_of test N [] = true
none_of test N (r ∷ l) = not (test (N / r)) && none_of test N l

unfoldable pub tested : (ℕ → Bool) → ℕ → List ℕ → Bool
tested test N l = test N && none_of test N l

module _ (test : ℕ → Bool) (N : ℕ) where
  none_out : {r : ℕ} {l : List ℕ} → none_of test N l ≡ true → Memᴰ r l → test (N / r) ≡ false
  unfolding none_of
  none_out {l = []} t m = elim m [ ]
  none_out {l = q ∷ l} t (Memᴰ.head e) = ap (λ r. test (N / r)) e ∙ not-true _ ((and-eq-true_iff (not (test (N / q))) (none_of test N l)).0 t).0
  none_out {l = q ∷ l} t (Memᴰ.tail m) = none_out ((and-eq-true_iff (not (test (N / q))) (none_of test N l)).0 t).1 m

  none_in : (l : List ℕ) → ((r : ℕ) → Memᴰ r l → test (N / r) ≡ false) → none_of test N l ≡ true
  unfolding none_of
  none_in [] h = refl
  none_in (q ∷ l) h = rw (h q (Memᴰ.head refl), none_in l (λ r m. h r (Memᴰ.tail m)))

module _ (P : ℕ → Type 0) (test : ℕ → Bool) (same : (e : ℕ) → (test e ≡ true) ↔ P e) (N : ℕ) (l : List ℕ) where
  pub none_of_is : (none_of test N l ≡ true) ↔ ((r : ℕ) → Memᴰ r l → ¬ P (N / r))
  none_of_is = (
    λ t r m h. not_both ((same (N / r)).1 h) (none_out test N t m),
    λ none. none_in test N l (λ r m. truth_false _ (λ t. none r m ((same (N / r)).0 t))),
  )

  pub tested_is : (tested test N l ≡ true) ↔ Tested P N l
  unfolding tested
  tested_is = (
    λ t.
        let (whole, parts) = (and-eq-true_iff (test N) (none_of test N l)).0 t in
        record { holds = (same N).0 whole; none = none_of_is.0 parts },
    λ h. (and-eq-true_iff (test N) (none_of test N l)).1 ((same N).1 h.holds, none_of_is.1 h.none),
  )
