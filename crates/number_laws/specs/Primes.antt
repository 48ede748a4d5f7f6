-- Primes. The smallest divisor of a number from 2 on is prime; divided out again and again, such divisors list the prime divisors of a number, since a
-- prime that divides a product divides a factor. That a list has exactly these is a test that is computed.
-- Assumes nothing.
use Rattle.std.specs.Prelude.{◌≡◌, refl, ◌⊎◌, Bool, true, ◌&&◌, ℕ, zero, suc, ◌/◌, ◌%◌, ◌≤◌, ◌<◌, eqb}
use Rattle.std.proofs.Common.{sym, ◌∙◌, inl, inr, le_antisymm, arith, eqb-true, eq-eqb}
use Rattle.std.proofs.Math.Bool.{and-eq-true_iff}
use mathlib.Core.List.Memᴰ
use mathlib.Core.List.{List, [], ◌∷◌, Memᴰ}
use Rattle.std.specs.Int.{◌∣◌}
use Rattle.std.proofs.Math.Nat.{dvd_of_mod-eq-zero, mod-eq-zero_of_dvd, le_of_dvd, dvd_refl, dvd_trans, div-mul_cancel, div-lt_self}
use Rattle.std.proofs.Math.Decide.{ℕ_discrete}
use Rattle.definitions.specs.Number.{first, all, gcd}
use Rattle.number_laws.specs.Truth.{le_unless}
use Rattle.number_laws.specs.Gcd.{gcd_divides, gcd_positive, coprime_divides, quotient_divides, quotient_positive}
use Rattle.number_laws.specs.First.{first_from, first_least, first_passes}
use Rattle.number_laws.specs.Lists.{contains, contains_out, all_out}

pub record IsPrime (r : ℕ) : Type 0 where
  pub above : 2 ≤ r
  pub only : (d : ℕ) → 2 ≤ d → d ∣ r → d ≡ r

-- ---- the smallest divisor
unfoldable pub smallest_divisor : ℕ → ℕ
smallest_divisor n = first n 2 (λ d. eqb (n % d) 0)

pub prime_divisor : (n : ℕ) → 2 ≤ n → IsPrime (smallest_divisor n) × (smallest_divisor n ∣ n)
unfolding smallest_divisor
prime_divisor n two = (record { above = first_from n 2 test; only = only }, part)
  where
    test : ℕ → Bool
    test d = eqb (n % d) 0

    least : (d : ℕ) → 2 ≤ d → d ∣ n → first n 2 test ≤ d
    least d k h = first_least n 2 test d k (eq-eqb (n % d) 0 (mod-eq-zero_of_dvd d h))

    part : first n 2 test ∣ n
    part = dvd_of_mod-eq-zero _ (eqb-true _ 0 (first_passes n 2 test (omega (arith, least n two (dvd_refl n)))))

    only : (d : ℕ) → 2 ≤ d → d ∣ first n 2 test → d ≡ first n 2 test
    only d k h = le_antisymm (le_of_dvd (omega (arith, first_from n 2 test)) h) (least d k (dvd_trans d h part))

-- ---- all prime divisors
pub record PrimeDivisors (n : ℕ) (l : List ℕ) : Type 0 where
  pub each : (r : ℕ) → Memᴰ r l → IsPrime r × (r ∣ n)
  pub all : (r : ℕ) → IsPrime r → r ∣ n → Memᴰ r l

-- a prime other than d that divides n divides n / d
prime_other : (r d n : ℕ) → IsPrime r → IsPrime d → (r ≡ d → ⊥) → d ∣ n → r ∣ n → r ∣ n / d
prime_other r d n pr pd ne of-n h =
    coprime_divides r d (n / d) (omega (arith, alone, gcd_positive d r (omega (arith, pr.above)))) (rw (div-mul_cancel d of-n) h)
  where
    -- were gcd d r from 2 on, it would be both d and r
    alone : gcd d r ≤ 1
    alone = le_unless (λ two. ne (sym (pr.only (gcd d r) two (gcd_divides d r).1) ∙ pd.only (gcd d r) two (gcd_divides d r).0))

divisors_none : PrimeDivisors 1 []
divisors_none = record {
  each = λ r m. absurd (Memᴰ.not-nil m);
  all = λ r p h. absurd (omega (arith, le_of_dvd (omega arith) h, p.above));
}

divisors_more : (d n : ℕ) (l : List ℕ) → IsPrime d → d ∣ n → PrimeDivisors (n / d) l → PrimeDivisors n (d ∷ l)
divisors_more d n l p h k = record { each = λ r m. each r (Memᴰ.cases_cons m); all = λ r q e. all r q e (ℕ_discrete r d) }
  where
    each : (r : ℕ) → (r ≡ d) ⊎ Memᴰ r l → IsPrime r × (r ∣ n)
    each r (inl e) = (rw e p, rw e h)
    each r (inr m) = ((k.each r m).0, dvd_trans r (k.each r m).1 (quotient_divides d n h))

    all : (r : ℕ) → IsPrime r → r ∣ n → Dec (r ≡ d) → Memᴰ r (d ∷ l)
    all r q e (yes same) = Memᴰ.head same
    all r q e (no other) = Memᴰ.tail (k.all r q (prime_other r d n q p other h e))

-- The smallest divisor, and those of what is left when it is divided out; at most k times, and n of them are enough.
unfoldable pub prime_factors_within : ℕ → ℕ → List ℕ
prime_factors_within zero n = []
prime_factors_within (suc k) zero = []
prime_factors_within (suc k) (suc zero) = []
prime_factors_within (suc k) (suc (suc n)) =
    let r = smallest_divisor (suc (suc n)) in
    r ∷ prime_factors_within k (suc (suc n) / r)

unfoldable pub prime_factors : ℕ → List ℕ
prime_factors n = prime_factors_within n n

within : (k n : ℕ) → 0 < n → n ≤ k → PrimeDivisors n (prime_factors_within k n)
unfolding prime_factors_within
within zero n pos h = absurd (omega arith)
within (suc k) zero pos h = absurd (omega arith)
within (suc k) (suc zero) pos h = divisors_none
within (suc k) (suc (suc n)) pos h =
    let N = suc (suc n) in
    let (p, part) = prime_divisor N (omega arith) in
    divisors_more _ N _ p part (within k _ (quotient_positive _ N part pos) (omega (arith, div-lt_self pos p.above)))

prime_factors_lem : (n : ℕ) → 0 < n → PrimeDivisors n (prime_factors n)
prime_factors_lem n pos = unfold prime_factors in within n n pos (omega arith)

-- ---- that a list has exactly these, computed
unfoldable pub lists_primes : ℕ → List ℕ → Bool
lists_primes n l = all (contains (prime_factors n)) l && all (contains l) (prime_factors n)

pub lists_primes_lem : (n : ℕ) (l : List ℕ) → 0 < n → lists_primes n l ≡ true → PrimeDivisors n l
unfolding lists_primes
lists_primes_lem n l pos t =
    let (inside, whole) = (and-eq-true_iff (all (contains (prime_factors n)) l) (all (contains l) (prime_factors n))).0 t in
    let known = prime_factors_lem n pos in
    record {
      each = λ r m. known.each r (contains_out (prime_factors n) r (all_out _ inside m));
      all = λ r p h. contains_out l r (all_out _ whole (known.all r p h));
    }
