-- The table of the prime divisors of 2^m - 1, a list for each degree m that the library covers.
-- Its rule is proved once over the table: dividing out the smallest divisor, computed, finds exactly the numbers listed.
-- Assumes nothing.
use Rattle.std.specs.Prelude.{◌≡◌, refl, Bool, true, List, [], ◌∷◌, ℕ, suc, ◌+◌, ◌-◌, ◌≤◌, ◌<◌, leb, length, get_or}
use Rattle.std.proofs.Common.{arith, pow_mono, leb-true}
use Rattle.definitions.specs.Number.{first, every, all}
use Rattle.definitions.specs.Generator.{least_degree, largest_degree, period}
use Rattle.number_laws.specs.Bounds.{LawfulDegree}
use Rattle.number_laws.specs.Every.{every_out}
use Rattle.number_laws.specs.Lists.{contains}
use Rattle.number_laws.specs.Primes.{PrimeDivisors, smallest_divisor, prime_factors_within, prime_factors, lists_primes, lists_primes_lem}

-- From the least degree on, a list for each.
unfoldable pub divisor_table : List (List ℕ)
divisor_table =
    (3 ∷ [])
    ∷ (7 ∷ [])
    ∷ (3 ∷ 5 ∷ [])
    ∷ (31 ∷ [])
    ∷ (3 ∷ 7 ∷ [])
    ∷ (127 ∷ [])
    ∷ (3 ∷ 5 ∷ 17 ∷ [])
    ∷ (7 ∷ 73 ∷ [])
    ∷ (3 ∷ 11 ∷ 31 ∷ [])
    ∷ (23 ∷ 89 ∷ [])
    ∷ (3 ∷ 5 ∷ 7 ∷ 13 ∷ [])
    ∷ (8191 ∷ [])
    ∷ (3 ∷ 43 ∷ 127 ∷ [])
    ∷ (7 ∷ 31 ∷ 151 ∷ [])
    ∷ (3 ∷ 5 ∷ 17 ∷ 257 ∷ [])
    ∷ []

unfoldable pub divisors_of : ℕ → List ℕ
unfolding divisor_table
divisors_of m = get_or divisor_table (m - least_degree) []

-- No list is longer.
abbrev pub places : ℕ
places = 4

-- How many degrees the library covers.
abbrev pub degrees : ℕ
degrees = suc largest_degree - least_degree

-- What is computed of each degree that the library covers holds of any of them.
each_degree : (test : ℕ → Bool) → every degrees (λ i. test (i + least_degree)) ≡ true → (m : ℕ) → LawfulDegree m → test m ≡ true
each_degree test computed m h =
    let e : m - least_degree + least_degree ≡ m = omega (arith, h.low) in
    rw e at (every_out degrees (λ i. test (i + least_degree)) computed (m - least_degree) (omega (arith, h.low, h.high)))

fit_computed : every degrees (λ i. leb (length (divisors_of (i + least_degree))) places) ≡ true
unfolding every divisor_table divisors_of
fit_computed = refl

pub divisors_fit : (m : ℕ) → LawfulDegree m → length (divisors_of m) ≤ places
divisors_fit m h = leb-true _ _ (each_degree (λ n. leb (length (divisors_of n)) places) fit_computed m h)

-- Each list has exactly the prime divisors of its 2^m - 1.
table_computed : every degrees (λ i. lists_primes (period (i + least_degree)) (divisors_of (i + least_degree))) ≡ true
unfolding every all first contains smallest_divisor prime_factors_within prime_factors lists_primes divisor_table divisors_of
table_computed = refl

pub period_positive : (m : ℕ) → 1 ≤ m → 0 < period m
period_positive m h = omega (arith, pow_mono h)

pub table_rule : (m : ℕ) → LawfulDegree m → PrimeDivisors (period m) (divisors_of m)
table_rule m h =
    lists_primes_lem (period m) (divisors_of m) (period_positive m (omega (arith, h.low)))
    (each_degree (λ n. lists_primes (period n) (divisors_of n)) table_computed m h)
