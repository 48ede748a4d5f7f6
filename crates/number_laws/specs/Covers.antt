-- N by its prime divisors: a divisor of N other than N divides N / r for one of them, r, which is a prime divisor of the cofactor. And s is coprime to
-- N just where N divides no s-fold of N / r: a common prime r would make it (s / r) N.
-- Assumes nothing.
use Rattle.std.specs.Prelude.{◌≡◌, ◌≢◌, ℕ, zero, suc, ◌*◌, ◌/◌, ◌≤◌, ◌<◌}
use mathlib.Core.List.{List, Memᴰ}
use Rattle.std.specs.Int.{◌∣◌}
use Rattle.std.proofs.Math.Nat.{dvd_trans, div-mul_cancel, mul-div_cancel', mul-dvd-mul_left, dvd_of_mul-dvd-mul_right, le_of_dvd, div-lt_self}
use Rattle.std.proofs.Common.{arith}
use Rattle.definitions.specs.Number.{gcd}
use Rattle.number_laws.specs.Truth.{le_unless}
use Rattle.number_laws.specs.Gcd.{gcd_divides, gcd_positive, coprime_divides, quotient_divides, quotient_positive, divided_multiple}
use Rattle.number_laws.specs.Primes.{PrimeDivisors, smallest_divisor, prime_divisor}

-- e divides N / r for some r of the list.
pub record Cofactor (N e : ℕ) (l : List ℕ) : Type 0 where
  pub r : ℕ
  pub listed : Memᴰ r l
  pub divides : e ∣ N / r

module _ (N : ℕ) (l : List ℕ) (pos : 0 < N) (primes : PrimeDivisors N l) where
  pub primes_cover : (e : ℕ) → e ∣ N → e ≢ N → Cofactor N e l
  primes_cover e part other =
      let (p, of_c) = prime_divisor (N / e) (two (N / e) (div-mul_cancel e part)) in
      let r = smallest_divisor (N / e) in
      let of-N : r ∣ N = dvd_trans r of_c (quotient_divides e N part) in
      let times : e * r ∣ N = rw (mul-div_cancel' e part) at (mul-dvd-mul_left r e of_c) in
      record {
        r = r;
        listed = primes.all r p of-N;
        divides = dvd_of_mul-dvd-mul_right {k = r} e (omega (arith, p.above)) (rw (div-mul_cancel r of-N) times);
      }
    where
      two : (c : ℕ) → c * e ≡ N → 2 ≤ c
      two zero q = absurd (omega arith)
      two (suc zero) q = absurd (other (omega arith))
      two (suc (suc c)) q = omega arith

  module _ (s : ℕ) where
    pub coprime_apart : gcd s N ≡ 1 → (r : ℕ) → Memᴰ r l → ¬ (N ∣ N / r * s)
    coprime_apart coprime r m k =
        let (p, part) = primes.each r m in
        omega (arith, le_of_dvd (quotient_positive r N part pos) (coprime_divides N s (N / r) coprime k), div-lt_self pos p.above)

    pub apart_coprime : ((r : ℕ) → Memᴰ r l → ¬ (N ∣ N / r * s)) → gcd s N ≡ 1
    apart_coprime apart = omega (arith, none, gcd_positive s N pos)
      where
        none : gcd s N ≤ 1
        none = le_unless (λ two.
            let (p, part) = prime_divisor (gcd s N) two in
            let r = smallest_divisor (gcd s N) in
            let of-N : r ∣ N = dvd_trans r part (gcd_divides s N).1 in
            apart r (primes.all r p of-N) (divided_multiple r N s of-N (dvd_trans r part (gcd_divides s N).0)))
