-- Degrees as inequalities: a has degree m where 2^m ≤ a < 2^(m+1), that is where 1 is left when a is shifted down by m; m is then the only one.
-- Shifted down, a sum shows its degree: that of the larger term, and less than both where the leading terms are equal.
-- Assumes nothing.
use Rattle.std.specs.Prelude.{◌≡◌, refl, ℕ, zero, suc, ◌*◌, ◌/◌, ◌^◌, ◌≤◌, ◌<◌}
use Rattle.std.proofs.Common.{le_refl, lt_of_not-le, div-mul-le_self, arith, pow_pos, pow_mono}
use Rattle.std.proofs.Math.Nat.{div-eq_of_lt, div-eq_of_lt-le, lt-div-mul-add}
use Rattle.definitions.specs.Polynomial.{◌⊕◌, degree, degree_within}
use Rattle.polynomial_laws.specs.Sum.{⊕_shr, ⊕_self, ⊕_zero}

pub record HasDegree (a m : ℕ) : Type 0 where
  pub least : 2 ^ m ≤ a
  pub most : a < 2 * 2 ^ m

-- ---- between powers of two
exponent_le : (i j a : ℕ) → 2 ^ i ≤ a → a < 2 ^ suc j → i ≤ j
exponent_le i j a above below =
    let l : i < suc j = lt_of_not-le (λ (k : suc j ≤ i). omega (arith, pow_mono k)) in
    omega arith

pub positive : {a m : ℕ} → HasDegree a m → 0 < a
positive {m = m} h = omega (arith, pow_pos m)

pub power_degree : (k : ℕ) → HasDegree (2 ^ k) k
power_degree k = record { least = omega arith; most = omega (arith, pow_pos k) }

pub double_degree : {a m : ℕ} → HasDegree a m → HasDegree (2 * a) (suc m)
double_degree h = record { least = omega arith; most = omega arith }

pub half_degree : {a m : ℕ} → HasDegree a (suc m) → HasDegree (a / 2) m
half_degree h = record { least = omega arith; most = omega arith }

degree_of_half : {a m : ℕ} → HasDegree (a / 2) m → HasDegree a (suc m)
degree_of_half h = record { least = omega arith; most = omega arith }

-- ---- the degree as it is computed, by halving
halved : (n a : ℕ) → 0 < a → a ≤ n → HasDegree a (degree_within n a)
unfolding degree_within
halved zero a pos h = absurd (omega arith)
halved (suc n) zero pos h = absurd (omega arith)
halved (suc n) (suc zero) pos h = power_degree 0
halved (suc n) (suc (suc a)) pos h = degree_of_half (halved n (suc (suc a) / 2) (omega arith) (omega arith))

pub degree_is : (a : ℕ) → 0 < a → HasDegree a (degree a)
degree_is a pos = unfold degree in halved a a pos (le_refl a)

pub degree_unique : (a m : ℕ) → HasDegree a m → degree a ≡ m
degree_unique a m h =
    let k = degree_is a (positive h) in
    omega (arith, exponent_le m (degree a) a h.least (omega arith), exponent_le (degree a) m a k.least (omega arith))

pub degree_zero : degree 0 ≡ 0
unfolding degree degree_within
degree_zero = refl

pub degree_least : (a m : ℕ) → 2 ^ m ≤ a → m ≤ degree a
degree_least a m h = exponent_le m (degree a) a h (omega (arith, (degree_is a (omega (arith, pow_pos m))).most))

pub degree_most : (a m : ℕ) → 0 < a → a < 2 ^ m → degree a < m
degree_most a m pos h = lt_of_not-le λ (l : m ≤ degree a). omega (arith, pow_mono l, (degree_is a pos).least)

-- ---- shifted down
pub lt_of_shr : (m a : ℕ) → a / 2 ^ m ≡ 0 → a < 2 ^ m
lt_of_shr m a none = omega (arith, rw none at (lt-div-mul-add {a = a} (pow_pos m)))

pub leading_one : {a m : ℕ} → HasDegree a m → a / 2 ^ m ≡ 1
leading_one {m = m} h = div-eq_of_lt-le (2 ^ m) (omega (arith, h.least)) (omega (arith, h.most))

pub one_leads : {a : ℕ} (m : ℕ) → a / 2 ^ m ≡ 1 → HasDegree a m
one_leads {a} m one = record {
  least = omega (arith, rw one at (div-mul-le_self a (2 ^ m)));
  most = omega (arith, rw one at (lt-div-mul-add {a = a} (pow_pos m)));
}

-- ---- sums
pub add_degree : {a b m : ℕ} → HasDegree a m → b < 2 ^ m → HasDegree (a ⊕ b) m
add_degree {m = m} h below = one_leads m (rw (⊕_shr, leading_one h, div-eq_of_lt below, ⊕_zero))

pub leads_cancel : {a b m : ℕ} → HasDegree a m → HasDegree b m → a ⊕ b < 2 ^ m
leads_cancel {m = m} h k = lt_of_shr m _ (rw (⊕_shr, leading_one h, leading_one k, ⊕_self))
