-- Digits of words: the degree is what leading zeros leave of a word's digits, a mask of one digit tells that digit, and halves are shifts.
-- Assumes nothing.
use Rattle.std.specs.Prelude.{◌≡◌, ℕ, suc, ◌+◌, ◌-◌, ◌*◌, ◌/◌, ◌%◌, ◌^◌, ◌≤◌, ◌<◌}
use Rattle.std.proofs.Common.{ap, ◌∙◌, zero-mul, lt_of_not-le, arith, pow_pos, pow-add, shr-shr}
use Rattle.std.proofs.Math.Nat.{div-eq_of_lt}
use Rattle.std.specs.Int.Bits.{bit_and}
use Rattle.std.proofs.lemmas.Nat.Bits.{and_high}
use Rattle.std.specs.Int.Count.{count_leading_zeros}
use Rattle.std.proofs.lemmas.Nat.{leading_top}
use Rattle.definitions.specs.Polynomial.{degree}
use Rattle.polynomial_laws.specs.Degree.{degree_unique, leading_one}

-- in a word of w digits; and of 32
pub leading_degree_in : (w a : ℕ) → 0 < a → a < 2 ^ w → count_leading_zeros w a + suc (degree a) ≡ w
leading_degree_in w a pos fits =
    let (j, place, least, most) = leading_top w a pos fits in
    omega (arith, degree_unique a j (record { least = least; most = omega arith }))

pub leading_degree : (a : ℕ) → 0 < a → a < 2 ^ 32 → count_leading_zeros 32 a + suc (degree a) ≡ 32
leading_degree = leading_degree_in 32

-- ---- the digit at x^m, by a mask
pub mask : (m a : ℕ) → bit_and a (2 ^ m) ≡ a / 2 ^ m % 2 * 2 ^ m
mask m a =
    let one : 2 ^ m ≡ 2 ^ (1 + m) - 2 ^ m = rw pow-add (omega arith) in
    ap (bit_and a) one ∙ and_high a 1 m

pub below_mask : (m a : ℕ) → a < 2 * 2 ^ m → bit_and a (2 ^ m) ≡ 0 → a < 2 ^ m
below_mask m a below none =
    lt_of_not-le (λ (l : 2 ^ m ≤ a). omega (arith, rw (leading_one {a = a} (record { least = l; most = below })) at (mask m a), pow_pos m))

pub above_mask : (m a : ℕ) → (bit_and a (2 ^ m) ≡ 0 → ⊥) → 2 ^ m ≤ a
above_mask m a some =
    let l : ¬ (a < 2 ^ m) = λ (k : a < 2 ^ m). some (mask m a ∙ rw (div-eq_of_lt k, zero-mul)) in
    omega arith

-- ---- shifted by one digit more
pub shifted_half : (a i j : ℕ) → i + 1 ≡ j → a / 2 ^ i / 2 ≡ a / 2 ^ j
shifted_half a i j next = shr-shr a i 1 ∙ ap (λ n. a / 2 ^ n) next
