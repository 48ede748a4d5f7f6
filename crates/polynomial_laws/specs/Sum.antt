-- Sums of binary polynomials. The half of a sum is the sum of the halves, and twice the digits that both terms have make it the sum with carries.
-- So, half by half, sums form a commutative group in which every polynomial is its own opposite.
-- Assumes nothing.
use Rattle.std.specs.Prelude.{◌≡◌, ℕ, ◌+◌, ◌*◌, ◌/◌, ◌%◌, ◌^◌, ◌<◌}
use Rattle.std.proofs.Math.Path.{refl, sym}
use Rattle.std.proofs.Common.{◌∙◌, mul_comm, zero-mul, arith}
use Rattle.std.specs.Int.Bits.{bit_and, bit_xor, xor_comm, xor_self, xor_zero_r, xor_lt, xor_shr, xor_mod, xor_shifted, xor_add_and}
use Rattle.definitions.specs.Polynomial.{◌⊕◌}
use Rattle.polynomial_laws.specs.Digits.{Digit, off, on, lowest, half_ind, same_digits, half_double}

-- ---- as words are added
pub ⊕_lt : (k a b : ℕ) → a < 2 ^ k → b < 2 ^ k → a ⊕ b < 2 ^ k
⊕_lt = unfold ◌⊕◌ in xor_lt

module _ (a b : ℕ) where
  pub ⊕_def : a ⊕ b ≡ bit_xor a b
  ⊕_def = unfold ◌⊕◌ in refl

  pub ⊕_shr : (k : ℕ) → (a ⊕ b) / 2 ^ k ≡ a / 2 ^ k ⊕ b / 2 ^ k
  ⊕_shr = unfold ◌⊕◌ in xor_shr a b

  pub half-⊕ : (a ⊕ b) / 2 ≡ a / 2 ⊕ b / 2
  half-⊕ = ⊕_shr 1

  lowest-⊕ : (a ⊕ b) % 2 ≡ a % 2 ⊕ b % 2
  lowest-⊕ = unfold ◌⊕◌ in xor_mod a b 1

  carried : (a ⊕ b) + 2 * bit_and a b ≡ a + b
  unfolding ◌⊕◌
  carried = omega (arith, xor_add_and a b)

-- ---- the group
pub zero-⊕ : (a : ℕ) → 0 ⊕ a ≡ a
zero-⊕ a = unfold ◌⊕◌ in refl

pub ⊕_zero : (a : ℕ) → a ⊕ 0 ≡ a
⊕_zero = unfold ◌⊕◌ in xor_zero_r

pub ⊕_self : (a : ℕ) → a ⊕ a ≡ 0
⊕_self = unfold ◌⊕◌ in xor_self

pub ⊕_comm : (a b : ℕ) → a ⊕ b ≡ b ⊕ a
⊕_comm = unfold ◌⊕◌ in xor_comm

pub ⊕_assoc : (a b c : ℕ) → (a ⊕ b) ⊕ c ≡ a ⊕ (b ⊕ c)
⊕_assoc =
    half_ind (λ b c. simp zero-⊕)
    (λ a ih b c.
    same_digits _ _ (simp half-⊕ (ih (b / 2) (c / 2))) (omega (arith, carried a b, carried (a ⊕ b) c, carried b c, carried a (b ⊕ c))))

module _ (a b : ℕ) where
  pub ⊕_cancel : a ⊕ (a ⊕ b) ≡ b
  ⊕_cancel = rw (← ⊕_assoc, ⊕_self, zero-⊕)

  pub ⊕-left_comm : (c : ℕ) → a ⊕ (b ⊕ c) ≡ b ⊕ (a ⊕ c)
  ⊕-left_comm c = rw (← ⊕_assoc a, ⊕_comm a b, ⊕_assoc)

-- simp by this set decides an equation of sums
pub ruleset ⊕_sums = (⊕_assoc, ⊕_comm, ⊕-left_comm, ⊕_self, ⊕_cancel, ⊕_zero, zero-⊕)

module _ (a b c : ℕ) where
  pub ⊕_swap : (d : ℕ) → (a ⊕ b) ⊕ (c ⊕ d) ≡ (a ⊕ c) ⊕ (b ⊕ d)
  ⊕_swap d = simp ⊕_sums

  pub ⊕_cancel_both : (a ⊕ c) ⊕ (b ⊕ c) ≡ a ⊕ b
  ⊕_cancel_both = simp ⊕_sums

  pub ⊕_injective : a ⊕ b ≡ a ⊕ c → b ≡ c
  ⊕_injective same = cc (⊕_cancel a b, ⊕_cancel a c)

module _ (a b : ℕ) where
  pub ⊕-equal : a ⊕ b ≡ 0 → a ≡ b
  ⊕-equal none = sym (⊕_injective a b a (none ∙ sym (⊕_self a)))

  pub ⊕_across : (c d : ℕ) → a ⊕ b ≡ c ⊕ d → a ⊕ c ≡ b ⊕ d
  ⊕_across c d same = sym (⊕_cancel_both a c b) ∙ rw same (simp ⊕_sums)

-- ---- doubles and digits
module _ (a b : ℕ) where
  pub ⊕_double : 2 * (a ⊕ b) ≡ 2 * a ⊕ 2 * b
  ⊕_double = same_digits _ _ (simp (half-⊕, half_double)) (omega (arith, carried (2 * a) (2 * b)))

  pub digit-⊕ : b < 2 → 2 * a + b ≡ 2 * a ⊕ b
  unfolding ◌⊕◌
  digit-⊕ h = sym (rw (mul_comm 2 a) (xor_shifted a 1 b h))

pub halves : (a : ℕ) → 2 * (a / 2) ⊕ a % 2 ≡ a
halves a = rw (← digit-⊕ (a / 2) (a % 2) (omega arith)) (omega arith)

digits_mul : {c d : ℕ} → Digit c → Digit d → (b : ℕ) → (c ⊕ d) * b ≡ c * b ⊕ d * b
digits_mul off d b = simp (zero-⊕, zero-mul)
digits_mul on off b = simp (⊕_zero, zero-mul)
digits_mul on on b = simp (⊕_self, zero-mul)

pub lowest_mul : (a c b : ℕ) → (a ⊕ c) % 2 * b ≡ a % 2 * b ⊕ c % 2 * b
lowest_mul a c b = rw lowest-⊕ (digits_mul (lowest a) (lowest c) b)
