-- Binary digits. A number is told by its half and its lowest digit, so what holds of 0, and of a number where it holds of its half, holds of all.
-- A function by digits is one step from its value at the half; how many digits it may take does not matter once they are enough.
-- Assumes nothing.
use Rattle.std.specs.Prelude.{◌≡◌}
use Rattle.std.proofs.Math.Path.{refl, sym, ap}
use Prim.Native.Nat.{ℕ, zero, suc, ◌*◌, ◌/◌, ◌%◌, ◌≤◌, ◌<◌}
use Rattle.std.proofs.Common.{arith}
use Rattle.std.proofs.Math.Arith.{bin_ind}
use Rattle.definitions.specs.Polynomial.{by_digits, by_digits_within}

pub data Digit : ℕ → Type 0 where
  off : Digit 0
  on : Digit 1

pub digit : (c : ℕ) → c < 2 → Digit c
digit zero h = off
digit (suc zero) h = on
digit (suc (suc c)) h = absurd (omega arith)

pub lowest : (a : ℕ) → Digit (a % 2)
lowest a = digit (a % 2) (omega arith)

pub digit_mul_le : {c : ℕ} → Digit c → (b : ℕ) → c * b ≤ b
digit_mul_le off b = omega arith
digit_mul_le on b = omega arith

pub half_ind {ℓ} : {P : ℕ → Type ℓ} → P 0 → ((a : ℕ) → P (a / 2) → P a) → (a : ℕ) → P a
half_ind {P = P} = bin_ind P

pub same_digits : (a b : ℕ) → a / 2 ≡ b / 2 → a % 2 ≡ b % 2 → a ≡ b
same_digits a b half low = omega arith

pub half_double : (a : ℕ) → 2 * a / 2 ≡ a
half_double a = omega arith

pub double_even : (a : ℕ) → 2 * a % 2 ≡ 0
double_even a = omega arith

-- ---- functions by digits
module _ {X : Type 0} (z : X) (g : ℕ → X → X) where
  none : (n : ℕ) → by_digits_within z g n 0 ≡ z
  unfolding by_digits_within
  none zero = refl
  none (suc n) = refl

  enough : (n k a : ℕ) → a ≤ n → a ≤ k → by_digits_within z g n a ≡ by_digits_within z g k a
  unfolding by_digits_within
  enough zero k zero h l = sym (none k)
  enough zero k (suc a) h l = absurd (omega arith)
  enough (suc n) k zero h l = sym (none k)
  enough (suc n) zero (suc a) h l = absurd (omega arith)
  enough (suc n) (suc k) (suc a) h l = ap (g (suc a % 2)) (enough n k (suc a / 2) (omega arith) (omega arith))

  pub by_digits_zero : by_digits z g 0 ≡ z
  unfolding by_digits
  by_digits_zero = none 0

  -- leading zeros leave z
  pub by_digits_half : g 0 z ≡ z → (a : ℕ) → by_digits z g a ≡ g (a % 2) (by_digits z g (a / 2))
  unfolding by_digits by_digits_within
  by_digits_half e zero = sym e
  by_digits_half e (suc a) = ap (g (suc a % 2)) (enough a (suc a / 2) (suc a / 2) (omega arith) (omega arith))
