-- Words of 64 digits: the place of the leading digit, and how many digits a number has.
-- Assumes nothing.
use mathlib.Core.Path.{◌≡◌, ap, ◌∙◌}
use Prim.Native.Nat.{ℕ, zero, suc, ◌-◌, ◌*◌, ◌%◌, ◌^◌, ◌≤◌, ◌<◌}
use native.Mathlib.Nat.{mod-eq_of_lt, pow-suc}
use native.Mathlib.Omega.{arith}
use lib.Count.{count_leading_zeros, leading_of_zero}
use lib.Pow.{pow-lt}
use Rattle.definitions.specs.Polynomial.{degree}
use Rattle.polynomial_laws.specs.Degree.{HasDegree, degree_is}
use Rattle.polynomial.specs.Digits.{leading_degree_in}
use Rattle.relation_laws.specs.Size.{size}

-- The place of the leading digit, as it is computed.
abbrev pub place : ℕ → ℕ
place a = 63 - count_leading_zeros 64 a

pub record Leading (a : ℕ) : Type 0 where
  pub zeros : count_leading_zeros 64 a ≤ 63
  pub is : place a ≡ degree a
  pub low : place a ≤ 63
  pub has : HasDegree a (place a)

pub leading : (a : ℕ) → 0 < a → a < 2 ^ 64 → Leading a
leading a pos fits =
    let zeros = leading_degree_in 64 a pos fits in
    let is : place a ≡ degree a = omega arith in
    record { zeros = omega arith; is = is; low = omega arith; has = rw is (degree_is a pos) }

pub size_64 : (a : ℕ) → a < 2 ^ 64 → 64 - count_leading_zeros 64 a ≡ size a
unfolding size
size_64 zero l = omega (arith, leading_of_zero 64)
size_64 (suc a) l = omega (arith, leading_degree_in 64 (suc a) (omega arith) l)

pub two_shl : (k : ℕ) → k < 63 → 2 * 2 ^ k % 2 ^ 64 ≡ 2 ^ suc k
two_shl k h =
    let e : 2 * 2 ^ k ≡ 2 ^ suc k = omega (arith, pow-suc 2 k) in
    ap (λ (z : ℕ). z % 2 ^ 64) e ∙ mod-eq_of_lt (pow-lt {i = suc k} {j = 64} (omega arith))
