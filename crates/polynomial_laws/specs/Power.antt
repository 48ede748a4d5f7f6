-- Powers, of x (the number 2^e) and of any q (`power q e`). Multiplied, powers add their exponents, and so do their remainders modulo p.
-- Assumes nothing.
use Rattle.std.specs.Prelude.{◌≡◌, ℕ, zero, suc, ◌+◌, ◌*◌, ◌^◌, ◌≤◌, ◌<◌}
use Rattle.std.proofs.Math.Path.{refl}
use Rattle.std.proofs.Common.{sym, one-mul, mul_assoc, zero-add, suc-add, arith, pow-add, pow_mono}
use Rattle.std.proofs.Math.Nat.{pow-succ'}
use Rattle.definitions.specs.Polynomial.{degree, prod, power, rem}
use Rattle.polynomial_laws.specs.Degree.{degree_least}
use Rattle.polynomial_laws.specs.Product.{one_prod, two_prod, double_prod, prod_one, prod_assoc}
use Rattle.polynomial_laws.specs.Division.{rem_small, rem_double, rem_prod}

-- ---- of x: a shift
pub power_prod : (i b : ℕ) → prod (2 ^ i) b ≡ 2 ^ i * b
power_prod zero b = rw (one_prod, one-mul)
power_prod (suc i) b = rw (pow-succ' 2 i, double_prod, power_prod i b) (sym (mul_assoc 2 (2 ^ i) b))

pub powers_prod : (i j : ℕ) → prod (2 ^ i) (2 ^ j) ≡ 2 ^ (i + j)
powers_prod i j = rw (power_prod, pow-add)

-- ---- of q
pub power_zero : (q : ℕ) → power q 0 ≡ 1
power_zero q = unfold power in refl

pub power_suc : (q e : ℕ) → power q (suc e) ≡ prod q (power q e)
power_suc q e = unfold power in refl

pub power_one : (q : ℕ) → power q 1 ≡ q
power_one q = rw (power_suc, power_zero, prod_one)

pub power_add : (q i j : ℕ) → power q (i + j) ≡ prod (power q i) (power q j)
power_add q zero j = rw (zero-add, power_zero, one_prod)
power_add q (suc i) j = rw (suc-add, power_suc q (i + j), power_suc q i, power_add q i j, prod_assoc)

pub power_of_x : (e : ℕ) → power 2 e ≡ 2 ^ e
power_of_x zero = power_zero 2
power_of_x (suc e) = rw (power_suc, power_of_x e, two_prod, pow-succ')

-- ---- modulo p of degree one at least
module _ (p : ℕ) (big : 2 ≤ p) where
  pub one_small : 1 < 2 ^ degree p
  one_small = pow_mono (degree_least p 1 big)

  pub rem_one : rem 1 p ≡ 1
  rem_one = rem_small p (omega arith) 1 one_small

  pub rem_power_sum : (q i j : ℕ) → rem (power q (i + j)) p ≡ rem (prod (rem (power q i) p) (rem (power q j) p)) p
  rem_power_sum q i j = rw (power_add, rem_prod p (omega arith))

  pub rem_power_add : (i j : ℕ) → rem (2 ^ (i + j)) p ≡ rem (prod (rem (2 ^ i) p) (rem (2 ^ j) p)) p
  rem_power_add i j = rw (rem_prod p (omega arith), powers_prod)

  pub rem_power_suc : (e : ℕ) → rem (2 ^ suc e) p ≡ rem (2 * rem (2 ^ e) p) p
  rem_power_suc e = rw pow-succ' (rem_double p (omega arith) (2 ^ e))
