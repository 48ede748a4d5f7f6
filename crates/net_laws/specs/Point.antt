-- The digits of a point. Digit i of coordinate j of the point h is the pairing of h with row i of coordinate j, which is x^i q^j mod p; the rows of
-- coordinate 0 are the powers of x.
-- Assumes nothing.
use Rattle.std.specs.Prelude.{◌≡◌, ℕ, suc, ◌+◌, ◌*◌, ◌^◌, ◌<◌}
use Rattle.std.proofs.Math.Path.{sym}
use Rattle.std.proofs.Common.{ap, ◌∙◌, mul_comm}
use Rattle.std.proofs.Math.Nat.{pow-succ'}
use Rattle.std.proofs.Math.Pow.{pow-lt}
use Rattle.definitions.specs.Polynomial.{degree, prod, power, rem}
use Rattle.definitions.specs.Points.{leading, coordinate}
use Rattle.polynomial_laws.specs.Product.{prod_one, one_prod, double_prod, zero_prod, prod_factors}
use Rattle.polynomial_laws.specs.Division.{rem_lt, rem_small, rem_zero, rem_double, rem_prod_left, rem_prod_right}
use Rattle.polynomial_laws.specs.Power.{power_prod, power_zero, power_suc}
use Rattle.polynomial_laws.specs.Leading as Leading
use Rattle.net_laws.specs.Pairing.{pairing}

unfoldable pub digit_row : ℕ → ℕ → ℕ → ℕ → ℕ
digit_row p q j i = rem (prod (2 ^ i) (power q j)) p

pub digit_row_first : (p q j : ℕ) → digit_row p q j 0 ≡ rem (power q j) p
unfolding digit_row
digit_row_first p q j = ap (λ (z : ℕ). rem z p) (one_prod (power q j))

pub leading_origin : (p q j d : ℕ) → leading p d (coordinate p q j 0) ≡ 0
unfolding coordinate
leading_origin p q j d = rw (zero_prod (power q j), rem_zero p) (Leading.leading_zero p d)

module _ (p : ℕ) (pos : 0 < p) where
  -- ---- the rows
  pub digit_row_lt : (q j i : ℕ) → digit_row p q j i < 2 ^ degree p
  unfolding digit_row
  digit_row_lt q j i = rem_lt p pos (prod (2 ^ i) (power q j))

  pub digit_row_next : (q j : ℕ) → digit_row p q (suc j) 0 ≡ rem (prod q (digit_row p q j 0)) p
  digit_row_next q j = rw (digit_row_first p q (suc j), digit_row_first p q j, power_suc) (sym (rem_prod_right p pos q (power q j)))

  pub digit_row_suc : (q j i : ℕ) → digit_row p q j (suc i) ≡ rem (2 * digit_row p q j i) p
  unfolding digit_row
  digit_row_suc q j i = rw (pow-succ' 2 i, double_prod) (rem_double p pos (prod (2 ^ i) (power q j)))

  pub digit_row_power : (q i : ℕ) → i < degree p → digit_row p q 0 i ≡ 2 ^ i
  unfolding digit_row
  digit_row_power q i l = rw (power_zero, prod_one) (rem_small p pos (2 ^ i) (pow-lt l))

  -- ---- the digits
  pub coordinate_lt : (q j h : ℕ) → coordinate p q j h < 2 ^ degree p
  unfolding coordinate
  coordinate_lt q j h = rem_lt p pos (prod h (power q j))

  pub leading_lt : (q j d h : ℕ) → leading p d (coordinate p q j h) < 2 ^ d
  leading_lt q j d h = Leading.leading_lt p pos (coordinate p q j h) (coordinate_lt q j h) d

  pub leading_none : (q j h : ℕ) → leading p 0 (coordinate p q j h) ≡ 0
  leading_none q j h = Leading.leading_none p pos (coordinate p q j h) (coordinate_lt q j h)

  digit_row_prod : (q j i h : ℕ) → rem (prod (digit_row p q j i) h) p ≡ rem (coordinate p q j h * 2 ^ i) p
  unfolding digit_row coordinate
  digit_row_prod q j i h =
      let c = prod h (power q j) in
      rem_prod_left p pos (prod (2 ^ i) (power q j)) h
      ∙ sym (ap (λ (z : ℕ). rem z p) (mul_comm (rem c p) (2 ^ i) ∙ sym (power_prod i (rem c p))) ∙ rem_prod_right p pos (2 ^ i) c ∙ simp prod_factors)

  pub leading_more : (q j d h : ℕ) → leading p (suc d) (coordinate p q j h) ≡ 2 * leading p d (coordinate p q j h) + pairing p (digit_row p q j d) h
  unfolding pairing
  leading_more q j d h = rw (Leading.leading_more p d (coordinate p q j h), digit_row_prod q j d h)
