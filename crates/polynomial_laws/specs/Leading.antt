-- The leading digits of y/p, one more at a time: the next digit stands at x^m of twice the rest, as long division has it. So the first of more digits
-- are what a shift leaves of them. In y they are additive, and so are the residue of a product in its factor and that of a square. As many digits as
-- p's degree tell the y apart: they are 0 for y = 0 alone.
-- Assumes nothing.
use Rattle.std.specs.Prelude.{◌≡◌, refl, ℕ, zero, suc, ◌+◌, ◌-◌, ◌*◌, ◌/◌, ◌^◌, ◌≤◌, ◌<◌}
use Rattle.std.proofs.Common.{sym, ap, ap₂, ◌∙◌, add-zero, add-suc, div-one, mul-one, mul_comm, zero-mul, pow-suc, arith, pow_mono, shr-shr}
use Rattle.std.proofs.Math.Nat.{pow-zero, pow-succ'}
use Rattle.definitions.specs.Polynomial.{◌⊕◌, degree, prod, quot, rem}
use Rattle.definitions.specs.Points.{leading}
use Rattle.polynomial_laws.specs.Additive.{Additive}
use Rattle.polynomial_laws.specs.Sum.{zero-⊕, ⊕_self, ⊕-equal}
use Rattle.polynomial_laws.specs.Product.{zero_prod, prod-⊕, prod_zero, square-⊕}
use Rattle.polynomial_laws.specs.Division.{rem_lt, division}
use Rattle.polynomial_laws.specs.Division.{quot_zero, quot_small, quot_double, quot-⊕, rem_zero, rem_small, rem_double, rem-⊕, next_digit}
use Rattle.polynomial_laws.specs.Power.{power_prod}

pub leading_def : (p d y : ℕ) → leading p d y ≡ quot (y * 2 ^ d) p
unfolding leading
leading_def p d y = refl

pub leading_zero : (p d : ℕ) → leading p d 0 ≡ 0
leading_zero p d = rw (leading_def, zero-mul, quot_zero)

twice : (y d : ℕ) → y * 2 ^ suc d ≡ 2 * (y * 2 ^ d)
twice y d = ap (λ (k : ℕ). y * k) (pow-succ' 2 d) ∙ omega arith

pub leading_more : (p d y : ℕ) → leading p (suc d) y ≡ 2 * leading p d y + 2 * rem (y * 2 ^ d) p / 2 ^ degree p
leading_more p d y = rw (leading_def, leading_def, twice) (quot_double p (y * 2 ^ d))

pub shift-⊕ : (d a b : ℕ) → (a ⊕ b) * 2 ^ d ≡ a * 2 ^ d ⊕ b * 2 ^ d
shift-⊕ d a b =
    mul_comm (a ⊕ b) (2 ^ d)
    ∙ sym (power_prod d (a ⊕ b))
    ∙ prod-⊕ (2 ^ d) a b
    ∙ ap₂ ◌⊕◌ (power_prod d a ∙ mul_comm (2 ^ d) a) (power_prod d b ∙ mul_comm (2 ^ d) b)

module _ (p : ℕ) (pos : 0 < p) where
  pub rest_more : (d y : ℕ) → rem (y * 2 ^ suc d) p ≡ rem (2 * rem (y * 2 ^ d) p) p
  rest_more d y = ap (λ (a : ℕ). rem a p) (twice y d) ∙ rem_double p pos (y * 2 ^ d)

  digit_lt : (d y : ℕ) → 2 * rem (y * 2 ^ d) p / 2 ^ degree p < 2
  digit_lt d y = rw (← add-zero (2 * rem (y * 2 ^ d) p)) (next_digit p pos (y * 2 ^ d) 0 (omega arith))

  -- ---- the first of more digits
  leading_half : (d y : ℕ) → leading p (suc d) y / 2 ≡ leading p d y
  leading_half d y = omega (arith, leading_more p d y, digit_lt d y)

  leading_shift : (d k y : ℕ) → leading p (d + k) y / 2 ^ k ≡ leading p d y
  leading_shift d zero y = rw (add-zero, pow-zero, div-one)
  leading_shift d (suc k) y =
      let e : 1 + k ≡ suc k = omega arith in
      rw (add-suc, ← e) (sym (shr-shr (leading p (suc (d + k)) y) 1 k) ∙ rw (leading_half (d + k) y) (leading_shift d k y))

  pub leading_front : (n d y : ℕ) → d ≤ n → leading p n y / 2 ^ (n - d) ≡ leading p d y
  leading_front n d y l =
      let e : d + (n - d) ≡ n = omega arith in
      rw e at (leading_shift d (n - d) y)

  -- ---- of a residue
  module _ (y : ℕ) (residue : y < 2 ^ degree p) where
    pub leading_none : leading p 0 y ≡ 0
    leading_none = rw (leading_def, pow-zero, mul-one) (quot_small p pos y residue)

    pub rest_none : rem (y * 2 ^ 0) p ≡ y
    rest_none = rw (pow-zero, mul-one) (rem_small p pos y residue)

    pub leading_lt : (d : ℕ) → leading p d y < 2 ^ d
    leading_lt zero = rw (leading_none, pow-zero) (omega arith)
    leading_lt (suc d) = rw leading_more (omega (arith, pow-suc 2 d, leading_lt d, digit_lt d y))

  -- ---- of a sum
  pub leading_additive : (d : ℕ) → Additive (leading p d)
  leading_additive d a b = simp leading_def (rw (shift-⊕ d, quot-⊕ p pos))

  -- ---- as many as p's degree
  module _ (d : ℕ) (enough : degree p ≤ d) where
    leading_some : (y : ℕ) → leading p d y ≡ 0 → y ≡ 0
    leading_some zero none = refl
    leading_some (suc y) none =
        let shifted = suc y * 2 ^ d in
        let digits : quot shifted p ≡ 0 = sym (leading_def p d (suc y)) ∙ none in
        let whole : rem shifted p ≡ shifted = sym (zero-⊕ (rem shifted p)) ∙ rw (← zero_prod p, ← digits) (division p pos shifted) in
        absurd (omega (arith, rem_lt p pos shifted, pow_mono enough))

    pub leading_apart : (y z : ℕ) → leading p d y ≡ leading p d z → y ≡ z
    leading_apart y z same = ⊕-equal y z (leading_some (y ⊕ z) (leading_additive d y z ∙ rw same (⊕_self (leading p d z))))

  pub residue_additive : (q : ℕ) → Additive (λ y. rem (prod q y) p)
  residue_additive q a b = rw (prod-⊕, rem-⊕ p pos)

  pub square_additive : Additive (λ y. rem (prod y y) p)
  square_additive a b = rw (square-⊕, rem-⊕ p pos)

pub residue_zero : (p q : ℕ) → rem (prod q 0) p ≡ 0
residue_zero p q = rw (prod_zero, rem_zero)
