-- The pairing of r and h: the first digit of r h / p. It is additive in each, and two powers of x are paired to 0 where their product is less than
-- x^(m-1), to 1 where it is x^(m-1). So every additive function that gives digits is, below 2^m, the pairing with some h: adding x^(m-1), x^(m-2), ..
-- where it is wanting, h is made to give the right digit at 1, x, .. one after the other.
-- Assumes nothing.
use Rattle.std.specs.Prelude.{◌≡◌}
use Rattle.std.proofs.Math.Path.{ap}
use Rattle.std.proofs.Common.{◌∙◌, zero-mul, one-mul, mul-one, mul-zero, arith}
use Prim.Native.Nat.{ℕ, zero, suc, ◌+◌, ◌-◌, ◌*◌, ◌/◌, ◌^◌, ◌≤◌, ◌<◌}
use Rattle.std.proofs.Math.Nat.{pow-suc, add-zero, div_self, div-eq_of_lt}
use Rattle.std.proofs.Math.Decide.{ℕ_discrete}
use Rattle.std.proofs.Math.Pow.{pow_pos, pow-lt}
use Rattle.definitions.specs.Polynomial.{◌⊕◌, degree, prod, rem}
use Rattle.polynomial_laws.specs.Digits.{Digit, off, on, digit, digit_mul_le}
use Rattle.polynomial_laws.specs.Sum.{⊕_zero, ⊕_double, ⊕_shr, ⊕_lt, ⊕_sums}
use Rattle.polynomial_laws.specs.Division.{rem_small, rem-⊕, next_digit}
use Rattle.polynomial_laws.specs.Product.{prod-⊕, prod_comm}
use Rattle.polynomial_laws.specs.Power.{powers_prod}
use Rattle.polynomial_laws.specs.Additive.{Additive, additive_zero, additive_agree}

unfoldable pub pairing : ℕ → ℕ → ℕ → ℕ
pairing p r h = 2 * rem (prod r h) p / 2 ^ degree p

pairing_comm : (p r h : ℕ) → pairing p r h ≡ pairing p h r
unfolding pairing
pairing_comm p r h = rw (prod_comm r h)

module _ (p : ℕ) (pos : 0 < p) where
  pub pairing_lt : (r h : ℕ) → pairing p r h < 2
  unfolding pairing
  pairing_lt r h = rw add-zero at (next_digit p pos (prod r h) 0 (omega arith))

  pub pairing_additive : (r : ℕ) → Additive (pairing p r)
  unfolding pairing
  pairing_additive r a b = rw (prod-⊕ r a b, rem-⊕ p pos (prod r a) (prod r b), ⊕_double) (⊕_shr (2 * rem (prod r a) p) (2 * rem (prod r b) p) (degree p))

  pub pairing_additive_left : (h : ℕ) → Additive (λ r. pairing p r h)
  pairing_additive_left h a b = rw (pairing_comm p (a ⊕ b) h, pairing_comm p a h, pairing_comm p b h) (pairing_additive h a b)

  pub pairing_zero : (r : ℕ) → pairing p r 0 ≡ 0
  pairing_zero r = additive_zero (pairing p r) (pairing_additive r)

  -- ---- powers of x
  pairing_powers : (i j : ℕ) → i + j < degree p → pairing p (2 ^ i) (2 ^ j) ≡ 2 ^ suc (i + j) / 2 ^ degree p
  unfolding pairing
  pairing_powers i j l = ap (λ (z : ℕ). z / 2 ^ degree p)
      (ap (λ (z : ℕ). 2 * z) (ap (λ (z : ℕ). rem z p) (powers_prod i j) ∙ rem_small p pos (2 ^ (i + j)) (pow-lt l)) ∙ omega (arith, pow-suc 2 (i + j)))

  pairing_below : (i j : ℕ) → suc (i + j) < degree p → pairing p (2 ^ i) (2 ^ j) ≡ 0
  pairing_below i j l = pairing_powers i j (omega arith) ∙ div-eq_of_lt (pow-lt l)

  pairing_leading : (i j : ℕ) → suc (i + j) ≡ degree p → pairing p (2 ^ i) (2 ^ j) ≡ 1
  pairing_leading i j e = pairing_powers i j (omega arith) ∙ ap (λ (z : ℕ). 2 ^ z / 2 ^ degree p) e ∙ div_self (pow_pos (degree p))

  -- ---- every additive function of digits is a pairing
  pairing_digit : {c : ℕ} → Digit c → (r v : ℕ) → pairing p r (c * v) ≡ c * pairing p r v
  pairing_digit off r v = simp zero-mul (pairing_zero r)
  pairing_digit on r v = simp one-mul

  module _ (f : ℕ → ℕ) (sums : Additive f) (binary : (v : ℕ) → f v < 2) where
    -- right at 1, x, .. x^(k-1)
    upto : ℕ → ℕ
    upto zero = 0
    upto (suc k) = upto k ⊕ (f (2 ^ k) ⊕ pairing p (2 ^ k) (upto k)) * 2 ^ (degree p - suc k)

    wanting : (k : ℕ) → Digit (f (2 ^ k) ⊕ pairing p (2 ^ k) (upto k))
    wanting k = digit _ (⊕_lt 1 (f (2 ^ k)) (pairing p (2 ^ k) (upto k)) (binary (2 ^ k)) (pairing_lt (2 ^ k) (upto k)))

    upto_lt : (k : ℕ) → k ≤ degree p → upto k < 2 ^ degree p
    unfolding upto
    upto_lt zero l = pow_pos (degree p)
    upto_lt (suc k) l =
        let place = degree p - suc k in
        let high : 2 ^ place < 2 ^ degree p = pow-lt (omega arith) in
        ⊕_lt (degree p) (upto k) _ (upto_lt k (omega arith)) (omega (arith, digit_mul_le (wanting k) (2 ^ place)))

    upto_pairs : (k : ℕ) → k ≤ degree p → (i : ℕ) → i < k → pairing p (2 ^ i) (upto k) ≡ f (2 ^ i)
    unfolding upto
    upto_pairs zero l i b = absurd (omega arith)
    upto_pairs (suc k) l i b =
        pairing_additive (2 ^ i) (upto k) _ ∙ ap (λ (z : ℕ). now ⊕ z) (pairing_digit (wanting k) (2 ^ i) (2 ^ place))
        ∙ at (ℕ_discrete i k) (upto_pairs k (omega arith) i)
      where
        place : ℕ
        place = degree p - suc k

        now : ℕ
        now = pairing p (2 ^ i) (upto k)

        at : Dec (i ≡ k) → (i < k → now ≡ f (2 ^ i)) → now ⊕ (f (2 ^ k) ⊕ pairing p (2 ^ k) (upto k)) * pairing p (2 ^ i) (2 ^ place) ≡ f (2 ^ i)
        at (yes e) ih = rw (e, pairing_leading k place (omega arith)) (simp (mul-one, ⊕_sums))
        at (no e) ih = rw (pairing_below i place (omega arith)) (simp (mul-zero, ⊕_zero) (ih (omega arith)))

    pub partner : ℕ
    partner = upto (degree p)

    pub partner_lt : partner < 2 ^ degree p
    unfolding partner
    partner_lt = upto_lt (degree p) (omega arith)

    pub partner_pairs : (v : ℕ) → v < 2 ^ degree p → pairing p v partner ≡ f v
    unfolding partner
    partner_pairs = additive_agree (λ v. pairing p v partner) f (pairing_additive_left partner) sums (degree p) (upto_pairs (degree p) (omega arith))
