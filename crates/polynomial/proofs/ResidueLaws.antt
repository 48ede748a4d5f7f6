-- What the functions on residues rest on: the double of a residue, and one coefficient of a product's multiplier.
-- Each is a law of remainders of products, over plain numbers. Assumes nothing.
use mathlib.Core.Path.{◌≡◌, refl, sym, ◌∙◌}
use Prim.Native.Nat.{ℕ, zero, suc, ◌*◌, ◌/◌, ◌%◌, ◌^◌, ◌≤◌, ◌<◌}
use native.Mathlib.Nat.{mul_comm, zero-mul, one-mul, eq_of_mul-eq-mul_right, div-one, div-eq_of_lt}
use native.Mathlib.Omega.{arith}
use lib.Pow.{pow_pos}
use lib.Bits.{bit_and, bit_xor}
use Rattle.definitions.specs.Polynomial.{◌⊕◌, degree, prod, rem}
use Rattle.polynomial_laws.specs.Digits.{Digit, off, on, digit_mul_le}
use Rattle.polynomial_laws.specs.Sum.{⊕_def}
use Rattle.polynomial_laws.specs.Degree.{degree_is}
use Rattle.polynomial_laws.specs.Product.{zero_prod, prod_half}
use Rattle.polynomial_laws.specs.Division.{rem-⊕, rem_zero, rem_once, rem_double}
use Rattle.polynomial.specs.Digits.{mask, below_mask, above_mask, shifted_half}
use Rattle.polynomial.specs.Modulus.{Modulus, modulus_positive, modulus_one, residue_lt, residue_small}

coefficient_clear : (k a : ℕ) → bit_and a (2 ^ k) ≡ 0 → a / 2 ^ k % 2 ≡ 0
coefficient_clear k a none = eq_of_mul-eq-mul_right (2 ^ k) (pow_pos k) (a / 2 ^ k % 2) 0 (sym (mask k a) ∙ none ∙ sym (zero-mul (2 ^ k)))

coefficient_set : (k a : ℕ) → (bit_and a (2 ^ k) ≡ 0 → ⊥) → a / 2 ^ k % 2 ≡ 1
coefficient_set k a some =
    let not-zero : a / 2 ^ k % 2 ≡ 0 → ⊥ = λ zero. some (mask k a ∙ rw (zero, zero-mul)) in
    omega arith

module _ {p lead : ℕ} (h : Modulus p lead) where
  -- ---- x times a residue, by its highest digit
  module _ (y : ℕ) (residue : y < lead) where
    pub times_x_small : bit_and (y * 2) lead ≡ 0 → (y * 2 ≡ rem (2 * y) p) × (y * 2 < lead)
    times_x_small none =
        let l : y * 2 < lead = rw h.leading (below_mask (degree p) (y * 2) (omega (arith, h.leading)) (rw h.leading at none)) in
        (sym (rw (mul_comm 2 y) (residue_small h (y * 2) l)), l)

    pub times_x_large : (bit_and (y * 2) lead ≡ 0 → ⊥) → (bit_xor (y * 2) p ≡ rem (2 * y) p) × (bit_xor (y * 2) p < lead)
    times_x_large some =
        let l : 2 ^ degree p ≤ y * 2 = above_mask (degree p) (y * 2) (rw h.leading at some) in
        let e : rem (2 * y) p ≡ bit_xor (y * 2) p =
        rw (← ⊕_def (y * 2) p, mul_comm 2 y) (rem_once p (modulus_positive h) (y * 2) (record { least = l; most = omega (arith, h.leading) })) in
        (sym e, rw (← e) (residue_lt h (2 * y)))

-- A product of a and b modulo p on the way, with `left` coefficients of a to come, the next of them that of x^(left - 1), which is `term` (0 where none is
-- to come): the polynomial that the coefficients before them write, times b.
pub record ProductAt (p lead a b term r : ℕ) : Type 0 where
  pub left : ℕ
  pub next : term ≡ 2 ^ left / 2
  pub residue : r < lead
  pub reached : r ≡ rem (prod (a / 2 ^ left) b) p

module _ {p lead : ℕ} (h : Modulus p lead) where
  pub product_zero : (b : ℕ) → (0 ≡ rem (prod 0 b) p) × (0 < lead)
  product_zero b = (sym (rw (zero_prod, rem_zero)), omega (arith, modulus_one h))

  pub product_start : (a b : ℕ) → 0 < a → ProductAt p lead a b (2 ^ degree a) 0
  product_start a b pos =
      let below : a < 2 ^ suc (degree a) = omega (arith, (degree_is a pos).most) in
      record {
        left = suc (degree a);
        next = omega arith;
        residue = (product_zero b).1;
        reached = rw (div-eq_of_lt below) (product_zero b).0;
      }

  -- one coefficient more: x times what there is, and b besides where the coefficient is 1
  coefficient_added : (a b k r s c : ℕ) → b < lead → r ≡ rem (prod (a / 2 ^ suc k) b) p → s ≡ rem (2 * r) p → Digit c → a / 2 ^ k % 2 ≡ c
      → s ⊕ c * b ≡ rem (prod (a / 2 ^ k) b) p
  coefficient_added a b k r s c small before double d low =
      let pos = modulus_positive h in
      let summand : rem (c * b) p ≡ c * b = residue_small h (c * b) (omega (arith, digit_mul_le d b)) in
      rw (double, before, prod_half (a / 2 ^ k) b, shifted_half a k (suc k) (omega arith), low, rem-⊕ p pos, summand, ← rem_double p pos)

  module _ {a b term r s : ℕ} (at : ProductAt p lead a b term r) (more : term ≡ 0 → ⊥) (small : b < lead) (double : s ≡ rem (2 * r) p) where
    product_more : {c t : ℕ} → Digit c → c * b ≡ t → ((k : ℕ) → term ≡ 2 ^ k → a / 2 ^ k % 2 ≡ c) → ProductAt p lead a b (term / 2) (bit_xor s t)
    product_more {c} {t} d summand low = go at.left at.next at.reached
      where
        go : (n : ℕ) → term ≡ 2 ^ n / 2 → r ≡ rem (prod (a / 2 ^ n) b) p → ProductAt p lead a b (term / 2) (bit_xor s t)
        go zero next before = absurd (more next)
        go (suc k) next before =
            let power : term ≡ 2 ^ k = omega arith in
            let reached : bit_xor s t ≡ rem (prod (a / 2 ^ k) b) p =
            rw (← ⊕_def s t, ← summand) (coefficient_added a b k r s c small before double d (low k power)) in
            record { left = k; next = rw power; residue = rw reached (residue_lt h _); reached = reached }

    pub product_clear : bit_and a term ≡ 0 → ProductAt p lead a b (term / 2) (bit_xor s 0)
    product_clear none = product_more off (zero-mul b) (λ k power. coefficient_clear k a (rw power at none))

    pub product_set : (bit_and a term ≡ 0 → ⊥) → ProductAt p lead a b (term / 2) (bit_xor s b)
    product_set some = product_more on (one-mul b) (λ k power. coefficient_set k a (rw power at some))

  pub product_end : {a b term r : ℕ} → ProductAt p lead a b term r → term ≡ 0 → (r ≡ rem (prod a b) p) × (r < lead)
  product_end at none = (at.reached ∙ rw (last at.left (sym at.next ∙ none), div-one), at.residue)
    where
      last : (n : ℕ) → 2 ^ n / 2 ≡ 0 → n ≡ 0
      last zero e = refl
      last (suc n) e = absurd (omega (arith, pow_pos n))
