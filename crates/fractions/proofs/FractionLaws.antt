-- What the tree's level and the quotient test rest on: products by x and x + 1 as doubling and sum, and Euclid's step where the quotient has degree
-- one: with n + 1 the degree of a, that is so just where b has the digit at x^n, and the remainder is a + x b, or that plus b. Assumes nothing.
use mathlib.Core.Path.{◌≡◌, refl, sym, ap, ◌∙◌}
use mathlib.Core.Bool.{false}
use Prim.Native.Nat.{ℕ, zero, suc, ◌*◌, ◌/◌, ◌^◌, ◌≤◌, ◌<◌}
use native.Mathlib.Nat.{one-mul, mul_comm}
use native.Mathlib.Omega.{arith}
use lib.Dec.{eqb}
use lib.Bits.{bit_and, bit_xor}
use Rattle.definitions.specs.Polynomial.{◌⊕◌, degree, prod, rem}
use Rattle.definitions.specs.Generator.{Pair, child, linear_quotients}
use Rattle.polynomial_laws.specs.Sum.{⊕_def, ⊕_sums}
use Rattle.polynomial_laws.specs.Degree.{HasDegree, positive, degree_unique, double_degree, leads_cancel}
use Rattle.polynomial_laws.specs.Product.{one_prod, two_prod, prod_half}
use Rattle.polynomial_laws.specs.Division.{rem_lt, division_unique}
use Rattle.fraction_laws.specs.Quotients.{linear_quotients_zero, linear_quotients_next, linear_quotients_stop}
use Rattle.fraction_laws.specs.Level.{child_def}
use Rattle.polynomial.specs.Digits.{below_mask, above_mask}
use Rattle.polynomial.specs.Modulus.{Modulus, modulus_degree, lead_fits}

x_prod : (b : ℕ) → prod 2 b ≡ b * 2
x_prod b = two_prod b ∙ mul_comm 2 b

x_and_one_prod : (b : ℕ) → prod 3 b ≡ b * 2 ⊕ b
x_and_one_prod b = prod_half 3 b ∙ rw (one_prod, one-mul, mul_comm b 2)

-- ---- one level of the tree
module _ (a p q : ℕ) where
  below : (child a (record { p = p; q = q })).p ≡ prod a p ⊕ q
  below = ap (λ (s : Pair). s.p) (child_def a (record { p = p; q = q }))

  pub child_by_x : a ≡ 2 → bit_xor (p * 2) q ≡ (child a (record { p = p; q = q })).p
  child_by_x e = sym (below ∙ rw (e, x_prod, ⊕_def))

  pub child_by_other : HasDegree a 1 → (a ≡ 2 → ⊥) → bit_xor (bit_xor (p * 2) q) p ≡ (child a (record { p = p; q = q })).p
  child_by_other h other =
      let e : a ≡ 3 = omega (arith, other) in
      sym (below ∙ rw (e, x_and_one_prod, ← ⊕_def (p * 2) q, ← ⊕_def (p * 2 ⊕ q) p) (simp ⊕_sums))

-- ---- Euclid's step from a of degree n + 1 and b of degree n
module _ {a b n : ℕ} (ha : HasDegree a (suc n)) (hb : HasDegree b n) where
  rest_lt : a ⊕ b * 2 < 2 * 2 ^ n
  rest_lt = rw (mul_comm b 2) (omega (arith, leads_cancel ha (double_degree hb)))

  remainder_is : (c r : ℕ) → prod c b ⊕ r ≡ a → r < 2 ^ n → r ≡ rem a b
  remainder_is c r e small = (division_unique b (positive hb) a c r e (rw (degree_unique b n hb) small)).1

  by_x : bit_and (a ⊕ b * 2) (2 ^ n) ≡ 0 → a ⊕ b * 2 ≡ rem a b
  by_x none = remainder_is 2 (a ⊕ b * 2) (rw x_prod (simp ⊕_sums)) (below_mask n _ rest_lt none)

  by_other : (bit_and (a ⊕ b * 2) (2 ^ n) ≡ 0 → ⊥) → a ⊕ b * 2 ⊕ b ≡ rem a b
  by_other some =
      remainder_is 3 (a ⊕ b * 2 ⊕ b) (rw x_and_one_prod (simp ⊕_sums)) (leads_cancel (record { least = above_mask n _ some; most = rest_lt }) hb)

-- ---- the loop that Euclid's test is: what holds of a, b and the leading term of a before each step
pub record Run (p q a b lead : ℕ) : Type 0 where
  pub n : ℕ
  pub degree_a : HasDegree a n
  pub leading : lead ≡ 2 ^ n
  pub smaller : b < lead
  pub fits : lead ≤ 2 ^ 31
  pub same : linear_quotients a b ≡ linear_quotients p q

pub run_start : {p q lead : ℕ} → Modulus p lead → p < 2 ^ 32 → q < lead → Run p q p q lead
run_start {p} h fits l =
    record { n = degree p; degree_a = modulus_degree h; leading = h.leading; smaller = l; fits = lead_fits h fits; same = refl }

pub run_end : {p q a b lead : ℕ} → Run p q a b lead → b ≡ 0 → eqb a 1 ≡ linear_quotients p q
run_end {a = a} h z = sym (linear_quotients_zero a) ∙ ap (linear_quotients a) (sym z) ∙ h.same

-- where b is not 0, a has a degree n + 1
record Step (a b lead : ℕ) : Type 0 where
  n : ℕ
  degree_a : HasDegree a (suc n)
  half : lead / 2 ≡ 2 ^ n
  below : b < 2 * 2 ^ n

module _ {p q a b lead : ℕ} (h : Run p q a b lead) (more : b ≡ 0 → ⊥) where
  step : Step a b lead
  step = go h.n h.degree_a h.leading
    where
      go : (n : ℕ) → HasDegree a n → lead ≡ 2 ^ n → Step a b lead
      go zero d e = absurd (more (omega (arith, h.smaller)))
      go (suc n) d e = record { n = n; degree_a = d; half = omega arith; below = omega (arith, h.smaller) }

  pub run_refused : bit_and b (lead / 2) ≡ 0 → false ≡ linear_quotients p q
  run_refused none =
      sym (linear_quotients_stop step.degree_a (omega (arith, more)) (below_mask step.n b step.below (rw step.half at none))) ∙ h.same

  module _ (set : bit_and b (lead / 2) ≡ 0 → ⊥) where
    hb : HasDegree b step.n
    hb = record { least = above_mask step.n b (rw step.half at set); most = step.below }

    next : (r : ℕ) → r ≡ rem a b → Run p q b r (lead / 2)
    next r e = record {
      n = step.n;
      degree_a = hb;
      leading = step.half;
      smaller = rw (e, step.half, ← degree_unique b step.n hb) (rem_lt b (positive hb) a);
      fits = omega (arith, h.fits);
      same = rw e (sym (linear_quotients_next step.degree_a hb) ∙ h.same);
    }

    pub run_by_x : bit_and (bit_xor a (b * 2)) (lead / 2) ≡ 0 → Run p q b (bit_xor a (b * 2)) (lead / 2)
    run_by_x none = next _ (rw (← ⊕_def a (b * 2)) (by_x step.degree_a hb (rw (← ⊕_def a (b * 2), step.half) at none)))

    pub run_by_other : (bit_and (bit_xor a (b * 2)) (lead / 2) ≡ 0 → ⊥) → Run p q b (bit_xor (bit_xor a (b * 2)) b) (lead / 2)
    run_by_other some =
        next _ (rw (← ⊕_def (bit_xor a (b * 2)) b, ← ⊕_def a (b * 2)) (by_other step.degree_a hb (rw (← ⊕_def a (b * 2), step.half) at some)))
