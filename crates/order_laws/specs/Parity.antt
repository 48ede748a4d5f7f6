-- Polynomials that are never primitive: even ones, which have the factor x, and those with an even number of ones, which have the factor x + 1.
-- What p leaves keeps its remainder by a factor of p. By x every power from x on leaves 0, and 1 leaves 1; by x + 1 every power leaves 1, and
-- x + 1 itself leaves 0, though modulo a primitive p it is a power. Assumes nothing.
use Rattle.std.specs.Prelude.{◌≡◌, refl, false, ℕ, zero, suc, ◌+◌, ◌*◌, ◌/◌, ◌%◌, ◌^◌, ◌≤◌, ◌<◌}
use Rattle.std.proofs.Common.{sym, ◌∙◌, one-mul, arith, pow_mono}
use Rattle.std.proofs.Math.Path.{ap}
use Rattle.std.proofs.Math.Nat.{pow-succ'}
use Rattle.std.specs.Int.Count.{ones, ones_step}
use Rattle.definitions.specs.Polynomial.{◌⊕◌, rem, prod}
use Rattle.definitions.specs.Generator.{period, primitive}
use Rattle.number_laws.specs.Truth.{truth_false}
use Rattle.polynomial_laws.specs.Digits.{Digit, off, on, lowest, half_ind}
use Rattle.polynomial_laws.specs.Sum.{zero-⊕, ⊕_sums, halves}
use Rattle.polynomial_laws.specs.Degree.{HasDegree, positive}
use Rattle.polynomial_laws.specs.Product.{prod_half, one_prod, two_prod, prod_comm}
use Rattle.polynomial_laws.specs.Division.{rem_zero, rem-⊕, rem_multiple, rem_of_factor}
use Rattle.polynomial_laws.specs.Power.{rem_one}
use Rattle.order_laws.specs.Powers.{IsOrder}
use Rattle.order_laws.specs.Primitive.{primitive_order}
use Rattle.order_laws.specs.Cycle.{full_cycle, PowerOf}

-- ---- the factor x
by_x_none : (a : ℕ) → rem (2 * a) 2 ≡ 0
by_x_none a = rw (prod_comm a 2, two_prod) at (rem_multiple 2 (omega arith) a)

pub even_not_primitive : (m p : ℕ) → 1 ≤ m → 0 < p → p % 2 ≡ 0 → primitive m p ≡ false
even_not_primitive m p h pos even = truth_false (primitive m p) (λ t. clash (period m) (primitive_order m p h t))
  where
    factor : rem p 2 ≡ 0
    factor =
        let twice : p ≡ 2 * (p / 2) = omega arith in
        ap (λ n. rem n 2) twice ∙ by_x_none (p / 2)

    clash : (N : ℕ) → IsOrder p N → ⊥
    clash zero o = omega (arith, o.positive)
    clash (suc n) o =
        let left : rem 1 2 ≡ rem (2 * 2 ^ n) 2 =
        ap (λ r. rem r 2) (sym o.holds) ∙ rem_of_factor 2 p (omega arith) pos factor (2 ^ suc n) ∙ rw pow-succ' in
        omega (arith, left, by_x_none (2 ^ n), rem_one 2 (omega arith))

-- ---- the factor x + 1
-- The parity of the number of ones.
abbrev pub parity : ℕ → ℕ
parity a = ones a % 2

-- x = (x + 1) + 1
by_other_double : (a : ℕ) → rem (2 * a) 3 ≡ rem a 3
by_other_double a =
    let split : prod a 3 ⊕ a ≡ 2 * a = rw (prod_comm a 3, prod_half 3 a, one_prod, one-mul) (simp ⊕_sums) in
    ap (λ n. rem n 3) (sym split) ∙ rw (rem-⊕ 3 (omega arith), rem_multiple 3 (omega arith), zero-⊕)

by_other_digit : {c : ℕ} → Digit c → rem c 3 ≡ c
by_other_digit off = rem_zero 3
by_other_digit on = rem_one 3 (omega arith)

digits_sum : {c d : ℕ} → Digit c → Digit d → d ⊕ c ≡ (c + d) % 2
unfolding ◌⊕◌
digits_sum off off = refl
digits_sum off on = refl
digits_sum on off = refl
digits_sum on on = refl

rem_parity : (a : ℕ) → rem a 3 ≡ parity a
rem_parity =
    half_ind (rem_zero 3 ∙ unfold ones in refl)
    (λ a ih.
    ap (λ n. rem n 3) (sym (halves a))
    ∙ rw (rem-⊕ 3 (omega arith), by_other_double, ih, by_other_digit (lowest a)) (digits_sum (lowest a) (lowest (ones (a / 2))) ∙ omega (arith, ones_step a)))

power_leaves_one : (e : ℕ) → rem (2 ^ e) 3 ≡ 1
power_leaves_one zero = rem_one 3 (omega arith)
power_leaves_one (suc e) = rw (pow-succ', by_other_double) (power_leaves_one e)

pub even_parity_not_primitive : (m p : ℕ) → 2 ≤ m → HasDegree p m → parity p ≡ 0 → primitive m p ≡ false
even_parity_not_primitive m p h d even = truth_false (primitive m p) (λ t. clash (full_cycle m p (omega arith) d t 3 (omega arith) (omega (arith, pow_mono h))))
  where
    clash : PowerOf m p 3 → ⊥
    clash w =
        let left : rem 3 3 ≡ rem (2 ^ w.exponent) 3 =
        ap (λ r. rem r 3) (sym w.gives) ∙ rem_of_factor 3 p (omega arith) (positive d) (rem_parity p ∙ even) (2 ^ w.exponent) in
        omega (arith, left, power_leaves_one w.exponent, rw one_prod at (rem_multiple 3 (omega arith) 1))
