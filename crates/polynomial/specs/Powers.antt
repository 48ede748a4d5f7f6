-- A power modulo p by the digits of its exponent, the highest first: the square, and that times the base where the digit is 1. Assumes nothing.
use Rattle.std.specs.Prelude.{◌≡◌, ℕ, ◌+◌, ◌-◌, ◌*◌, ◌/◌, ◌%◌, ◌^◌, ◌≤◌, ◌<◌}
use Rattle.std.proofs.Common.{sym, ◌∙◌, add-zero, div-one, arith}
use Rattle.std.proofs.Math.Nat.{div-eq_of_lt}
use Rattle.std.specs.Int.Count.{count_leading_zeros}
use Rattle.std.proofs.lemmas.Nat.{leading_length}
use Rattle.definitions.specs.Polynomial.{prod, power, rem}
use Rattle.polynomial_laws.specs.Product.{two_prod, prod_comm}
use Rattle.polynomial_laws.specs.Division.{rem_prod_left}
use Rattle.polynomial_laws.specs.Power.{power_zero, power_one, power_add, power_of_x, rem_one, rem_power_sum}
use Rattle.polynomial.specs.Digits.{shifted_half}
use Rattle.polynomial.specs.Modulus.{Modulus, modulus_positive, modulus_one, residue_lt}

-- A call, by what it requires and what it ensures: it may be made at each number below the bound, and its result, a word, is below it again.
pub record Step (pre : ℕ → Type 0) (post : ℕ → ℕ → Type 0) (bound : ℕ) : Type 0 where
  pub callable : (y : ℕ) → y < bound → pre y
  pub stays : (y r : ℕ) → y < bound → r < 2 ^ 32 → post y r → r < bound

-- Two such calls, which may be made in turn from y on
pub record InTurn (pre : ℕ → Type 0) (post : ℕ → ℕ → Type 0) (pre' : ℕ → Type 0) (post' : ℕ → ℕ → Type 0) (y : ℕ) : Type 0 where
  pub bound : ℕ
  pub at : y < bound
  pub one : Step pre post bound
  pub other : Step pre' post' bound

-- The result of a call is the residue of f y modulo p, where y is one.
abbrev pub Gives : (ℕ → ℕ → Type 0) → (ℕ → ℕ) → ℕ → ℕ → Type 0
Gives post f p lead = (y r : ℕ) → y < lead → post y r → r ≡ rem (f y) p

-- A power of q modulo p on the way, with i digits of e to come: q to the number that the digits before them write.
pub record PowerAt (p lead q e i r : ℕ) : Type 0 where
  pub places : i ≤ 32
  pub residue : r < lead
  pub reached : r ≡ rem (power q (e / 2 ^ i)) p

module _ {p lead : ℕ} (h : Modulus p lead) where
  pub given : {post : ℕ → ℕ → Type 0} (f : ℕ → ℕ) → Gives post f p lead → {y r : ℕ} → y < lead → post y r → (r ≡ rem (f y) p) × (r < lead)
  given f gives {y} {r} residue call =
      let e = gives y r residue call in
      (e, rw e (residue_lt h (f y)))

  pub power_start : (q e : ℕ) → e < 2 ^ 32 → PowerAt p lead q e (32 - count_leading_zeros 32 e) 1
  power_start q e fits =
      let (n, length, most, least) = leading_length 32 e fits in
      let i : 32 - count_leading_zeros 32 e ≡ n = omega arith in
      record {
        places = omega arith;
        residue = modulus_one h;
        reached = rw (i, div-eq_of_lt most, power_zero) (sym (rem_one p h.large));
      }

  -- one digit more: the square, and that times q where the digit is 1
  module _ {q e i r s : ℕ} (at : PowerAt p lead q e i r) (more : 0 < i) (square : (s ≡ rem (prod r r) p) × (s < lead)) where
    doubled : (c : ℕ) → e / 2 ^ (i - 1) % 2 ≡ c → e / 2 ^ i + e / 2 ^ i + c ≡ e / 2 ^ (i - 1)
    doubled c low =
        omega (arith, shifted_half e (i - 1) i (omega arith))

    squared : s ≡ rem (power q (e / 2 ^ i + e / 2 ^ i)) p
    squared = square.0 ∙ rw at.reached (sym (rem_power_sum p h.large q (e / 2 ^ i) (e / 2 ^ i)))

    pub power_even : (e / 2 ^ (i - 1) % 2 ≡ 1 → ⊥) → PowerAt p lead q e (i - 1) s
    power_even even = record {
      places = omega (arith, at.places);
      residue = square.1;
      reached = rw (← doubled 0 (omega (arith, even)), add-zero) squared;
    }

    pub power_odd : {t : ℕ} → e / 2 ^ (i - 1) % 2 ≡ 1 → (t ≡ rem (prod s q) p) × (t < lead) → PowerAt p lead q e (i - 1) t
    power_odd odd product = record {
      places = omega (arith, at.places);
      residue = product.1;
      reached = product.0 ∙ rw (← doubled 1 odd, power_add, power_one, squared) (rem_prod_left p (modulus_positive h) _ q);
    }

  pub power_end : {q e i r : ℕ} → PowerAt p lead q e i r → i ≤ 0 → (r ≡ rem (power q e) p) × (r < lead)
  power_end {i = i} at last =
      let none : i ≡ 0 = omega arith in
      (at.reached ∙ rw (none, div-one), at.residue)

  -- the same for x, as it is asked and as it is multiplied by
  pub x_power_end : {e i r : ℕ} → PowerAt p lead 2 e i r → i ≤ 0 → (r ≡ rem (2 ^ e) p) × (r < lead)
  x_power_end at last = rw power_of_x at (power_end at last)

  pub x_factor : (s : ℕ) {t : ℕ} → (t ≡ rem (2 * s) p) × (t < lead) → (t ≡ rem (prod s 2) p) × (t < lead)
  x_factor s double = rw (prod_comm s 2, two_prod) double
