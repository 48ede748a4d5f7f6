-- Giant steps: modulo a primitive p of degree m the step s of q is found by the n residues q, q x, .., q x^(n-1), n ≤ 2^m - 1, of which q x^j is x^(s+j).
-- Let the exponent c, n at least, be below s + n. Where x^c is q x^j, s is c - j: the exponents s + j and c differ by less than the order of x.
-- Where x^c is none of these residues, c is below s, since c - s would be a j; so c + n is below s + n too. Assumes nothing.
use Rattle.std.specs.Prelude.{◌≡◌, true, ℕ, ◌+◌, ◌-◌, ◌*◌, ◌/◌, ◌^◌, ◌≤◌, ◌<◌}
use Rattle.std.proofs.Common.{sym, ap, ◌∙◌, arith}
use Rattle.std.proofs.Math.Pow.{pow-lt}
use Rattle.definitions.specs.Polynomial.{prod, rem}
use Rattle.definitions.specs.Generator.{period, primitive, step}
use Rattle.number_laws.specs.Truth.{le_unless}
use Rattle.polynomial_laws.specs.Degree.{HasDegree}
use Rattle.polynomial_laws.specs.Division.{rem_prod_right}
use Rattle.polynomial_laws.specs.Power.{power_prod, powers_prod, rem_power_add}
use Rattle.order_laws.specs.Primitive.{primitive_order}
use Rattle.order_laws.specs.Cycle.{degree_big, powers_near}
use Rattle.order_laws.specs.Step.{step_from, step_to, step_power}

-- q x^j modulo p.
abbrev pub baby_step : ℕ → ℕ → ℕ → ℕ
baby_step p q j = rem (2 ^ j * q) p

-- The giant step w = x^c, which has not passed the last baby step.
pub record GiantAt (m p q n c w : ℕ) : Type 0 where
  pub least : n ≤ c
  pub most : c < step m p q + n
  pub is : w ≡ rem (2 ^ c) p

-- About as many baby steps as there are giant ones.
pub half_below : (m : ℕ) → 1 ≤ m → 2 ^ (m / 2) ≤ period m
half_below m low = omega (arith, pow-lt {i = m / 2} {j = m} (omega arith))

pub giant_start : (m p q n : ℕ) {w : ℕ} → w ≡ rem (2 ^ n) p → GiantAt m p q n n w
giant_start m p q n e = record { least = omega arith; most = omega (arith, step_from m p q); is = e }

pub giant_next : (m p q n : ℕ) → 2 ≤ p → {c w g v : ℕ} → GiantAt m p q n c w → g ≡ rem (2 ^ n) p → v ≡ rem (prod g w) p → c < step m p q
    → GiantAt m p q n (c + n) v
giant_next m p q n big {c} at e f before =
    let exponent : n + c ≡ c + n = omega arith in
    record { least = omega arith; most = omega arith; is = f ∙ rw (e, at.is, ← rem_power_add p big n c, exponent) }

module _ (m p q : ℕ) (low : 1 ≤ m) (d : HasDegree p m) (t : primitive m p ≡ true) (nonzero : 0 < q) (residue : q < 2 ^ m) where
  big : 2 ≤ p
  big = degree_big m p low d

  baby_step_power : (j : ℕ) → baby_step p q j ≡ rem (2 ^ (step m p q + j)) p
  baby_step_power j =
      let exponent : j + step m p q ≡ step m p q + j = omega arith in
      rw (← power_prod j q)
      (ap (λ y. rem (prod (2 ^ j) y) p) (sym (step_power m p low d t q nonzero residue))
      ∙ rem_prod_right p (omega (arith, big)) (2 ^ j) (2 ^ step m p q)
      ∙ rw (powers_prod, exponent))

  module _ {n c w : ℕ} (few : n ≤ period m) (at : GiantAt m p q n c w) where
    pub giant_found : (j : ℕ) → j < n → baby_step p q j ≡ w → step m p q + j ≡ c
    giant_found j l same =
        powers_near p big (period m) (primitive_order m p low t) (step m p q + j) c
        (omega (arith, at.least, step_to m p q low)) (omega (arith, at.most)) (sym (baby_step_power j) ∙ same ∙ at.is)

    pub giant_before : ((j : ℕ) → j < n → baby_step p q j ≡ w → ⊥) → c < step m p q
    giant_before none = le_unless (λ l.
        let exponent : step m p q + (c - step m p q) ≡ c = omega arith in
        none (c - step m p q) (omega (arith, at.most)) (baby_step_power (c - step m p q) ∙ rw exponent (sym at.is)))
