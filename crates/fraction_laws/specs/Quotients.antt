-- Partial quotients of degree one. The computed test holds just where every quotient is x or x + 1 and the common factor is 1.
-- Euclid's steps decide it one quotient at a time, each by a difference of degrees.
-- Assumes nothing.
use Rattle.std.specs.Prelude.{◌≡◌, ◌↔◌, ◌⊎◌, true, false, ◌&&◌, List, [], ◌∷◌, ℕ, zero, suc, ◌+◌, ◌^◌, ◌<◌, eqb}
use Rattle.std.proofs.Math.Path.{refl}
use Rattle.std.proofs.Common.{◌∙◌, subst, inl, inr, arith, eqb-true, ne_eqb}
use Rattle.std.proofs.Math.Bool.{and-eq-true_iff, and_assoc}
use Rattle.definitions.specs.Polynomial.{degree, quot, rem}
use Rattle.definitions.specs.Number.{all}
use Rattle.definitions.specs.Generator.{Expansion, found, expansion, linear, linear_quotients}
use Rattle.polynomial_laws.specs.Degree.{HasDegree, positive, power_degree, degree_is, degree_unique, degree_most, degree_zero}
use Rattle.polynomial_laws.specs.Division.{quotient_degree_lem}
use Rattle.fraction_laws.specs.Expansion.{expansion_zero, expansion_more}

-- Every quotient has degree one.
pub data Linear : List ℕ → Type 0 where
  none : Linear []
  one : {a : ℕ} {l : List ℕ} → HasDegree a 1 → Linear l → Linear (a ∷ l)

-- Every partial quotient of q/p has degree one, and p and q have no common factor.
pub record LinearQuotients (p q : ℕ) : Type 0 where
  pub linear : Linear (expansion p q).quotients
  pub coprime : (expansion p q).common ≡ 1

-- ---- x and x + 1 are the polynomials of degree one
pub two_linear : HasDegree 2 1
two_linear = power_degree 1

pub three_linear : HasDegree 3 1
three_linear = record { least = omega arith; most = omega arith }

pub linear_cases : (a : ℕ) → HasDegree a 1 → (a ≡ 2) ⊎ (a ≡ 3)
linear_cases zero h = absurd (omega arith)
linear_cases (suc zero) h = absurd (omega arith)
linear_cases (suc (suc zero)) h = inl refl
linear_cases (suc (suc (suc zero))) h = inr refl
linear_cases (suc (suc (suc (suc a)))) h = absurd (omega arith)

pub linear_degree : (a : ℕ) → degree a ≡ 1 → HasDegree a 1
linear_degree zero e = absurd (omega (arith, degree_zero))
linear_degree (suc a) e = subst (HasDegree (suc a)) e (degree_is (suc a) (omega arith))

-- ---- the test and its meaning
linear_out : (l : List ℕ) → all linear l ≡ true → Linear l
unfolding all
linear_out [] t = none
linear_out (a ∷ l) t =
    let (here, rest) = (and-eq-true_iff (linear a) (all linear l)).0 t in
    one (linear_degree a (eqb-true (degree a) 1 here)) (linear_out l rest)

linear_in : {l : List ℕ} → Linear l → all linear l ≡ true
unfolding all
linear_in none = refl
linear_in (one {a} h rest) = rw (degree_unique a 1 h) (linear_in rest)

linear_quotients_def : (p q : ℕ) → linear_quotients p q ≡ all linear (expansion p q).quotients && eqb (expansion p q).common 1
linear_quotients_def p q = unfold linear_quotients in refl

pub linear_quotients_is : (p q : ℕ) → (linear_quotients p q ≡ true) ↔ LinearQuotients p q
linear_quotients_is p q = (
  λ t.
      let (quotients, common) = (and-eq-true_iff (all linear (expansion p q).quotients) (eqb (expansion p q).common 1)).0 (rw linear_quotients_def at t) in
      record { linear = linear_out _ quotients; coprime = eqb-true _ 1 common },
  λ h. rw (linear_quotients_def, linear_in h.linear, h.coprime),
)

-- ---- one quotient at a time
pub linear_quotients_zero : (p : ℕ) → linear_quotients p 0 ≡ eqb p 1
unfolding all
linear_quotients_zero p = linear_quotients_def p 0 ∙ rw expansion_zero

found_linear : (a : ℕ) (e : Expansion)
    → all linear (found a e).quotients && eqb (found a e).common 1 ≡ linear a && (all linear e.quotients && eqb e.common 1)
unfolding found all
found_linear a e = and_assoc (linear a) (all linear e.quotients) (eqb e.common 1)

pub linear_quotients_step : (p q : ℕ) → 0 < q → linear_quotients p q ≡ linear (quot p q) && linear_quotients q (rem p q)
linear_quotients_step p q pos = simp (linear_quotients_def, expansion_more p q pos) (found_linear (quot p q) (expansion q (rem p q)))

-- the quotient's degree is the difference of the degrees: one, or more
module _ {a b n : ℕ} (ha : HasDegree a (suc n)) where
  drop : 0 < b → b < a → suc n ≡ degree (quot a b) + degree b
  drop pos less = rw (degree_unique a (suc n) ha) at (quotient_degree_lem b pos a (omega (arith, (degree_is b pos).least)))

  pub linear_quotients_next : HasDegree b n → linear_quotients a b ≡ linear_quotients b (rem a b)
  linear_quotients_next hb =
      let d : degree (quot a b) ≡ 1 = omega (arith, drop (positive hb) (omega arith), degree_unique b n hb) in
      linear_quotients_step a b (positive hb) ∙ rw d

  pub linear_quotients_stop : 0 < b → b < 2 ^ n → linear_quotients a b ≡ false
  linear_quotients_stop pos small =
      let d : degree b < n = degree_most b n pos small in
      linear_quotients_step a b pos ∙ rw (ne_eqb (degree (quot a b)) 1 (λ e. omega (arith, drop pos (omega arith))))
