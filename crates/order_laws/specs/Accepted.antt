-- The step: modulo a primitive p every nonzero residue q but 1 has one strictly between 0 and 2^m - 1; so has an accepted pair, since 2^m - 1 is not
-- coprime to itself. The states of an accepted pair are the full period: every nonzero residue, once. Assumes nothing.
use Rattle.std.specs.Prelude.{◌≡◌, ◌≢◌, ◌↔◌, true, ◌&&◌, ℕ, ◌-◌, ◌^◌, ◌≤◌, ◌<◌}
use Rattle.std.proofs.Common.{sym, ap, ◌∙◌, arith, pow_mono}
use Rattle.std.proofs.Math.Bool.{and-eq-true_iff}
use Rattle.std.proofs.Math.Nat.{dvd_refl}
use Rattle.definitions.specs.Number.{gcd}
use Rattle.definitions.specs.Polynomial.{rem}
use Rattle.definitions.specs.Generator.{least_degree, period, primitive, linear_quotients, step, coprime_step, accepted}
use Rattle.definitions.specs.Points.{state}
use Rattle.number_laws.specs.Gcd.{coprime_only}
use Rattle.number_laws.specs.Pigeon.{Reached}
use Rattle.polynomial_laws.specs.Degree.{HasDegree}
use Rattle.order_laws.specs.Step.{step_from, step_to, step_found, step_power, step_below}
use Rattle.order_laws.specs.State.{state_lt}
use Rattle.order_laws.specs.Orbit.{Apart, coprime_step_is, state_nonzero, states_apart, states_reach, period_recurs}

pub record Accepted (m p q : ℕ) : Type 0 where
  pub primitive_p : primitive m p ≡ true
  pub linear : linear_quotients p q ≡ true
  pub coprime : coprime_step m p q ≡ true

pub accepted_is : (m p q : ℕ) → (accepted m p q ≡ true) ↔ Accepted m p q
unfolding accepted
accepted_is m p q = (
  λ t.
      let a = (and-eq-true_iff (primitive m p) (linear_quotients p q && coprime_step m p q)).0 t in
      let b = (and-eq-true_iff (linear_quotients p q) (coprime_step m p q)).0 a.1 in
      record { primitive_p = a.0; linear = b.0; coprime = b.1 },
  λ h.
      (and-eq-true_iff (primitive m p) (linear_quotients p q && coprime_step m p q)).1
      (h.primitive_p, (and-eq-true_iff (linear_quotients p q) (coprime_step m p q)).1 (h.linear, h.coprime)),
)

-- The step as document 01 says it.
pub record IsStep (m p q e : ℕ) : Type 0 where
  pub positive : 0 < e
  pub below : e < period m
  pub gives : rem (2 ^ e) p ≡ q

pub coprime_step_lem : (m p q : ℕ) → least_degree ≤ m → coprime_step m p q ≡ true → IsStep m p q (step m p q)
coprime_step_lem m p q low c = record { positive = step_from m p q; below = below; gives = step_found m p q below }
  where
    -- the period is not coprime to itself
    not_period : step m p q ≢ period m
    not_period e =
        let coprime : gcd (period m) (period m) ≡ 1 = ap (λ s. gcd s (period m)) (sym e) ∙ (coprime_step_is m p q).0 c in
        omega (arith, pow_mono low, coprime_only (period m) (period m) (period m) coprime (dvd_refl (period m)) (dvd_refl (period m)))

    below : step m p q < period m
    below = omega (arith, not_period, step_to m p q (omega arith))

-- Modulo a primitive p every nonzero residue but 1 has a step.
pub every_step : (m p : ℕ) → 1 ≤ m → HasDegree p m → primitive m p ≡ true → (q : ℕ) → 0 < q → q < 2 ^ m → q ≢ 1 → IsStep m p q (step m p q)
every_step m p low d t q nonzero residue other = record {
  positive = step_from m p q;
  below = step_below m p low d t q nonzero residue other;
  gives = step_power m p low d t q nonzero residue;
}

-- The states of a pair are the full period.
pub record FullPeriod (m p q : ℕ) : Type 0 where
  pub nonzero : (i : ℕ) → 0 < state p q i
  pub residue : (i : ℕ) → state p q i < 2 ^ m
  pub apart : Apart m p q
  pub reach : (y : ℕ) → 0 < y → y < 2 ^ m → Reached (period m) (state p q) y
  pub back : state p q (period m) ≡ 1

pub full_period : (m p q : ℕ) → 1 ≤ m → HasDegree p m → 0 < q → q < 2 ^ m → accepted m p q ≡ true → FullPeriod m p q
full_period m p q positive d nonzero residue t =
    let a = (accepted_is m p q).0 t in
    record {
      nonzero = λ i. omega (arith, state_nonzero m p positive d a.primitive_p q nonzero residue i);
      residue = λ i. state_lt m p q i positive d;
      apart = states_apart m p positive d a.primitive_p q nonzero residue a.coprime;
      reach = states_reach m p positive d a.primitive_p q nonzero residue a.coprime;
      back = period_recurs m p positive d a.primitive_p q nonzero residue;
    }
