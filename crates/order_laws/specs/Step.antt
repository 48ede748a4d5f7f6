-- The step of a nonzero residue q modulo a primitive p: x^step ≡ q, and it is the only exponent from 1 up to 2^m - 2 that gives q.
-- q is x^e for some e below the period; e = 0 is q = 1, of which no power before x^(2^m - 1) is another; any other e is the first that gives q.
-- Assumes nothing.
use Rattle.std.specs.Prelude.{◌≡◌, ◌≢◌, Bool, true, ℕ, zero, suc, ◌-◌, ◌^◌, ◌≤◌, ◌<◌, eqb}
use Rattle.std.proofs.Math.Path.{refl}
use Rattle.std.proofs.Common.{sym, ◌∙◌, arith, eqb-true, eq-eqb, ne_eqb}
use Rattle.definitions.specs.Number.{first}
use Rattle.definitions.specs.Polynomial.{rem}
use Rattle.definitions.specs.Generator.{period, primitive, step}
use Rattle.number_laws.specs.First.{first_from, first_to, first_passes, first_none, first_unique}
use Rattle.polynomial_laws.specs.Degree.{HasDegree}
use Rattle.polynomial_laws.specs.Power.{rem_one}
use Rattle.order_laws.specs.Powers.{IsOrder}
use Rattle.order_laws.specs.Table.{period_positive}
use Rattle.order_laws.specs.Primitive.{primitive_order}
use Rattle.order_laws.specs.Cycle.{full_cycle, powers_apart, degree_big}

-- x^e ≡ q (mod p), computed.
abbrev pub gives : ℕ → ℕ → ℕ → Bool
gives p q e = eqb (rem (2 ^ e) p) q

module _ (m p q : ℕ) where
  pub step_def : step m p q ≡ first (period m - 1) 1 (gives p q)
  step_def = unfold step in refl

  pub step_from : 1 ≤ step m p q
  step_from = rw step_def (first_from (period m - 1) 1 (gives p q))

  pub step_to : 1 ≤ m → step m p q ≤ period m
  step_to h = omega (arith, step_def, first_to (period m - 1) 1 (gives p q), period_positive m h)

  -- the search that stops short of the period has found q
  pub step_found : step m p q < period m → rem (2 ^ step m p q) p ≡ q
  step_found h = eqb-true _ q (rw step_def (first_passes (period m - 1) 1 (gives p q) (omega (arith, step_def))))

module _ (m p : ℕ) (positive : 1 ≤ m) (d : HasDegree p m) (t : primitive m p ≡ true) where
  big : 2 ≤ p
  big = degree_big m p positive d

  order : IsOrder p (period m)
  order = primitive_order m p positive t

  -- no other power than x^(2^m - 1) is 1
  pub step_one : step m p 1 ≡ period m
  step_one =
      step_def m p 1
      ∙ first_none (period m - 1) 1 (gives p 1) (λ e h l. ne_eqb (rem (2 ^ e) p) 1 (λ k. omega (arith, order.least e h k)))
      ∙ omega (arith, order.positive)

  -- the exponent that gives q is the step
  pub step_unique : (q e : ℕ) → 0 < e → e < period m → rem (2 ^ e) p ≡ q → step m p q ≡ e
  step_unique q e h l k =
      step_def m p q
      ∙ first_unique (period m - 1) 1 (gives p q) e h (omega arith) (eq-eqb _ q k)
      (λ i a b. ne_eqb _ q (λ same. omega (arith, powers_apart p big (period m) order i e (omega arith) l (same ∙ sym k))))

  pub step_power : (q : ℕ) → 0 < q → q < 2 ^ m → rem (2 ^ step m p q) p ≡ q
  step_power q nonzero residue =
      let w = full_cycle m p positive d t q nonzero residue in
      go w.exponent w.below w.gives
    where
      go : (e : ℕ) → e < period m → rem (2 ^ e) p ≡ q → rem (2 ^ step m p q) p ≡ q
      go zero l k =
          let one : q ≡ 1 = sym k ∙ rem_one p big in
          rw (one, step_one) order.holds
      go (suc e) l k = rw (step_unique q (suc e) (omega arith) l k) k

  -- all but 1 are found
  pub step_below : (q : ℕ) → 0 < q → q < 2 ^ m → q ≢ 1 → step m p q < period m
  step_below q nonzero residue other =
      let w = full_cycle m p positive d t q nonzero residue in
      go w.exponent w.below w.gives
    where
      go : (e : ℕ) → e < period m → rem (2 ^ e) p ≡ q → step m p q < period m
      go zero l k = absurd (other (sym k ∙ rem_one p big))
      go (suc e) l k = omega (arith, step_unique q (suc e) (omega arith) l k)
