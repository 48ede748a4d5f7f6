-- The step finder's turns: the power at hand is x^e, and e has not passed the step; where it is q, e is the step, and where it is not, e stands before it.
-- Assumes nothing.
use mathlib.Core.Path.{◌≡◌, sym, ap, ◌∙◌}
use mathlib.Core.Bool.{true}
use Prim.Native.Nat.{ℕ, suc, ◌+◌, ◌-◌, ◌*◌, ◌/◌, ◌^◌, ◌≤◌, ◌<◌}
use native.Mathlib.Numerals.{add-one}
use native.Mathlib.Nat.{pow-suc}
use native.Mathlib.Omega.{arith}
use native.Mathlib.Decide.{dec_le}
use lib.Pow.{pow-lt}
use borrow.Author.Tests.{eq-eqb}
use Rattle.definitions.specs.Polynomial.{rem}
use Rattle.definitions.specs.Generator.{period, primitive, linear_quotients, step}
use Rattle.number_laws.specs.Bounds.{LawfulDegree, lead_low}
use Rattle.number_laws.specs.First.{first_before}
use Rattle.number_laws.specs.Truth.{le_unless, not_both}
use Rattle.polynomial_laws.specs.Degree.{HasDegree, degree_unique}
use Rattle.polynomial_laws.specs.Division.{rem_small}
use Rattle.polynomial_laws.specs.Power.{rem_power_suc}
use Rattle.fraction_laws.specs.WellFormed.{WellFormed}
use Rattle.fraction_laws.specs.Quotients.{linear_quotients_stop}
use Rattle.order_laws.specs.Cycle.{degree_big}
use Rattle.order_laws.specs.Step.{gives, step_def, step_from, step_power}

-- Where the finder is: at x^e, e at most the step.
pub record At (m p q power e : ℕ) : Type 0 where
  pub least : 1 ≤ e
  pub most : e ≤ step m p q
  pub is : power ≡ rem (2 ^ e) p

module _ (m p q : ℕ) (h : LawfulDegree m) (w : WellFormed m p q) (t : primitive m p ≡ true) where
  big : 2 ≤ p
  big = degree_big m p (omega (arith, h.low)) w.degree_p

  pub at_start : At m p q 2 1
  at_start = record {
    least = omega arith;
    most = step_from m p q;
    is = sym (rem_small p (omega (arith, big)) 2 (rw (degree_unique p m w.degree_p) (omega (arith, lead_low h))));
  }

  -- Where the quotients are linear q has the degree m - 1, and smaller powers of x are not reduced, so none of them is q.
  pub at_leading : linear_quotients p q ≡ true → {lead : ℕ} → lead ≡ 2 ^ m → At m p q (lead / 2) (m - 1)
  at_leading linear {lead} e = record {
    least = omega (arith, h.low);
    most = le_unless early;
    is = half_is ∙ sym (small (m - 1) (omega (arith, h.low)));
  }
    where
      whole : suc (m - 1) ≡ m
      whole = omega (arith, h.low)

      half_is : lead / 2 ≡ 2 ^ (m - 1)
      half_is = let double : 2 ^ suc (m - 1) ≡ 2 ^ m = ap (λ (k : ℕ). 2 ^ k) whole in omega (arith, pow-suc 2 (m - 1))

      small : (k : ℕ) → k < m → rem (2 ^ k) p ≡ 2 ^ k
      small k l = rem_small p (omega (arith, big)) (2 ^ k) (rw (degree_unique p m w.degree_p) (pow-lt l))

      leading : 2 ^ (m - 1) ≤ q
      leading =
          let degree : HasDegree p (suc (m - 1)) = rw whole w.degree_p in
          le_unless (λ l. not_both linear (linear_quotients_stop degree w.nonzero l))

      early : step m p q < m - 1 → ⊥
      early l =
          let power : 2 ^ step m p q ≡ q =
          sym (small (step m p q) (omega arith)) ∙ step_power m p (omega (arith, h.low)) w.degree_p t q w.nonzero w.smaller in
          omega (arith, pow-lt l, leading)

  pub at_found : (power e : ℕ) → At m p q power e → power ≡ q → e ≡ step m p q
  at_found power e a f = omega (arith, a.most, le_unless earlier)
    where
      earlier : e < step m p q → ⊥
      earlier l =
          not_both (eq-eqb (rem (2 ^ e) p) q (sym a.is ∙ f))
          (first_before (period m - 1) 1 (gives p q) e a.least (omega (arith, step_def m p q)))

  pub at_before : (power e : ℕ) → At m p q power e → (power ≡ q → ⊥) → e < step m p q
  at_before power e a n = go (dec_le (step m p q) e)
    where
      go : Dec (step m p q ≤ e) → e < step m p q
      go (yes l) =
          let s : e ≡ step m p q = omega (arith, a.most) in
          absurd (n (a.is ∙ ap (λ (k : ℕ). rem (2 ^ k) p) s ∙ step_power m p (omega (arith, h.low)) w.degree_p t q w.nonzero w.smaller))
      go (no l) = omega arith

  pub at_next : (power e next : ℕ) → At m p q power e → (power ≡ q → ⊥) → next ≡ rem (2 * power) p → At m p q next (e + 1)
  at_next power e next a n k = record {
    least = omega (arith, a.least);
    most = omega (arith, at_before power e a n);
    is =
        k
        ∙ ap (λ (y : ℕ). rem (2 * y) p) a.is
        ∙ sym (rem_power_suc p big e)
        ∙ ap (λ (j : ℕ). rem (2 ^ j) p) (sym (add-one e));
  }
