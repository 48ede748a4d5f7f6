-- The documents' table for a pair of a lawful degree at a floor: the refusals 3 to 6 and 11 in its own words, the first that applies. The definition asks more:
-- no common factor beside linear quotients, and a step found by search. For a primitive p and a well-formed q neither makes a difference: q is a
-- power of x, so it has an inverse, which a common factor would forbid; and q = 1, the one that is no power before x^(2^m - 1), has the quotient p,
-- of degree m. Assumes nothing.
use Rattle.std.specs.Prelude.{◌≡◌, refl, ◌≢◌, ◌↔◌, ◌⊎◌, false, List, ◌++◌, ℕ, zero, suc, ◌^◌, ◌≤◌, ◌<◌}
use Rattle.std.proofs.Common.{sym, ap, ◌∙◌, subst, arith, pow_pos}
use Rattle.std.proofs.Math.Bool.{true, not}
use borrow.Author.Tests.{not-true, not-false}
use Rattle.definitions.specs.Number.{gcd}
use Rattle.definitions.specs.Polynomial.{prod, rem}
use Rattle.definitions.specs.Answers.{Situation, refusal_number}
use Rattle.definitions.specs.Generator.{least_degree, well_formed, period, primitive, linear_quotients, quotient_degree, coprime_step, reaches_floor, step}
use Rattle.definitions.specs.Calls.{pair_situations}
use Rattle.definitions.specs.declared.Refusal.{Refusal}
use Rattle.definitions.specs.declared.Refusal.TheVariants.{IllFormedPair, NotPrimitive, QuotientNotLinear, StepNotCoprime, StepBelowFloor}
use Rattle.number_laws.specs.Bounds.{LawfulDegree}
use Rattle.number_laws.specs.Truth.{truth_false, not_both, le_unless}
use Rattle.answer_laws.specs.Unless.{Decides, here, later}
use Rattle.polynomial_laws.specs.Degree.{HasDegree, positive}
use Rattle.fraction_laws.specs.WellFormed.{WellFormed, well_formed_is}
use Rattle.fraction_laws.specs.Quotients.{linear_quotients_stop}
use Rattle.fraction_laws.specs.Euclid.{EveryQuotientLinear, SomeQuotientNotLinear, inverse_only, linear_quotients_every, linear_quotients_other}
use Rattle.order_laws.specs.Powers.{IsOrder}
use Rattle.order_laws.specs.Primitive.{primitive_is}
use Rattle.order_laws.specs.Cycle.{cycle_inverse}
use Rattle.order_laws.specs.Step.{step_one, step_unique}
use Rattle.order_laws.specs.Orbit.{coprime_step_is}
use Rattle.order_laws.specs.Accepted.{IsStep, every_step}
use Rattle.order_laws.specs.Floor.{reaches_floor_is}
use Rattle.demands.specs.Situations.{Decided}

-- p is primitive: the smallest e ≥ 1 with x^e ≡ 1 (mod p) is 2^m - 1.
abbrev pub Primitive : ℕ → ℕ → Type 0
Primitive m p = IsOrder p (period m)

-- The table: `PairRefused m floor p q n` says in which situation n is given, none of those before it applying.
pub data PairRefused (m floor p q : ℕ) : ℕ → Type 0 where
  pair_not_well_formed : ¬ WellFormed m p q → PairRefused m floor p q 3
  p_not_primitive : WellFormed m p q → ¬ Primitive m p → PairRefused m floor p q 4
  some_quotient_not_linear : WellFormed m p q → Primitive m p → SomeQuotientNotLinear p q → PairRefused m floor p q 5
  step_not_coprime : {σ : ℕ} → WellFormed m p q → Primitive m p → EveryQuotientLinear p q → IsStep m p q σ → gcd σ (period m) ≢ 1
      → PairRefused m floor p q 6
  step_below_floor : {σ : ℕ} → WellFormed m p q → Primitive m p → EveryQuotientLinear p q → IsStep m p q σ → gcd σ (period m) ≡ 1 → σ < floor
      → PairRefused m floor p q 11

-- The numbers that the table speaks of, and those below them.
abbrev pub OfTable : ℕ → Type 0
OfTable n = (n ≤ 6) ⊎ (n ≡ 11)

-- ---- a primitive p and a well-formed q

-- The quotient of (p, 1) is p, of degree m.
one_stops : (m p : ℕ) → least_degree ≤ m → HasDegree p m → linear_quotients p 1 ≡ false
one_stops zero p low d = absurd (omega arith)
one_stops (suc zero) p low d = absurd (omega arith)
one_stops (suc (suc n)) p low d = linear_quotients_stop d (omega arith) (omega (arith, pow_pos n))

module _ (m p q : ℕ) (low : least_degree ≤ m) (w : WellFormed m p q) (order : Primitive m p) where
  one_least : 1 ≤ m
  one_least = omega arith

  test : primitive m p ≡ true
  test = (primitive_is m p one_least).1 order

  inverse : (r : ℕ) × (rem (prod q r) p ≡ 1)
  inverse = cycle_inverse m p one_least w.degree_p test q w.nonzero w.smaller

  -- NO COMMON FACTOR but 1,
  pub no_common_factor : (g : ℕ) → 0 < g → rem p g ≡ 0 → rem q g ≡ 0 → g ≡ 1
  no_common_factor g = inverse_only p q inverse.0 g (positive w.degree_p) inverse.1

  -- so the test of the quotients asks for their degrees alone.
  pub every_quotient : (linear_quotients p q ≡ true) ↔ EveryQuotientLinear p q
  every_quotient = linear_quotients_every p q inverse.0 (positive w.degree_p) inverse.1

  pub some_quotient : (not (linear_quotients p q) ≡ true) ↔ SomeQuotientNotLinear p q
  some_quotient = linear_quotients_other p q inverse.0 (positive w.degree_p) inverse.1

  -- EVERY q BUT 1 HAS A STEP, and 1 is x^(2^m - 1) and no power before it,
  pub others_step : q ≢ 1 → IsStep m p q (step m p q)
  others_step = every_step m p one_least w.degree_p test q w.nonzero w.smaller

  pub one_step : (step m p 1 ≡ period m) × (rem (2 ^ period m) p ≡ 1)
  one_step = (step_one m p one_least w.degree_p test, order.holds)

  -- so where the quotients are linear there is a step.
  pub has_step : linear_quotients p q ≡ true → IsStep m p q (step m p q)
  has_step t = others_step (λ e. not_both (rw e at t) (one_stops m p low w.degree_p))

  -- It is the one that the definition finds.
  pub is_the_step : (σ : ℕ) → IsStep m p q σ → step m p q ≡ σ
  is_the_step σ s = step_unique m p one_least w.degree_p test q σ s.positive s.below s.gives

-- ---- the refusal that decides is the table's

module _ (m floor p q : ℕ) (lawful : LawfulDegree m) where
  formed_by : well_formed m p q ≡ true → WellFormed m p q
  formed_by = (well_formed_is m p q).0

  order_by : primitive m p ≡ true → Primitive m p
  order_by = (primitive_is m p (omega (arith, lawful.low))).0

  fails : {b : _} → (b ≡ true → ⊥) → not b ≡ true
  fails {b} h = ap not (truth_false b h)

  formed_test : WellFormed m p q → not (well_formed m p q) ≡ false
  formed_test w = ap not ((well_formed_is m p q).1 w)

  order_test : Primitive m p → not (primitive m p) ≡ false
  order_test o = ap not ((primitive_is m p (omega (arith, lawful.low))).1 o)

  coprime_by : {σ : ℕ} → WellFormed m p q → Primitive m p → IsStep m p q σ → gcd σ (period m) ≡ 1 → coprime_step m p q ≡ true
  coprime_by {σ} w o s e = (coprime_step_is m p q).1 (ap (λ k. gcd k (period m)) (is_the_step m p q lawful.low w o σ s) ∙ e)

  module _ (rest : List Situation) (other : (r : Refusal) → Decides r rest → OfTable (refusal_number r) → ⊥) where
    decides_table : {r : Refusal} → Decides r (pair_situations m floor p q ++ rest) → OfTable (refusal_number r) → PairRefused m floor p q (refusal_number r)
    unfolding pair_situations
    decides_table (here a) h = pair_not_well_formed (λ w. not_both ((well_formed_is m p q).1 w) (not-true _ a))
    decides_table (later a (here b)) h =
        p_not_primitive (formed_by (not-false _ a)) (λ o. not_both ((primitive_is m p (omega (arith, lawful.low))).1 o) (not-true _ b))
    decides_table (later a (later b (here c))) h =
        let w = formed_by (not-false _ a) in
        let o = order_by (not-false _ b) in
        some_quotient_not_linear w o ((some_quotient m p q lawful.low w o).0 c)
    decides_table (later a (later b (later c (here d)))) h =
        let w = formed_by (not-false _ a) in
        let o = order_by (not-false _ b) in
        let t = not-false _ c in
        step_not_coprime w o ((every_quotient m p q lawful.low w o).0 t) (has_step m p q lawful.low w o t)
        (λ e. not_both ((coprime_step_is m p q).1 e) (not-true _ d))
    decides_table (later a (later b (later c (later d (here e))))) h =
        let w = formed_by (not-false _ a) in
        let o = order_by (not-false _ b) in
        let t = not-false _ c in
        let below : step m p q < floor = le_unless (λ l. not_both ((reaches_floor_is m floor p q).1 (omega arith)) (not-true _ e)) in
        step_below_floor w o ((every_quotient m p q lawful.low w o).0 t) (has_step m p q lawful.low w o t) ((coprime_step_is m p q).0 (not-false _ d)) below
    decides_table (later a (later b (later c (later d (later e x))))) h = absurd (other _ x h)

    table_decides : (n : ℕ) → PairRefused m floor p q n → Decided (pair_situations m floor p q ++ rest) n
    unfolding pair_situations
    table_decides n (pair_not_well_formed h) = (IllFormedPair, here (fails (λ t. h (formed_by t))), refl)
    table_decides n (p_not_primitive w h) = (NotPrimitive, later (formed_test w) (here (fails (λ t. h (order_by t)))), refl)
    table_decides n (some_quotient_not_linear w o some) =
        (QuotientNotLinear (quotient_degree p q), later (formed_test w) (later (order_test o) (here ((some_quotient m p q lawful.low w o).1 some))), refl)
    table_decides n (step_not_coprime {σ} w o every s shared) =
        let t = (every_quotient m p q lawful.low w o).1 every in
        let never : coprime_step m p q ≡ true → ⊥ =
        λ c. shared (ap (λ e. gcd e (period m)) (sym (is_the_step m p q lawful.low w o σ s)) ∙ (coprime_step_is m p q).0 c) in
        (StepNotCoprime, later (formed_test w) (later (order_test o) (later (ap not t) (here (fails never)))), refl)
    table_decides n (step_below_floor {σ} w o every s coprime below) =
        let t = (every_quotient m p q lawful.low w o).1 every in
        let never : reaches_floor m floor p q ≡ true → ⊥ =
        λ r. omega (arith, below, is_the_step m p q lawful.low w o σ s, (reaches_floor_is m floor p q).0 r) in
        (StepBelowFloor, later (formed_test w) (later (order_test o) (later (ap not t) (later (ap not (coprime_by w o s coprime)) (here (fails never))))), refl)

    -- THE TABLE: of the situations of a pair, and others of which it does not speak behind them.
    pub pair_table : (n : ℕ) → OfTable n → Decided (pair_situations m floor p q ++ rest) n ↔ PairRefused m floor p q n
    pair_table n h = (
      λ (d : Decided (pair_situations m floor p q ++ rest) n). subst (PairRefused m floor p q) d.2 (decides_table d.1 (rw d.2 h)),
      λ (t : PairRefused m floor p q n). table_decides n t,
    )
