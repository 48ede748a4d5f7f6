-- Demand 2, at every floor. A pair is accepted, with the step σ, exactly when p is primitive, every partial quotient of q/p has degree one, the step is
-- coprime to 2^m - 1, and it is at least the floor; the t-value is the smallest t of the net definition; the words handed out are the recurrence's full
-- period, and with the origin they are the point set in every dimension. From the laws of orders, of nets and of blocks. Assumes nothing.
use Rattle.std.proofs.Math.Path.{◌≡◌}
use Rattle.std.proofs.Common.{ap, ◌∙◌, subst, pow_pos}
use Rattle.std.specs.Prelude.{◌↔◌, Bool, true, List, ℕ, ◌+◌, ◌-◌, ◌^◌, ◌≤◌, length, Ok, Err}
use Rattle.std.proofs.Math.Bool.{not}
use native.Mathlib.Omega.{arith}
use borrow.Author.Tests.{not-false, le-ltb, leb-true, le-leb}
use Rattle.definitions.specs.Number.{bit, count, gcd, over}
use Rattle.definitions.specs.Generator.{lawful_degree, largest_floor, lawful_floor, well_formed, period, primitive, linear_quotients, coprime_step, step}
use Rattle.definitions.specs.Generator.{reaches_floor, accepted, accepted_at}
use Rattle.definitions.specs.Net.{t_value}
use Rattle.definitions.specs.Points.{words}
use Rattle.definitions.specs.Calls.{pair_situations, judging, judgement, measuring, uniformity, pointing, word_count, points_slice}
use Rattle.definitions.specs.declared.Refusal.{Refusal}
use Rattle.number_laws.specs.Bounds.{LawfulDegree, lawful_degree_is}
use Rattle.answer_laws.specs.Unless.{NoneApplies, passes, at_end, none_append, unless_given, told_given}
use Rattle.fraction_laws.specs.WellFormed.{WellFormed, well_formed_is}
use Rattle.fraction_laws.specs.Euclid.{EveryQuotientLinear}
use Rattle.order_laws.specs.Primitive.{primitive_is}
use Rattle.order_laws.specs.Orbit.{coprime_step_is}
use Rattle.order_laws.specs.Accepted.{IsStep, accepted_is, coprime_step_lem, FullPeriod, full_period}
use Rattle.order_laws.specs.Floor.{reaches_floor_is, accepted_at_is}
use Rattle.net_laws.specs.Smallest.{SmallestNet, t_value_smallest_lem}
use Rattle.block_laws.specs.Blocks.{point, block, origin, points_are_blocks}
use Rattle.demands.specs.PairTable.{Primitive, every_quotient, is_the_step}

-- What is asked of three numbers, the floor and the step σ: a lawful degree, a lawful floor, a well-formed pair, and the four conditions.
pub record Conditions (m floor p q σ : ℕ) : Type 0 where
  pub lawful : LawfulDegree m
  pub floor_is_lawful : floor ≤ largest_floor
  pub is_well_formed : WellFormed m p q
  -- p is primitive,
  pub order : Primitive m p
  -- every partial quotient of q/p has degree one,
  pub quotients : EveryQuotientLinear p q
  -- the step, x^σ ≡ q (mod p) with 0 < σ < 2^m - 1, is coprime to 2^m - 1,
  pub is_step : IsStep m p q σ
  pub coprime : gcd σ (period m) ≡ 1
  -- and it is at least the floor.
  pub reaches : floor ≤ σ

-- ---- the seven tests of judging

record Tests (m floor p q : ℕ) : Type 0 where
  lawful : lawful_degree m ≡ true
  floor_is_lawful : lawful_floor floor ≡ true
  formed : well_formed m p q ≡ true
  primitive_p : primitive m p ≡ true
  linear : linear_quotients p q ≡ true
  coprime : coprime_step m p q ≡ true
  reaches : reaches_floor m floor p q ≡ true

module _ (m floor p q : ℕ) where
  tests_pass : Tests m floor p q → NoneApplies (judging m floor p q)
  unfolding judging pair_situations
  tests_pass t =
      passes (ap not t.lawful) (passes (ap not t.floor_is_lawful)
      (passes (ap not t.formed) (passes (ap not t.primitive_p) (passes (ap not t.linear) (passes (ap not t.coprime)
      (passes (ap not t.reaches) at_end))))))

  passed_tests : NoneApplies (judging m floor p q) → Tests m floor p q
  unfolding judging pair_situations
  passed_tests (passes a (passes f (passes b (passes c (passes d (passes e (passes g at_end))))))) = record {
    lawful = not-false _ a;
    floor_is_lawful = not-false _ f;
    formed = not-false _ b;
    primitive_p = not-false _ c;
    linear = not-false _ d;
    coprime = not-false _ e;
    reaches = not-false _ g;
  }

  tests_judged : Tests m floor p q → judgement m floor p q ≡ Ok (step m p q)
  unfolding judgement
  tests_judged t = unless_given Err _ (tests_pass t)

  judged_tests : (σ : ℕ) → judgement m floor p q ≡ Ok σ → Tests m floor p q × (step m p q ≡ σ)
  unfolding judgement
  judged_tests σ e =
      let g = told_given (judging m floor p q) e (λ r d. let z : ◌≡◌ {A = ℕ} 0 1 = cc in omega arith) in
      let s = g.1 in
      (passed_tests g.0, (cc))

  tests_accepted : Tests m floor p q → accepted_at m floor p q ≡ true
  tests_accepted t =
      (accepted_at_is m floor p q).1
      (record {
        judged = record { primitive_p = t.primitive_p; linear = t.linear; coprime = t.coprime };
        reaches = (reaches_floor_is m floor p q).0 t.reaches;
      })

  tests_conditions : Tests m floor p q → Conditions m floor p q (step m p q)
  tests_conditions t =
      let degree = (lawful_degree_is m).0 t.lawful in
      let formed = (well_formed_is m p q).0 t.formed in
      let order = (primitive_is m p (omega arith)).0 t.primitive_p in
      record {
        lawful = degree;
        floor_is_lawful = leb-true floor largest_floor t.floor_is_lawful;
        is_well_formed = formed;
        order = order;
        quotients = (every_quotient m p q degree.low formed order).0 t.linear;
        is_step = coprime_step_lem m p q degree.low t.coprime;
        coprime = (coprime_step_is m p q).0 t.coprime;
        reaches = (reaches_floor_is m floor p q).0 t.reaches;
      }

  conditions_step : (σ : ℕ) → Conditions m floor p q σ → step m p q ≡ σ
  conditions_step σ c = is_the_step m p q c.lawful.low c.is_well_formed c.order σ c.is_step

  conditions_tests : (σ : ℕ) → Conditions m floor p q σ → Tests m floor p q
  conditions_tests σ c =
      let low : 1 ≤ m = omega (arith, c.lawful.low) in
      record {
        lawful = (lawful_degree_is m).1 c.lawful;
        floor_is_lawful = le-leb floor largest_floor c.floor_is_lawful;
        formed = (well_formed_is m p q).1 c.is_well_formed;
        primitive_p = (primitive_is m p low).1 c.order;
        linear = (every_quotient m p q c.lawful.low c.is_well_formed c.order).1 c.quotients;
        coprime = (coprime_step_is m p q).1 (ap (λ s. gcd s (period m)) (conditions_step σ c) ∙ c.coprime);
        reaches = (reaches_floor_is m floor p q).1 (omega (arith, conditions_step σ c, c.reaches));
      }

-- ACCEPTED EXACTLY WHEN, for any four numbers and any answer σ.
pub accepted_exactly : (m floor p q σ : ℕ) → (judgement m floor p q ≡ Ok σ) ↔ Conditions m floor p q σ
accepted_exactly m floor p q σ = (
  λ (e : judgement m floor p q ≡ Ok σ).
      let t = judged_tests m floor p q σ e in
      subst (Conditions m floor p q) t.1 (tests_conditions m floor p q t.0),
  λ (c : Conditions m floor p q σ). tests_judged m floor p q (conditions_tests m floor p q σ c) ∙ ap Ok (conditions_step m floor p q σ c),
)

-- The list's test is the same: of the well-formed pairs of a lawful degree, those that judging accepts at the list's floor.
pub accepted_judged : (m floor p q : ℕ) → lawful_degree m ≡ true → lawful_floor floor ≡ true → well_formed m p q ≡ true
    → (accepted_at m floor p q ≡ true) ↔ (judgement m floor p q ≡ Ok (step m p q))
accepted_judged m floor p q l low f = (
  λ (a : accepted_at m floor p q ≡ true).
      let h = (accepted_at_is m floor p q).0 a in
      let j = h.judged in
      tests_judged m floor p q
      (record {
        lawful = l;
        floor_is_lawful = low;
        formed = f;
        primitive_p = j.primitive_p;
        linear = j.linear;
        coprime = j.coprime;
        reaches = (reaches_floor_is m floor p q).1 h.reaches;
      }),
  λ (e : judgement m floor p q ≡ Ok (step m p q)). tests_accepted m floor p q (judged_tests m floor p q (step m p q) e).0,
)

-- ---- t-values

-- THE T-VALUE, for every well-formed pair and every dimension.
pub t_value_smallest : (m p q s : ℕ) → well_formed m p q ≡ true → SmallestNet m p q s (t_value m p q s)
t_value_smallest m p q s f = t_value_smallest_lem m p q s (omega (arith, ((well_formed_is m p q).0 f).degree_p.least, pow_pos m))

measured_formed : (m p q s : ℕ) → NoneApplies (measuring m p q s) → well_formed m p q ≡ true
unfolding measuring
measured_formed m p q s (passes a (passes b (passes c at_end))) = not-false _ c

-- A t-value that is given is that smallest one.
pub uniformity_smallest : (m p q s t : ℕ) → uniformity m p q s ≡ Ok t → SmallestNet m p q s t
unfolding uniformity
uniformity_smallest m p q s t e =
    let g = told_given (measuring m p q s) e (λ r d. let z : ◌≡◌ {A = ℕ} 0 1 = cc in omega arith) in
    let v = g.1 in
    let same : t_value m p q s ≡ t = cc in
    subst (SmallestNet m p q s) same (t_value_smallest m p q s (measured_formed m p q s g.0))

-- ---- points

module _ (m floor p q σ : ℕ) (c : Conditions m floor p q σ) where
  lawful_low : 1 ≤ m
  lawful_low = omega (arith, c.lawful.low)

  -- No situation of judging applies.
  pub judging_passes : NoneApplies (judging m floor p q)
  judging_passes = tests_pass m floor p q (conditions_tests m floor p q σ c)

  pub is_accepted : accepted m p q ≡ true
  is_accepted = (accepted_is m p q).1 ((accepted_at_is m floor p q).0 (tests_accepted m floor p q (conditions_tests m floor p q σ c))).judged

  -- THE FULL PERIOD: the states of an accepted pair are all nonzero polynomials of degree below m, each once, and then 1 again.
  pub period_full : FullPeriod m p q
  period_full = let w = c.is_well_formed in full_period m p q lawful_low w.degree_p w.nonzero w.smaller is_accepted

  -- From the first word on, a slice that is long enough is handed the words of the full period, and keeps the rest.
  pub period_written : (s : List ℕ) → period m ≤ length s → points_slice m floor p q 0 s ≡ over 0 (words p q 0 (period m)) s
  unfolding points_slice pointing
  period_written s l =
      let all : word_count m 0 s ≡ period m = omega arith in
      let last = le-ltb (period m - 1) 0 (omega arith) in
      unless_given (λ (n : Refusal). s) _ (none_append judging_passes (passes last at_end)) ∙ rw all

  -- THE POINT SET: to 32 digits it is the origin together with the s-blocks of the output, round the period, whatever is asked of a point.
  pub points_origin_and_blocks : (s : ℕ) (test : List ℕ → Bool)
      → count (2 ^ m) (λ h. test (point p q s h)) ≡ count (period m) (λ i. test (block m p q s i)) + bit (test (origin s))
  points_origin_and_blocks = let w = c.is_well_formed in points_are_blocks m p q lawful_low w.degree_p w.nonzero w.smaller is_accepted
