-- The quotient test, and what refusal 5 carries. For every well-formed pair the test answers K, the largest degree among the partial quotients as
-- Euclid's algorithm has them, and the degree of the greatest common factor. Which number a call gives does not depend on what 5 carries; 5 carries
-- the K of its own pair, 2 at least. K is 1 and there is no common factor just where the pair is of the tree, and t(2) is K - 1 where there is no common
-- factor. From the laws of K, and from which of a pair's situations decides. Assumes nothing.
use Rattle.std.proofs.Math.Path.{◌≡◌, refl, ap}
use Rattle.std.proofs.Common.{◌∙◌, inl, arith}
use Rattle.std.specs.Prelude.{◌≢◌, ◌↔◌, true, false, ℕ, ◌-◌, ◌≤◌, max, ltb, length, get_or, Ok, Err}
use Rattle.std.proofs.Math.Bool.{not}
use mathlib.Core.List.{List, [], ◌∷◌, ◌++◌, Memᴰ}
use Rattle.std.proofs.lemmas.Bool.{not-true, not-false}
use Rattle.definitions.specs.Answers.{Situation, situation, refusal_number, refusal_degree, unless, judgement_values, page_values, points_values}
use Rattle.definitions.specs.Generator.{lawful_degree, lawful_floor, well_formed, primitive, linear_quotients, quotient_degree, common_degree, coprime_step}
use Rattle.definitions.specs.Generator.{reaches_floor, period, tree}
use Rattle.definitions.specs.Net.{t_value}
use Rattle.definitions.specs.Ranking.{lawful_top, row_width}
use Rattle.definitions.specs.Calls.{pair_situations, judging, judgement, testing, quotient_test, measuring, uniformity, page_request, position_situations, paging}
use Rattle.definitions.specs.Calls.{page_answer, pointing, points_answer}
use Rattle.definitions.specs.declared.QuotientDegrees.{QuotientDegrees}
use Rattle.definitions.specs.declared.Refusal.{Refusal}
use Rattle.definitions.specs.declared.Refusal.TheVariants.{WrongDegree, WrongDimension, IllFormedPair, NotPrimitive, QuotientNotLinear, StepNotCoprime}
use Rattle.definitions.specs.declared.Refusal.TheVariants.{ShortSlice, BeyondPeriod, IllFormedCatalogue, DegreeMissing, NotAscending, FileTooLong}
use Rattle.definitions.specs.declared.Refusal.TheVariants.{StepBelowFloor, WrongFloor}
use Rattle.definitions.specs.declared.Selection.{Selection}
use Rattle.definitions.specs.declared.Position.TheVariants.{Start, After}
use Rattle.number_laws.specs.Bounds.{LawfulDegree, lawful_degree_is}
use Rattle.number_laws.specs.Truth.{truth_false}
use Rattle.answer_laws.specs.Given.{same_value}
use Rattle.answer_laws.specs.Unless.{Decides, here, later, NoneApplies, passes, at_end, Outcome, is_refused, is_given, outcome, decides_none}
use Rattle.answer_laws.specs.Unless.{unless_refused, unless_given, unless_both, told_given}
use Rattle.polynomial_laws.specs.Degree.{positive}
use Rattle.fraction_laws.specs.WellFormed.{WellFormed, well_formed_is}
use Rattle.fraction_laws.specs.Degrees.{LargestDegree, quotient_degree_largest, largest_quotient_degree}
use Rattle.order_laws.specs.Primitive.{primitive_is}
use Rattle.quotient_laws.specs.Degrees.{CommonFactor, common_degree_factor, factor_common_degree, no_common, quotient_degree_most, quotient_degree_other}
use Rattle.quotient_laws.specs.Degrees.{linear_degrees, tree_degrees}
use Rattle.quotient_laws.specs.Plane.{t_value_plane}
use Rattle.quotient_test.specs.Testing.{tested}
use Rattle.demands.specs.Situations.{given}
use Rattle.demands.specs.PairTable.{Primitive, PairRefused, pair_not_well_formed, p_not_primitive, some_quotient_not_linear, step_not_coprime}
use Rattle.demands.specs.PairTable.{step_below_floor, OfTable}
use Rattle.demands.specs.PairTable.{no_common_factor, some_quotient}
use Rattle.demands.specs.Demand1.{number_of, other_last, between_other}

-- ---- what the test answers

-- The degree is lawful and the pair well-formed; k is the largest degree among its partial quotients, and c that of the greatest common factor.
pub record Tested (m p q k c : ℕ) : Type 0 where
  pub lawful : LawfulDegree m
  pub is_well_formed : WellFormed m p q
  pub largest : LargestDegree p q k
  pub common : CommonFactor p q c

module _ (m p q : ℕ) where
  values_tested : LawfulDegree m → WellFormed m p q → quotient_test m p q ≡ Ok (record { quotient = quotient_degree p q; common = common_degree p q })
  values_tested lawful w = tested m p q ((lawful_degree_is m).1 lawful) ((well_formed_is m p q).1 w)

  passes_testing : NoneApplies (testing m p q) → LawfulDegree m × WellFormed m p q
  unfolding testing
  passes_testing (passes a (passes b at_end)) = ((lawful_degree_is m).0 (not-false _ a), (well_formed_is m p q).0 (not-false _ b))

  -- THE TEST answers K and the common factor's degree, of every well-formed pair, and nothing else.
  pub tested_exactly : (k c : ℕ) → (quotient_test m p q ≡ Ok (record { quotient = k; common = c })) ↔ Tested m p q k c
  unfolding quotient_test
  tested_exactly k c = (to, from)
    where
      to : quotient_test m p q ≡ Ok (record { quotient = k; common = c }) → Tested m p q k c
      to e =
          let t = told_given (testing m p q) e (λ r d. let z : ◌≡◌ {A = ℕ} 0 1 = cc in omega arith) in
          let same = same_value t.1 in
          let k-is : quotient_degree p q ≡ k = ap (λ (d : QuotientDegrees). d.quotient) same in
          let c-is : common_degree p q ≡ c = ap (λ (d : QuotientDegrees). d.common) same in
          let formed = passes_testing t.0 in
          record {
            lawful = formed.0;
            is_well_formed = formed.1;
            largest = rw k-is at (quotient_degree_largest p q formed.1.nonzero);
            common = rw c-is at (common_degree_factor p q (positive formed.1.degree_p));
          }

      from : Tested m p q k c → quotient_test m p q ≡ Ok (record { quotient = k; common = c })
      from t =
          let w = t.is_well_formed in
          let k-is = largest_quotient_degree p q w.nonzero k t.largest in
          let c-is = factor_common_degree p q c (positive w.degree_p) t.common in
          values_tested t.lawful w ∙ rw (k-is, c-is)

-- ---- the tree, and dimension 2

module _ (m p q : ℕ) where
  tested_values : {k c : ℕ} → quotient_test m p q ≡ Ok (record { quotient = k; common = c }) → (LawfulDegree m × WellFormed m p q) × (quotient_degree p q ≡ k) × (common_degree p q ≡ c)
  tested_values {k} {c} e =
      let t = (tested_exactly m p q k c).0 e in
      let w = t.is_well_formed in (
        (t.lawful, w),
        largest_quotient_degree p q w.nonzero k t.largest,
        factor_common_degree p q c (positive w.degree_p) t.common,
      )

  -- OF THE TREE is a pair just where the test answers 1 and 0.
  pub tree_tested : LawfulDegree m → (quotient_test m p q ≡ Ok (record { quotient = 1; common = 0 })) ↔ Memᴰ (record { p = p; q = q }) (tree m)
  tree_tested lawful =
      let low : 1 ≤ m = omega (arith, lawful.low) in (
        λ (e : quotient_test m p q ≡ Ok (record { quotient = 1; common = 0 })).
            let t = tested_values e in
            (tree_degrees m p q low).1 (t.0.1, t.1, t.2),
        λ (i : Memᴰ (record { p = p; q = q }) (tree m)).
            let t = (tree_degrees m p q low).0 i in
            values_tested m p q lawful t.0 ∙ rw (t.1, t.2),
      )

  -- t(2) is K - 1 or the common factor's degree, whichever is larger,
  pub plane_tested : (k c : ℕ) → quotient_test m p q ≡ Ok (record { quotient = k; common = c }) → uniformity m p q 2 ≡ Ok (max (k - 1) c)
  unfolding uniformity measuring
  plane_tested k c e =
      let t = tested_values e in
      let lawful = (lawful_degree_is m).1 t.0.0 in
      let formed = (well_formed_is m p q).1 t.0.1 in
      unless_given Err (Ok (t_value m p q 2)) (passes (ap not lawful) (passes refl (passes (ap not formed) at_end)))
      ∙ ap Ok (t_value_plane t.0.1 ∙ rw (t.1, t.2))

  -- so K - 1 WHERE THERE IS NO COMMON FACTOR.
  pub plane_coprime : (k : ℕ) → quotient_test m p q ≡ Ok (record { quotient = k; common = 0 }) → uniformity m p q 2 ≡ Ok (k - 1)
  plane_coprime k e =
      let same : max (k - 1) 0 ≡ k - 1 = omega arith in
      plane_tested k 0 e ∙ ap Ok same

-- ---- when 5 is given

-- The tests of a pair in their order, as document 01 has them, 3 to 6, with some number carried by 5;
abbrev pub base_tests : ℕ → ℕ → ℕ → ℕ → List Situation
base_tests k m p q =
    situation (not (well_formed m p q)) IllFormedPair
    ∷ situation (not (primitive m p)) NotPrimitive
    ∷ situation (not (linear_quotients p q)) (QuotientNotLinear k)
    ∷ situation (not (coprime_step m p q)) StepNotCoprime
    ∷ []

-- and with document 02's 11 behind them.
abbrev pub pair_tests : ℕ → ℕ → ℕ → ℕ → ℕ → List Situation
pair_tests k m floor p q = base_tests k m p q ++ situation (not (reaches_floor m floor p q)) StepBelowFloor ∷ []

-- The tests before a pair's: of the degree and the floor.
abbrev pub first_tests : ℕ → ℕ → List Situation
first_tests m floor = situation (not (lawful_degree m)) WrongDegree ∷ situation (not (lawful_floor floor)) WrongFloor ∷ []

-- WHEN 5 IS GIVEN DOES NOT CHANGE: the number that a call gives is that of these tests, whatever 5 carries. By judging,
module _ (k m floor p q : ℕ) where
  pub judging_unchanged : number_of (judgement_values (judgement m floor p q)) ≡ given (first_tests m floor ++ pair_tests k m floor p q)
  unfolding judging pair_situations judgement given unless
  judging_unchanged = unless_both (λ a n. number_of (judgement_values a) ≡ n) (judging m floor p q) Err _ refusal_number 0 (λ r. refl) refl

  -- by points,
  pub pointing_unchanged : (i : ℕ) (s : List ℕ) → number_of (points_values (points_answer m floor p q i s))
      ≡ given (first_tests m floor ++ (pair_tests k m floor p q ++ situation (ltb (period m - 1) i) BeyondPeriod ∷ []))
  unfolding pointing judging pair_situations points_answer given unless
  pointing_unchanged i s = unless_both (λ a n. number_of (points_values a) ≡ n) (pointing m floor p q i) Err _ refusal_number 0 (λ r. refl) refl

-- and by pages.
pub paging_unchanged : (k : ℕ) (l : Selection) (p q : ℕ) (s : List ℕ) → number_of (page_values (page_answer (page_request l (After p q)) s))
    ≡ given (situation (not (lawful_degree l.degree)) WrongDegree ∷ situation (not (lawful_top l.top)) WrongDimension
    ∷ situation (not (lawful_floor l.floor)) WrongFloor ∷ pair_tests k l.degree l.floor p q ++ situation (ltb (length s) (row_width l)) ShortSlice ∷ [])
unfolding paging position_situations pair_situations page_answer given unless
paging_unchanged k l p q s =
    unless_both (λ a n. number_of (page_values a) ≡ n) (paging (page_request l (After p q)) s) Err _ refusal_number 0 (λ r. refl) refl

-- ---- what 5 carries

-- What an answer's refusal carries, by the values that it holds.
abbrev pub carried_of : List ℕ → ℕ
carried_of values = get_or values 1 0

-- An answer on the pair (p, q) of degree m, by its number and what is carried: 5 carries the largest degree among the partial quotients of this pair,
-- which is 2 at least and m at most; any other number, and 0, carries nothing.
pub record CarriesK (m p q number carried : ℕ) : Type 0 where
  pub largest : number ≡ 5 → LargestDegree p q carried
  pub bounds : number ≡ 5 → (2 ≤ carried) × (carried ≤ m)
  pub else_none : number ≢ 5 → carried ≡ 0

-- What is known where 5 decides.
record Five (m p q : ℕ) (r : Refusal) : Type 0 where
  carries : refusal_degree r ≡ quotient_degree p q
  is_well_formed : WellFormed m p q
  bad : 2 ≤ quotient_degree p q

-- Where p is primitive there is no common factor, so that K is 2 at least where the test of the quotients fails.
bad_quotient : (m p q : ℕ) → LawfulDegree m → WellFormed m p q → primitive m p ≡ true → linear_quotients p q ≡ false → 2 ≤ quotient_degree p q
bad_quotient m p q lawful w order fails =
    let o = (primitive_is m p (omega (arith, lawful.low))).0 order in
    let none = (no_common p q (positive w.degree_p)).1 (no_common_factor m p q lawful.low w o) in
    quotient_degree_other w none fails

-- 5 BY K: the table gives it just where the pair is well-formed, p is primitive and K is 2 at least.
pub table_five : (m floor p q : ℕ) → LawfulDegree m → PairRefused m floor p q 5 ↔ (WellFormed m p q × Primitive m p × (2 ≤ quotient_degree p q))
table_five m floor p q lawful = (λ (t : PairRefused m floor p q 5). to 5 t refl, from)
  where
    to : (n : ℕ) → PairRefused m floor p q n → n ≡ 5 → WellFormed m p q × Primitive m p × (2 ≤ quotient_degree p q)
    to n (pair_not_well_formed h) e = absurd (omega arith)
    to n (p_not_primitive w h) e = absurd (omega arith)
    to n (some_quotient_not_linear w o some) e =
        let fails = not-true _ ((some_quotient m p q lawful.low w o).1 some) in
        (w, o, bad_quotient m p q lawful w ((primitive_is m p (omega (arith, lawful.low))).1 o) fails)
    to n (step_not_coprime w o every s shared) e = absurd (omega arith)
    to n (step_below_floor w o every s coprime below) e = absurd (omega arith)

    from : WellFormed m p q × Primitive m p × (2 ≤ quotient_degree p q) → PairRefused m floor p q 5
    from h =
        let w = h.0 in
        let o = h.1 in
        let never : linear_quotients p q ≡ true → ⊥ = λ t. omega (arith, h.2, ((linear_degrees w).0 t).0) in
        let fails : not (linear_quotients p q) ≡ true = ap not (truth_false _ never) in
        some_quotient_not_linear w o ((some_quotient m p q lawful.low w o).0 fails)

module _ (m floor p q : ℕ) (lawful : LawfulDegree m) (rest : List Situation)
    (other : (r : Refusal) → Decides r rest → OfTable (refusal_number r) → ⊥) where
  five_decides : {r : Refusal} → Decides r (pair_situations m floor p q ++ rest) → refusal_number r ≡ 5 → Five m p q r
  unfolding pair_situations
  five_decides (here a) e = absurd (omega arith)
  five_decides (later a (here b)) e = absurd (omega arith)
  five_decides (later a (later b (here c))) e =
      let w = (well_formed_is m p q).0 (not-false _ a) in
      record { carries = refl; is_well_formed = w; bad = bad_quotient m p q lawful w (not-false _ b) (not-true _ c) }
  five_decides (later a (later b (later c (here d)))) e = absurd (omega arith)
  five_decides (later a (later b (later c (later d (here f))))) e = absurd (omega arith)
  five_decides (later a (later b (later c (later d (later f x))))) e = absurd (other _ x (inl (omega arith)))

-- Only 5 carries anything.
only_five : (r : Refusal) → refusal_number r ≢ 5 → refusal_degree r ≡ 0
only_five WrongDegree other = refl
only_five WrongDimension other = refl
only_five IllFormedPair other = refl
only_five NotPrimitive other = refl
only_five (QuotientNotLinear k) other = absurd (other refl)
only_five StepNotCoprime other = refl
only_five ShortSlice other = refl
only_five BeyondPeriod other = refl
only_five IllFormedCatalogue other = refl
only_five DegreeMissing other = refl
only_five StepBelowFloor other = refl
only_five WrongFloor other = refl
only_five NotAscending other = refl
only_five FileTooLong other = refl

-- So it is of an answer of any kind whose values begin with the refusal's number and what it carries, or with 0 and 0.
carries : {A : Type 0} (m p q : ℕ) (values : A → List ℕ) (l : List Situation) (refuse : Refusal → A) (value : A)
    → ((r : Refusal) → Decides r l → refusal_number r ≡ 5 → Five m p q r)
    → ((r : Refusal) → (number_of (values (refuse r)) ≡ refusal_number r) × (carried_of (values (refuse r)) ≡ refusal_degree r))
    → number_of (values value) ≡ 0 → carried_of (values value) ≡ 0
    → CarriesK m p q (number_of (values (unless l refuse value))) (carried_of (values (unless l refuse value)))
carries m p q values l refuse value five refused zero none = go (outcome l)
  where
    go : Outcome l → CarriesK m p q (number_of (values (unless l refuse value))) (carried_of (values (unless l refuse value)))
    go (is_refused {r = r} d) =
        let say = refused r in
        rw (unless_refused refuse value d, say.0, say.1) (record {
          largest = λ e. let f = five r d e in rw f.carries (quotient_degree_largest p q f.is_well_formed.nonzero);
          bounds = λ e. let f = five r d e in (omega (arith, f.carries, f.bad), omega (arith, f.carries, quotient_degree_most f.is_well_formed));
          else_none = only_five r;
        })
    go (is_given n) = rw (unless_given refuse value n, zero, none) (record {
      largest = λ e. absurd (omega arith);
      bounds = λ e. absurd (omega arith);
      else_none = λ e. refl;
    })

-- 5 CARRIES K: in judging,
module _ (m floor p q : ℕ) where
  judging_five : {r : Refusal} → Decides r (judging m floor p q) → refusal_number r ≡ 5 → Five m p q r
  unfolding judging pair_situations
  judging_five (here a) e = absurd (omega arith)
  judging_five (later a (here b)) e = absurd (omega arith)
  judging_five (later a (later b d)) e =
      five_decides m floor p q ((lawful_degree_is m).0 (not-false _ a)) [] (λ r x. absurd (decides_none x)) d e

  pub judging_carries : CarriesK m p q (number_of (judgement_values (judgement m floor p q))) (carried_of (judgement_values (judgement m floor p q)))
  unfolding judgement
  judging_carries = carries m p q judgement_values (judging m floor p q) Err _ (λ r. judging_five) (λ r. (refl, refl)) refl refl

  -- in points,
  module _ (i : ℕ) where
    pointing_five : {r : Refusal} → Decides r (pointing m floor p q i) → refusal_number r ≡ 5 → Five m p q r
    unfolding pointing judging pair_situations
    pointing_five (here a) e = absurd (omega arith)
    pointing_five (later a (here b)) e = absurd (omega arith)
    pointing_five (later a (later b d)) e =
        five_decides m floor p q ((lawful_degree_is m).0 (not-false _ a)) (situation (ltb (period m - 1) i) BeyondPeriod ∷ [])
        (λ r x. other_last _ BeyondPeriod (between_other 8 (omega arith) (omega arith)) x) d e

    pub pointing_carries : (s : List ℕ) → let values = points_values (points_answer m floor p q i s) in CarriesK m p q (number_of values) (carried_of values)
    unfolding points_answer
    pointing_carries s = carries m p q points_values (pointing m floor p q i) Err _ (λ r. pointing_five) (λ r. (refl, refl)) refl refl

-- and in pages after a pair;
module _ (l : Selection) (p q : ℕ) (s : List ℕ) where
  paging_five : {r : Refusal} → Decides r (paging (page_request l (After p q)) s) → refusal_number r ≡ 5 → Five l.degree p q r
  unfolding paging position_situations pair_situations
  paging_five (here a) e = absurd (omega arith)
  paging_five (later a (here b)) e = absurd (omega arith)
  paging_five (later a (later b (here c))) e = absurd (omega arith)
  paging_five (later a (later b (later c d))) e =
      five_decides l.degree l.floor p q ((lawful_degree_is l.degree).0 (not-false _ a)) (situation (ltb (length s) (row_width l)) ShortSlice ∷ [])
      (λ r x. other_last _ ShortSlice (between_other 7 (omega arith) (omega arith)) x) d e

  pub paging_carries : let values = page_values (page_answer (page_request l (After p q)) s) in CarriesK l.degree p q (number_of values) (carried_of values)
  unfolding page_answer
  paging_carries = carries l.degree p q page_values (paging (page_request l (After p q)) s) Err _ (λ r. paging_five) (λ r. (refl, refl)) refl refl

-- the first page is of no pair, and carries nothing.
pub paging_first_carries : (l : Selection) (s : List ℕ) → carried_of (page_values (page_answer (page_request l Start) s)) ≡ 0
unfolding page_answer paging position_situations
paging_first_carries l s = go (outcome (paging (page_request l Start) s))
  where
    none : {r : Refusal} → Decides r (paging (page_request l Start) s) → refusal_degree r ≡ 0
    none (here a) = refl
    none (later a (here b)) = refl
    none (later a (later b (here c))) = refl
    none (later a (later b (later c (here d)))) = refl
    none (later a (later b (later c (later d e)))) = absurd (decides_none e)

    go : Outcome (paging (page_request l Start) s) → carried_of (page_values (page_answer (page_request l Start) s)) ≡ 0
    go (is_refused d) = rw (unless_refused Err _ d) (none d)
    go (is_given n) = rw (unless_given Err _ n)
