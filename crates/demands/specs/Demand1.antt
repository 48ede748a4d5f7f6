-- Demand 1. For every public call and every input: the refusal numbers that a call can give are the listed ones; number n is given exactly when
-- situation n applies and none listed before it does; the value is given exactly when none applies; a refusing call changes no lent slice.
-- The order is the one in which a call lists its numbers; where these ascend it is the lowest number that is given. Each situation is shown as the
-- documents' table has it: as the definition's tests, and for a pair (3 to 6, 11) in the table's words. Assumes nothing.
use Rattle.std.proofs.Math.Path.{◌≡◌, refl}
use Rattle.std.proofs.Common.{ap, inl, inr, arith}
use Rattle.std.specs.Prelude.{◌↔◌, Bool, false, ℕ, ◌-◌, ◌<◌, eqb, ltb, length, get_or, Err}
use Rattle.std.proofs.Math.Bool.{true, not}
use mathlib.Core.List.{List, [], ◌∷◌, ◌++◌, map, Memᴰ}
use Rattle.definitions.specs.Answers.{Situation, situation, refusal_number, unless, judgement_values, uniformity_values, page_values, points_values, opening_values}
use Rattle.definitions.specs.Answers.{quotient_test_values, gap_sum_values, lookup_values, file_values}
use Rattle.definitions.specs.Generator.{lawful_degree, lawful_floor, well_formed, period, primitive, linear_quotients, coprime_step, reaches_floor}
use Rattle.definitions.specs.Ranking.{lawful_top, lawful_dimension, row_width}
use Rattle.definitions.specs.Calls.{testing, quotient_test, counted_degree, counting, counted, resolving, gap_sum}
use Rattle.definitions.specs.Calls.{pair_situations, judging, judgement, measuring, uniformity, selection_of, page_request, position_situations, paging, page_answer}
use Rattle.definitions.specs.Calls.{page_slice, pointing, points_answer, points_slice}
use Rattle.definitions.specs.Catalogue.{catalogue_form, opening, entry_of, looking, lookup_numbers, lookup_part, reader_top, reader_gaps}
use Rattle.definitions.specs.Writing.{entries_of, ranked_file, lawful_degrees, lawful_tops, ascending, entering, writing, file_answer, file_buffer}
use Rattle.definitions.specs.declared.Refusal.{Refusal}
use Rattle.definitions.specs.declared.Refusal.TheVariants.{WrongDegree, WrongDimension, WrongFloor, ShortSlice, BeyondPeriod}
use Rattle.definitions.specs.declared.Refusal.TheVariants.{IllFormedCatalogue}
use Rattle.definitions.specs.declared.Selection.{Selection}
use Rattle.definitions.specs.declared.Position.{Position}
use Rattle.definitions.specs.declared.Position.TheVariants.{Start, After}
use Rattle.definitions.specs.declared.PageRequest.{PageRequest}
use Rattle.number_laws.specs.Bounds.{LawfulDegree, LawfulTop, lawful_degree_is, lawful_top_is}
use Rattle.answer_laws.specs.Unless.{Decides, here, later, NoneApplies, passes, at_end, decides_behind, decides_rest, decides_none}
use Rattle.answer_laws.specs.Unless.{unless_both, unless_refused, told_refused}
use Rattle.answer_laws.specs.Lent.{page_keeps, points_keep, file_keeps}
use Rattle.demands.specs.Situations.{applies, numbers_of, distinct, told_apart, ascend, given, FirstToApply, Lowest, given_exactly, given_none}
use Rattle.demands.specs.Situations.{given_listed, first_is_lowest, first_decided}
use Rattle.demands.specs.PairTable.{PairRefused, OfTable, pair_table}

-- The number of an answer, by the values that it holds: that of its refusal, 0 where it has none.
abbrev pub number_of : List ℕ → ℕ
number_of values = get_or values 0 0

-- An answer's number follows the situations: n is given exactly in its situation, 0 exactly where none applies, and only listed numbers are given.
pub record Exact (l : List Situation) (number : ℕ) : Type 0 where
  pub each : (n : ℕ) → 0 < n → (number ≡ n) ↔ FirstToApply l n
  pub none : (number ≡ 0) ↔ NoneApplies l
  pub only : 0 < number → Memᴰ number (numbers_of l)

-- Where several situations apply, the lowest number is given.
pub record LowestGiven (l : List Situation) (number : ℕ) : Type 0 where
  pub each : (n : ℕ) → 0 < n → (number ≡ n) ↔ Lowest l n

-- So it is of an answer of any kind whose values begin with the refusal's number, or 0.
pub exact : {A : Type 0} (values : A → List ℕ) (l : List Situation) (refuse : Refusal → A) (value : A) → told_apart l ≡ true
    → ((r : Refusal) → number_of (values (refuse r)) ≡ refusal_number r) → number_of (values value) ≡ 0 → Exact l (number_of (values (unless l refuse value)))
unfolding given
exact values l refuse value apart refused zero =
    rw same (record { each = given_exactly l apart; none = given_none l apart; only = given_listed l apart })
  where
    same : number_of (values (unless l refuse value)) ≡ given l
    same = unless_both (λ a n. number_of (values a) ≡ n) l refuse value refusal_number 0 refused zero

pub lowest : {l : List Situation} {number : ℕ} → Exact l number → ascend 0 (numbers_of l) ≡ true → LowestGiven l number
lowest {l} {number} x a = record {
  each = λ n h. (
    λ (e : number ≡ n). (first_is_lowest l a n).0 ((x.each n h).0 e),
    λ (w : Lowest l n). (x.each n h).1 ((first_is_lowest l a n).1 w),
  );
}

-- The number is one of 3 to 6 or 11 just as the table says of the pair at the floor.
abbrev pub ByTable : ℕ → ℕ → ℕ → ℕ → ℕ → Type 0
ByTable m floor p q number = (n : ℕ) → 0 < n → OfTable n → (number ≡ n) ↔ PairRefused m floor p q n

-- So it is where the pair's situations stand behind others that do not apply, and before others of which the table does not speak.
by_table : (m floor p q : ℕ) (front rest : List Situation) {number : ℕ} → LawfulDegree m → Exact (front ++ (pair_situations m floor p q ++ rest)) number
    → told_apart (front ++ (pair_situations m floor p q ++ rest)) ≡ true → NoneApplies front
    → ((r : Refusal) → Decides r rest → OfTable (refusal_number r) → ⊥) → ByTable m floor p q number
by_table m floor p q front rest {number} lawful x apart none other n h k =
    let table = pair_table m floor p q lawful rest other n k in
    let first = first_decided (front ++ (pair_situations m floor p q ++ rest)) apart n in (
      λ (e : number ≡ n). let d = first.0 ((x.each n h).0 e) in table.0 (d.0, decides_rest none d.1, d.2),
      λ (t : PairRefused m floor p q n). let d = table.1 t in (x.each n h).1 (first.1 (d.0, decides_behind none d.1, d.2)),
    )

-- One situation behind them of which the table does not speak.
pub other_last : (b : Bool) (k : Refusal) → (OfTable (refusal_number k) → ⊥) → {r : Refusal} → Decides r (situation b k ∷ []) → OfTable (refusal_number r) → ⊥
other_last b k h (here e) = h
other_last b k h (later e d) = absurd (decides_none d)

pub between_other : (n : ℕ) → 6 < n → n < 11 → OfTable n → ⊥
between_other n l h (inl k) = omega arith
between_other n l h (inr e) = omega arith

-- ---- judging

module _ (m floor p q : ℕ) where
  pub judging_uses : numbers_of (judging m floor p q) ≡ 1 ∷ 12 ∷ 3 ∷ 4 ∷ 5 ∷ 6 ∷ 11 ∷ []
  unfolding judging pair_situations
  judging_uses = refl

  pub judging_exact : Exact (judging m floor p q) (number_of (judgement_values (judgement m floor p q)))
  unfolding judging pair_situations judgement
  judging_exact = exact judgement_values (judging m floor p q) Err _ refl (λ r. refl) refl

  pub judging_table : LawfulDegree m → lawful_floor floor ≡ true → ByTable m floor p q (number_of (judgement_values (judgement m floor p q)))
  unfolding judging pair_situations
  judging_table lawful low =
      by_table m floor p q (situation (not (lawful_degree m)) WrongDegree ∷ situation (not (lawful_floor floor)) WrongFloor ∷ []) [] lawful judging_exact refl
      (passes (ap not ((lawful_degree_is m).1 lawful)) (passes (ap not low) at_end)) (λ r d. absurd (decides_none d))

  pub judging_situations : map (applies (judging m floor p q)) (1 ∷ 12 ∷ 3 ∷ 4 ∷ 5 ∷ 6 ∷ 11 ∷ [])
      ≡ not (lawful_degree m) ∷ not (lawful_floor floor) ∷ not (well_formed m p q) ∷ not (primitive m p) ∷ not (linear_quotients p q)
      ∷ not (coprime_step m p q) ∷ not (reaches_floor m floor p q) ∷ []
  unfolding judging pair_situations applies
  judging_situations = refl

-- ---- the quotient test

module _ (m p q : ℕ) where
  pub testing_uses : numbers_of (testing m p q) ≡ 1 ∷ 3 ∷ []
  unfolding testing
  testing_uses = refl

  pub testing_exact : Exact (testing m p q) (number_of (quotient_test_values (quotient_test m p q)))
  unfolding testing quotient_test
  testing_exact = exact quotient_test_values (testing m p q) Err _ refl (λ r. refl) refl

  pub testing_lowest : LowestGiven (testing m p q) (number_of (quotient_test_values (quotient_test m p q)))
  unfolding testing
  testing_lowest = lowest testing_exact refl

  pub testing_situations : map (applies (testing m p q)) (1 ∷ 3 ∷ []) ≡ not (lawful_degree m) ∷ not (well_formed m p q) ∷ []
  unfolding testing applies
  testing_situations = refl

-- ---- a single t-value

module _ (m p q s : ℕ) where
  pub measuring_uses : numbers_of (measuring m p q s) ≡ 1 ∷ 2 ∷ 3 ∷ []
  unfolding measuring
  measuring_uses = refl

  pub measuring_exact : Exact (measuring m p q s) (number_of (uniformity_values (uniformity m p q s)))
  unfolding measuring uniformity
  measuring_exact = exact uniformity_values (measuring m p q s) Err _ refl (λ r. refl) refl

  pub measuring_lowest : LowestGiven (measuring m p q s) (number_of (uniformity_values (uniformity m p q s)))
  unfolding measuring
  measuring_lowest = lowest measuring_exact refl

  pub measuring_situations : map (applies (measuring m p q s)) (1 ∷ 2 ∷ 3 ∷ []) ≡ not (lawful_degree m) ∷ not (lawful_dimension s) ∷ not (well_formed m p q) ∷ []
  unfolding measuring applies
  measuring_situations = refl

-- ---- the same by the plain counter

module _ (m p q s : ℕ) where
  pub counting_uses : numbers_of (counting m p q s) ≡ 1 ∷ 2 ∷ 3 ∷ []
  unfolding counting
  counting_uses = refl

  pub counting_exact : Exact (counting m p q s) (number_of (uniformity_values (counted m p q s)))
  unfolding counting counted
  counting_exact = exact uniformity_values (counting m p q s) Err _ refl (λ r. refl) refl

  pub counting_lowest : LowestGiven (counting m p q s) (number_of (uniformity_values (counted m p q s)))
  unfolding counting
  counting_lowest = lowest counting_exact refl

  pub counting_situations : map (applies (counting m p q s)) (1 ∷ 2 ∷ 3 ∷ []) ≡ not (counted_degree m) ∷ not (lawful_dimension s) ∷ not (well_formed m p q) ∷ []
  unfolding counting applies
  counting_situations = refl

-- ---- the sum of resolution gaps

module _ (m p q : ℕ) where
  pub resolving_uses : numbers_of (resolving m p q) ≡ 1 ∷ 3 ∷ []
  unfolding resolving
  resolving_uses = refl

  pub resolving_exact : Exact (resolving m p q) (number_of (gap_sum_values (gap_sum m p q)))
  unfolding resolving gap_sum
  resolving_exact = exact gap_sum_values (resolving m p q) Err _ refl (λ r. refl) refl

  pub resolving_lowest : LowestGiven (resolving m p q) (number_of (gap_sum_values (gap_sum m p q)))
  unfolding resolving
  resolving_lowest = lowest resolving_exact refl

  pub resolving_situations : map (applies (resolving m p q)) (1 ∷ 3 ∷ []) ≡ not (lawful_degree m) ∷ not (well_formed m p q) ∷ []
  unfolding resolving applies
  resolving_situations = refl

-- ---- a page, at the start and after a pair

module _ (l : Selection) (s : List ℕ) where
  pub paging_first_uses : numbers_of (paging (page_request l Start) s) ≡ 1 ∷ 2 ∷ 12 ∷ 7 ∷ []
  unfolding paging position_situations
  paging_first_uses = refl

  pub paging_first_situations : map (applies (paging (page_request l Start) s)) (1 ∷ 2 ∷ 12 ∷ 7 ∷ [])
      ≡ not (lawful_degree l.degree) ∷ not (lawful_top l.top) ∷ not (lawful_floor l.floor) ∷ ltb (length s) (row_width l) ∷ []
  unfolding paging position_situations applies
  paging_first_situations = refl

  pub paging_after_uses : (p q : ℕ) → numbers_of (paging (page_request l (After p q)) s) ≡ 1 ∷ 2 ∷ 12 ∷ 3 ∷ 4 ∷ 5 ∷ 6 ∷ 11 ∷ 7 ∷ []
  unfolding paging position_situations pair_situations
  paging_after_uses p q = refl

  pub paging_after_situations : (p q : ℕ) → map (applies (paging (page_request l (After p q)) s)) (1 ∷ 2 ∷ 12 ∷ 3 ∷ 4 ∷ 5 ∷ 6 ∷ 11 ∷ 7 ∷ [])
      ≡ not (lawful_degree l.degree) ∷ not (lawful_top l.top) ∷ not (lawful_floor l.floor) ∷ not (well_formed l.degree p q)
      ∷ not (primitive l.degree p) ∷ not (linear_quotients p q) ∷ not (coprime_step l.degree p q) ∷ not (reaches_floor l.degree l.floor p q)
      ∷ ltb (length s) (row_width l) ∷ []
  unfolding paging position_situations pair_situations applies
  paging_after_situations p q = refl

module _ (r : PageRequest) (s : List ℕ) where
  -- One of the two lists of numbers, as the position is.
  paging_numbers : (test : List ℕ → Bool) → test (1 ∷ 2 ∷ 12 ∷ 7 ∷ []) ≡ true → test (1 ∷ 2 ∷ 12 ∷ 3 ∷ 4 ∷ 5 ∷ 6 ∷ 11 ∷ 7 ∷ []) ≡ true
      → test (numbers_of (paging r s)) ≡ true
  unfolding paging position_situations pair_situations
  paging_numbers test first after = go r.position
    where
      go : (at : Position) → test (numbers_of (paging (page_request (selection_of r) at) s)) ≡ true
      go Start = first
      go (After p q) = after

  pub paging_exact : Exact (paging r s) (number_of (page_values (page_answer r s)))
  unfolding page_answer
  paging_exact = exact page_values (paging r s) Err _ (paging_numbers (λ l. distinct (0 ∷ l)) refl refl) (λ n. refl) refl

  pub paging_keeps : (n : Refusal) → page_answer r s ≡ Err n → page_slice r s ≡ s
  paging_keeps n = page_keeps r s

module _ (l : Selection) (s : List ℕ) (p q : ℕ) where
  pub paging_after_table : LawfulDegree l.degree → LawfulTop l.top → lawful_floor l.floor ≡ true
      → ByTable l.degree l.floor p q (number_of (page_values (page_answer (page_request l (After p q)) s)))
  unfolding paging position_situations pair_situations
  paging_after_table degree top low =
      by_table l.degree l.floor p q
      (situation (not (lawful_degree l.degree)) WrongDegree ∷ situation (not (lawful_top l.top)) WrongDimension
      ∷ situation (not (lawful_floor l.floor)) WrongFloor ∷ [])
      (situation (ltb (length s) (row_width l)) ShortSlice ∷ []) degree (paging_exact (page_request l (After p q)) s) refl
      (passes (ap not ((lawful_degree_is l.degree).1 degree)) (passes (ap not ((lawful_top_is l.top).1 top)) (passes (ap not low) at_end)))
      (λ r d. other_last _ ShortSlice (between_other 7 (omega arith) (omega arith)) d)

-- ---- points

module _ (m floor p q i : ℕ) where
  pub pointing_uses : numbers_of (pointing m floor p q i) ≡ 1 ∷ 12 ∷ 3 ∷ 4 ∷ 5 ∷ 6 ∷ 11 ∷ 8 ∷ []
  unfolding pointing judging pair_situations
  pointing_uses = refl

  pub pointing_situations : map (applies (pointing m floor p q i)) (1 ∷ 12 ∷ 3 ∷ 4 ∷ 5 ∷ 6 ∷ 11 ∷ 8 ∷ [])
      ≡ not (lawful_degree m) ∷ not (lawful_floor floor) ∷ not (well_formed m p q) ∷ not (primitive m p) ∷ not (linear_quotients p q)
      ∷ not (coprime_step m p q) ∷ not (reaches_floor m floor p q) ∷ ltb (period m - 1) i ∷ []
  unfolding pointing judging pair_situations applies
  pointing_situations = refl

  module _ (s : List ℕ) where
    pub pointing_exact : Exact (pointing m floor p q i) (number_of (points_values (points_answer m floor p q i s)))
    unfolding pointing judging pair_situations points_answer
    pointing_exact = exact points_values (pointing m floor p q i) Err _ refl (λ r. refl) refl

    pub pointing_table : LawfulDegree m → lawful_floor floor ≡ true → ByTable m floor p q (number_of (points_values (points_answer m floor p q i s)))
    unfolding pointing judging pair_situations
    pointing_table lawful low =
        by_table m floor p q (situation (not (lawful_degree m)) WrongDegree ∷ situation (not (lawful_floor floor)) WrongFloor ∷ [])
        (situation (ltb (period m - 1) i) BeyondPeriod ∷ []) lawful pointing_exact refl
        (passes (ap not ((lawful_degree_is m).1 lawful)) (passes (ap not low) at_end)) (λ r d. other_last _ BeyondPeriod (between_other 8 (omega arith) (omega arith)) d)

    pub pointing_keeps : (n : Refusal) → points_answer m floor p q i s ≡ Err n → points_slice m floor p q i s ≡ s
    pointing_keeps n = points_keep m floor p q i s

-- ---- the catalogue

-- Opening has one situation: 9.
abbrev pub form_situation : List ℕ → List Situation
form_situation s = situation (not (catalogue_form s)) IllFormedCatalogue ∷ []

pub opening_exact : (s : List ℕ) → Exact (form_situation s) (number_of (opening_values (opening s)))
unfolding opening
opening_exact s = exact opening_values (form_situation s) Err _ refl (λ r. refl) refl

module _ (s : List ℕ) (m : ℕ) where
  pub looking_uses : numbers_of (looking s m) ≡ 1 ∷ 9 ∷ 10 ∷ []
  unfolding looking
  looking_uses = refl

  pub looking_exact : Exact (looking s m) (number_of (lookup_values (lookup_numbers s m)))
  unfolding looking lookup_numbers
  looking_exact = exact lookup_values (looking s m) Err _ refl (λ r. refl) refl

  pub looking_lowest : LowestGiven (looking s m) (number_of (lookup_values (lookup_numbers s m)))
  unfolding looking
  looking_lowest = lowest looking_exact refl

  pub looking_situations : map (applies (looking s m)) (1 ∷ 9 ∷ 10 ∷ []) ≡ not (lawful_degree m) ∷ not (catalogue_form s) ∷ eqb (entry_of s m) 0 ∷ []
  unfolding looking applies
  looking_situations = refl

  -- Refused, the part is empty, and a reader has no rows and T = 0.
  pub looking_empty : (n : Refusal) → lookup_numbers s m ≡ Err n → (lookup_part s m ≡ []) × (reader_top s m ≡ 0) × (reader_gaps s m ≡ false)
  unfolding lookup_numbers lookup_part reader_top reader_gaps
  looking_empty n e =
      let t = told_refused (looking s m) e (λ d. let z : ◌≡◌ {A = ℕ} 0 1 = cc in omega arith) in (
        unless_refused (λ (k : Refusal). []) _ t.1,
        unless_refused (λ (k : Refusal). 0) _ t.1,
        unless_refused (λ (k : Refusal). false) _ t.1,
      )

-- ---- writing a catalogue: the floor, its entries e, the buffer s

module _ (floor : ℕ) (e s : List ℕ) where
  pub writing_uses : numbers_of (writing floor e s) ≡ 1 ∷ 2 ∷ 12 ∷ 13 ∷ 14 ∷ []
  unfolding writing entering
  writing_uses = refl

  pub writing_exact : Exact (writing floor e s) (number_of (file_values (file_answer floor e s)))
  unfolding writing entering file_answer
  writing_exact = exact file_values (writing floor e s) Err _ refl (λ r. refl) refl

  pub writing_lowest : LowestGiven (writing floor e s) (number_of (file_values (file_answer floor e s)))
  unfolding writing entering
  writing_lowest = lowest writing_exact refl

  pub writing_situations : map (applies (writing floor e s)) (1 ∷ 2 ∷ 12 ∷ 13 ∷ 14 ∷ [])
      ≡ not (lawful_degrees (entries_of floor e)) ∷ not (lawful_tops (entries_of floor e)) ∷ not (lawful_floor floor) ∷ not (ascending (entries_of floor e))
      ∷ ltb (length s) (length (ranked_file (entries_of floor e))) ∷ []
  unfolding writing entering applies
  writing_situations = refl

  pub writing_keeps : (n : Refusal) → file_answer floor e s ≡ Err n → file_buffer floor e s ≡ s
  writing_keeps n = file_keeps floor e s
