-- The demands of the C functions: whatever struct and slices their contracts allow, the refusal's number is given exactly in its situation and 0
-- with the value, a refusal leaves the slice as it was, accepted is what demand 2 says, the t-value is the smallest, whoever walks the pages reads
-- the ranked list, points in pieces are the full period, and a file that was written is read back. Each result holds the values of the definition's
-- answer. Assumes nothing.
use Rattle.std.specs.Prelude.{◌≡◌, refl, ◌↔◌, true, List, ℕ, ◌≤◌, ◌<◌, Result, Ok, Err}
use Rattle.std.proofs.Math.Path.{ap}
use Rattle.std.proofs.Common.{ap₂, ◌∙◌, zero-mul, arith}
use Rattle.std.proofs.Math.ListN.{length}
use Rattle.definitions.specs.Number.{over}
use Rattle.definitions.specs.Answers.{judgement_values, quotient_test_values, uniformity_values, page_values, points_values, lookup_values, file_values}
use Rattle.definitions.specs.Generator.{lawful_degree, lawful_floor, period, quotient_degree, common_degree, step}
use Rattle.definitions.specs.Points.{words}
use Rattle.definitions.specs.Ranking.{lawful_top}
use Rattle.definitions.specs.Catalogue.{looking, lookup_numbers}
use Rattle.definitions.specs.Writing.{entries_of, ranked_file, writing, file_answer, file_buffer}
use Rattle.definitions.specs.Net.{t_value}
use Rattle.definitions.specs.Calls.{judging, judgement, testing, quotient_test, measuring, uniformity, counting, counted, paging, page_answer, page_slice}
use Rattle.definitions.specs.Calls.{pointing, points_answer, points_slice}
use Rattle.definitions.specs.declared.Position.{Position}
use Rattle.definitions.specs.declared.Position.TheVariants.{Start, After}
use Rattle.definitions.specs.declared.PageRequest.{PageRequest}
use Rattle.number_laws.specs.Bounds.{LawfulDegree, LawfulTop}
use Rattle.definitions.specs.declared.Lookup.{Lookup}
use Rattle.definitions.specs.declared.Refusal.{Refusal}
use Rattle.net_laws.specs.Smallest.{SmallestNet}
use Rattle.answer_laws.specs.Unless.{unless_given}
use Rattle.answer_laws.specs.Together.{answered_both}
use Rattle.answer_laws.specs.Lent.{page_answered, points_answered, file_answered}
use Rattle.answers.specs.Values.{value}
use Rattle.pair_results.specs.Results.{judgement_result, quotients_result}
use Rattle.figure_results.specs.Results.{t_value_result}
use Rattle.pair_results.specs.declared.FenyurkaJudgement.{FenyurkaJudgement}
use Rattle.pair_results.specs.declared.FenyurkaQuotients.{FenyurkaQuotients}
use Rattle.figure_results.specs.declared.FenyurkaTValue.{FenyurkaTValue}
use Rattle.slice_results.specs.Results.{page_result, points_result}
use Rattle.slice_results.specs.declared.FenyurkaPage.{FenyurkaPage}
use Rattle.slice_results.specs.declared.FenyurkaPoints.{FenyurkaPoints}
use Rattle.catalogue_results.specs.Results.{file_result}
use Rattle.catalogue_results.specs.declared.FenyurkaFile.{FenyurkaFile}
use Rattle.interface.specs.Requests.{list_of, page_of}
use Rattle.interface.specs.Located.{located_values, located_part}
use Rattle.interface.specs.declared.FenyurkaList.{FenyurkaList}
use Rattle.interface.proofs.fenyurka_judge.Reads as c-judge
use Rattle.interface.proofs.fenyurka_quotients.Reads as c-quotients
use Rattle.interface.proofs.fenyurka_t_value.Reads as c-t-value
use Rattle.interface.proofs.fenyurka_count_t_value.Reads as c-count-t-value
use Rattle.interface.proofs.fenyurka_first_page.Reads as c-first-page
use Rattle.interface.proofs.fenyurka_page_after.Reads as c-page-after
use Rattle.interface.proofs.fenyurka_points.Reads as c-points
use Rattle.interface.proofs.fenyurka_open.Reads as c-open
use Rattle.interface.proofs.fenyurka_lookup.Reads as c-lookup
use Rattle.interface.proofs.fenyurka_write.Reads as c-write
use Rattle.demands.specs.Arguments.{second, third, fourth, sixth}
use Rattle.demands.specs.Demand1.{Exact, LowestGiven, ByTable, number_of, form_situation, opening_exact, looking_exact, looking_lowest}
use Rattle.demands.specs.Demand1.{judging_exact, judging_table, measuring_exact, measuring_lowest, counting_exact, counting_lowest, paging_exact}
use Rattle.demands.specs.Demand1.{paging_after_table, pointing_exact, pointing_table}
use Rattle.demands.specs.Demand1.{testing_exact, testing_lowest, writing_exact, writing_lowest}
use Rattle.demands.specs.Quotients.{Tested, tested_exactly, CarriesK, judging_carries, pointing_carries, paging_carries, paging_first_carries}
use Rattle.demands.specs.Files.{WrittenFile, written_file}
use Rattle.demands.specs.Demand2.{Conditions, accepted_exactly, uniformity_smallest, period_written}
use Rattle.demands.specs.Engines.{counted_smallest}
use Rattle.demands.specs.Demand3.{Faithful, ReadsList, faithful_list}
use Rattle.demands.specs.Floors.{base_judging, base_pointing, base_paging, base_judging_lowest, base_pointing_lowest, base_paging_lowest}
use Rattle.demands.specs.Period.{FaithfulPoints, ReadsPeriod, faithful_period}

-- ---- a result that says 0 holds the value

module _ (m floor p q : ℕ) where
  judged_zero : number_of (judgement_values (judgement m floor p q)) ≡ 0 → judgement m floor p q ≡ Ok (step m p q)
  unfolding judgement
  judged_zero z = unless_given Err _ ((judging_exact m floor p q).none.0 z)

  judgement_accepts : (r : FenyurkaJudgement) → r ≡ judgement_result (judgement_values (judgement m floor p q)) → (σ : ℕ)
      → ((r.refusal ≡ 0) × (r.step ≡ σ)) ↔ Conditions m floor p q σ
  judgement_accepts r h σ = (to, from)
    where
      to : (r.refusal ≡ 0) × (r.step ≡ σ) → Conditions m floor p q σ
      to g =
          let accepted = judged_zero (rw h at g.0) in
          let same : step m p q ≡ σ = rw (h, accepted) at g.1 in
          (accepted_exactly m floor p q σ).0 (accepted ∙ ap Ok same)

      from : Conditions m floor p q σ → (r.refusal ≡ 0) × (r.step ≡ σ)
      from c = rw (h, (accepted_exactly m floor p q σ).1 c) (refl, refl)

module _ (m p q : ℕ) where
  tested_zero : number_of (quotient_test_values (quotient_test m p q)) ≡ 0 → quotient_test m p q ≡ Ok (record { quotient = quotient_degree p q; common = common_degree p q })
  unfolding quotient_test
  tested_zero z = unless_given Err _ ((testing_exact m p q).none.0 z)

  result_tested : (r : FenyurkaQuotients) → r ≡ quotients_result (quotient_test_values (quotient_test m p q)) → (k c : ℕ)
      → ((r.refusal ≡ 0) × (r.quotient_degree ≡ k) × (r.common_degree ≡ c)) ↔ Tested m p q k c
  result_tested r h k c = (to, from)
    where
      to : (r.refusal ≡ 0) × (r.quotient_degree ≡ k) × (r.common_degree ≡ c) → Tested m p q k c
      to g =
          let given = tested_zero (rw h at g.0) in
          let k-is : quotient_degree p q ≡ k = rw (h, given) at g.1 in
          let c-is : common_degree p q ≡ c = rw (h, given) at g.2 in
          (tested_exactly m p q k c).0 (given ∙ ap₂ (λ (a b : ℕ). Ok (record { quotient = a; common = b })) k-is c-is)

      from : Tested m p q k c → (r.refusal ≡ 0) × (r.quotient_degree ≡ k) × (r.common_degree ≡ c)
      from t = rw (h, (tested_exactly m p q k c).1 t) (refl, refl, refl)

  module _ (s : ℕ) where
    measured_zero : number_of (uniformity_values (uniformity m p q s)) ≡ 0 → uniformity m p q s ≡ Ok (t_value m p q s)
    unfolding uniformity
    measured_zero z = unless_given Err _ ((measuring_exact m p q s).none.0 z)

    result_smallest : (r : FenyurkaTValue) → r ≡ t_value_result (uniformity_values (uniformity m p q s)) → r.refusal ≡ 0 → SmallestNet m p q s r.t
    result_smallest r h z =
        let given = measured_zero (rw h at z) in
        let same : r.t ≡ t_value m p q s = rw (h, given) in
        rw same (uniformity_smallest m p q s (t_value m p q s) given)

    counted_zero : number_of (uniformity_values (counted m p q s)) ≡ 0 → counted m p q s ≡ Ok (t_value m p q s)
    unfolding counted
    counted_zero z = unless_given Err _ ((counting_exact m p q s).none.0 z)

    result_counted : (r : FenyurkaTValue) → r ≡ t_value_result (uniformity_values (counted m p q s)) → r.refusal ≡ 0 → SmallestNet m p q s r.t
    result_counted r h z =
        let given = counted_zero (rw h at z) in
        let same : r.t ≡ t_value m p q s = rw (h, given) in
        rw same (counted_smallest m p q s (t_value m p q s) given)

module _ (request : PageRequest) (s : List ℕ) (r : FenyurkaPage) (h : r ≡ page_result (page_values (page_answer request s))) where
  result_keeps : 0 < r.refusal → page_slice request s ≡ s
  result_keeps n =
      answered_both (page_answered request s) (λ a t. 0 < number_of (page_values a) → t ≡ s) (λ k i. refl) (λ i. absurd (omega arith)) (rw h at n)

points_result_keeps : (m floor p q first : ℕ) (s : List ℕ) (r : FenyurkaPoints) → r ≡ points_result (points_values (points_answer m floor p q first s))
    → 0 < r.refusal → points_slice m floor p q first s ≡ s
points_result_keeps m floor p q first s r h n =
    answered_both (points_answered m floor p q first s) (λ a t. 0 < number_of (points_values a) → t ≡ s) (λ k i. refl) (λ i. absurd (omega arith)) (rw h at n)

module _ (floor : ℕ) (entries s : List ℕ) (r : FenyurkaFile) (h : r ≡ file_result (file_values (file_answer floor entries s))) where
  file_result_keeps : 0 < r.refusal → file_buffer floor entries s ≡ s
  file_result_keeps n =
      answered_both (file_answered floor entries s) (λ a t. 0 < number_of (file_values a) → t ≡ s) (λ k i. refl) (λ i. absurd (omega arith)) (rw h at n)

  file_zero : r.refusal ≡ 0 → file_answer floor entries s ≡ Ok r.length
  unfolding file_answer
  file_zero z =
      let given = unless_given Err (Ok (length (ranked_file (entries_of floor entries)))) ((writing_exact floor entries s).none.0 (rw h at z)) in
      let same : length (ranked_file (entries_of floor entries)) ≡ r.length = rw (h, given) in
      given ∙ ap Ok same

-- ---- demands 1 and 2, call by call

module _ (κs : _) (m floor p q : ℕ) (r : _) (e : _) (h : c-judge.Post κs (m, (floor, (p, (q, tt)))) r e) where
  pub c_judge_exact : Exact (judging m floor p q) r.refusal
  c_judge_exact = rw h (judging_exact m floor p q)

  pub c_judge_lowest : floor ≤ 1 → LowestGiven (base_judging m p q) r.refusal
  c_judge_lowest low = rw h (base_judging_lowest m floor p q low)

  pub c_judge_table : LawfulDegree m → lawful_floor floor ≡ true → ByTable m floor p q r.refusal
  c_judge_table lawful low = rw h (judging_table m floor p q lawful low)

  pub c_judge_carries : CarriesK m p q r.refusal r.quotient_degree
  c_judge_carries = rw h (judging_carries m floor p q)

  pub c_judge_accepts : (σ : ℕ) → ((r.refusal ≡ 0) × (r.step ≡ σ)) ↔ Conditions m floor p q σ
  c_judge_accepts = judgement_accepts m floor p q r h

module _ (κs : _) (m p q : ℕ) (r : _) (e : _) (h : c-quotients.Post κs (m, (p, (q, tt))) r e) where
  pub c_quotients_exact : Exact (testing m p q) r.refusal
  c_quotients_exact = rw h (testing_exact m p q)

  pub c_quotients_lowest : LowestGiven (testing m p q) r.refusal
  c_quotients_lowest = rw h (testing_lowest m p q)

  pub c_quotients_tested : (k c : ℕ) → ((r.refusal ≡ 0) × (r.quotient_degree ≡ k) × (r.common_degree ≡ c)) ↔ Tested m p q k c
  c_quotients_tested = result_tested m p q r h

module _ (κs : _) (m p q s : ℕ) (r : _) (e : _) (h : c-t-value.Post κs (m, (p, (q, (s, tt)))) r e) where
  pub c_t_value_exact : Exact (measuring m p q s) r.refusal
  c_t_value_exact = rw h (measuring_exact m p q s)

  pub c_t_value_lowest : LowestGiven (measuring m p q s) r.refusal
  c_t_value_lowest = rw h (measuring_lowest m p q s)

  pub c_t_value_smallest : r.refusal ≡ 0 → SmallestNet m p q s r.t
  c_t_value_smallest = result_smallest m p q s r h

module _ (κs : _) (m p q s : ℕ) (r : _) (e : _) (h : c-count-t-value.Post κs (m, (p, (q, (s, tt)))) r e) where
  pub c_count_exact : Exact (counting m p q s) r.refusal
  c_count_exact = rw h (counting_exact m p q s)

  pub c_count_lowest : LowestGiven (counting m p q s) r.refusal
  c_count_lowest = rw h (counting_lowest m p q s)

  pub c_count_smallest : r.refusal ≡ 0 → SmallestNet m p q s r.t
  c_count_smallest = result_counted m p q s r h

module _ (κs : _) (list : FenyurkaList) (rows : _) (r : _) (e : _) (h : c-first-page.Post κs (list, (rows, tt)) r e) where
  pub c_first_page_exact : Exact (paging (page_of list Start) rows.now) r.refusal
  c_first_page_exact = rw h.0 (paging_exact (page_of list Start) rows.now)

  pub c_first_page_lowest : list.floor ≤ 1 → LowestGiven (base_paging (list_of list) Start rows.now) r.refusal
  c_first_page_lowest low = rw h.0 (base_paging_lowest (list_of list) list.floor low Start rows.now)

  pub c_first_page_carries : r.quotient_degree ≡ 0
  c_first_page_carries = rw h.0 (paging_first_carries (list_of list) rows.now)

  pub c_first_page_keeps : 0 < r.refusal → (second e).now ≡ rows.now
  c_first_page_keeps n = h.1 ∙ result_keeps (page_of list Start) rows.now r h.0 n

module _ (κs : _) (list : FenyurkaList) (p q : ℕ) (rows : _) (r : _) (e : _) (h : c-page-after.Post κs (list, (p, (q, (rows, tt)))) r e) where
  pub c_page_after_exact : Exact (paging (page_of list (After p q)) rows.now) r.refusal
  c_page_after_exact = rw h.0 (paging_exact (page_of list (After p q)) rows.now)

  pub c_page_after_lowest : list.floor ≤ 1 → LowestGiven (base_paging (list_of list) (After p q) rows.now) r.refusal
  c_page_after_lowest low = rw h.0 (base_paging_lowest (list_of list) list.floor low (After p q) rows.now)

  pub c_page_after_table : LawfulDegree list.degree → LawfulTop list.top → lawful_floor list.floor ≡ true
      → ByTable list.degree list.floor p q r.refusal
  c_page_after_table degree top low = rw h.0 (paging_after_table (list_of list) rows.now p q degree top low)

  pub c_page_after_carries : CarriesK list.degree p q r.refusal r.quotient_degree
  c_page_after_carries = rw h.0 (paging_carries (list_of list) p q rows.now)

  pub c_page_after_keeps : 0 < r.refusal → (fourth e).now ≡ rows.now
  c_page_after_keeps n = h.1 ∙ result_keeps (page_of list (After p q)) rows.now r h.0 n

module _ (κs : _) (m floor p q first : ℕ) (lent : _) (r : _) (e : _) (h : c-points.Post κs (m, (floor, (p, (q, (first, (lent, tt)))))) r e) where
  pub c_points_exact : Exact (pointing m floor p q first) r.refusal
  c_points_exact = rw h.0 (pointing_exact m floor p q first lent.now)

  pub c_points_lowest : floor ≤ 1 → LowestGiven (base_pointing m p q first) r.refusal
  c_points_lowest low = rw h.0 (base_pointing_lowest m floor p q low first lent.now)

  pub c_points_table : LawfulDegree m → lawful_floor floor ≡ true → ByTable m floor p q r.refusal
  c_points_table lawful low = rw h.0 (pointing_table m floor p q first lent.now lawful low)

  pub c_points_carries : CarriesK m p q r.refusal r.quotient_degree
  c_points_carries = rw h.0 (pointing_carries m floor p q first lent.now)

  pub c_points_keep : 0 < r.refusal → (sixth e).now ≡ lent.now
  c_points_keep n = h.1 ∙ points_result_keeps m floor p q first lent.now r h.0 n

-- A pair that judging accepts, from the first word on, into a slice that is long enough.
module _ (κs : _) (m floor p q : ℕ) (lent : _) (r : _) (e : _) (h : c-points.Post κs (m, (floor, (p, (q, (0, (lent, tt)))))) r e) where
  pub c_points_full : (σ : ℕ) → Conditions m floor p q σ → period m ≤ length lent.now → (sixth e).now ≡ over 0 (words p q 0 (period m)) lent.now
  c_points_full σ c l = h.1 ∙ period_written m floor p q σ c lent.now l

pub c_open_exact : (κs : _) (file : _) (r : _) (e : _) → c-open.Post κs (file, tt) r e → Exact (form_situation file.now) r.refusal
c_open_exact κs file r e h = rw h (opening_exact file.now)

pub c_lookup_exact : (κs : _) (file : _) (m : ℕ) (r : _) (e : _) → c-lookup.Post κs (file, (m, tt)) r e → Exact (looking file.now m) r.refusal
c_lookup_exact κs file m r e h = rw (h, (located_values file.now m).refusal) (looking_exact file.now m)

pub c_lookup_lowest : (κs : _) (file : _) (m : ℕ) (r : _) (e : _) → c-lookup.Post κs (file, (m, tt)) r e → LowestGiven (looking file.now m) r.refusal
c_lookup_lowest κs file m r e h = rw (h, (located_values file.now m).refusal) (looking_lowest file.now m)

-- The part is empty where the lookup is refused.
pub c_lookup_empty : (κs : _) (file : _) (m : ℕ) (r : _) (e : _) → c-lookup.Post κs (file, (m, tt)) r e → 0 < r.refusal → r.length ≡ 0
c_lookup_empty κs file m r e h n =
    let given = located_values file.now m in
    rw (h, (located_part file.now m).whole, given.rows, no_rows (lookup_numbers file.now m) (rw (h, given.refusal) at n), zero-mul)
  where
    no_rows : (k : Result Lookup Refusal) → 0 < value (lookup_values k) 0 → value (lookup_values k) 3 ≡ 0
    no_rows (Ok numbers) some = absurd (omega arith)
    no_rows (Err refusal) some = refl

module _ (κs : _) (floor : ℕ) (entries lent : _) (r : _) (e : _) (h : c-write.Post κs (floor, (entries, (lent, tt))) r e) where
  pub c_write_exact : Exact (writing floor entries.now lent.now) r.refusal
  c_write_exact = rw h.0 (writing_exact floor entries.now lent.now)

  pub c_write_lowest : LowestGiven (writing floor entries.now lent.now) r.refusal
  c_write_lowest = rw h.0 (writing_lowest floor entries.now lent.now)

  pub c_write_keeps : 0 < r.refusal → (third e).now ≡ lent.now
  c_write_keeps n = h.1 ∙ file_result_keeps floor entries.now lent.now r h.0 n

  -- ROUND TRIP from C.
  pub c_write_reads_back : r.refusal ≡ 0 → WrittenFile floor entries.now lent.now r.length (third e).now
  c_write_reads_back z = rw h.1 (written_file floor entries.now lent.now r.length (file_zero floor entries.now lent.now r h.0 z))

-- ---- demand 3, the walk of pages

-- Asked by the two functions for pages, their contracts being met: what the struct holds, and the slice at exit.
pub data AskedFromC (list : FenyurkaList) : Position → List ℕ → ℕ → ℕ → ℕ → List ℕ → Type 0 where
  asked_first : (κs : _) (rows : _) (r : _) (e : _) → c-first-page.Post κs (list, (rows, tt)) r e
      → AskedFromC list Start rows.now r.refusal r.count r.more (second e).now
  asked_after : (κs : _) (p q : ℕ) (rows : _) (r : _) (e : _) → c-page-after.Post κs (list, (p, (q, (rows, tt)))) r e
      → AskedFromC list (After p q) rows.now r.refusal r.count r.more (fourth e).now

-- What a result holds.
abbrev page_refusal : FenyurkaPage → ℕ
page_refusal z = z.refusal

abbrev page_count : FenyurkaPage → ℕ
page_count z = z.count

abbrev page_more : FenyurkaPage → ℕ
page_more z = z.more

module _ (list : FenyurkaList) where
  c_faithful : Faithful (list_of list) (AskedFromC list)
  c_faithful at s x n more left (asked_first κs rows r e h) =
      record { refusal_is = ap page_refusal h.0; count_is = ap page_count h.0; more_is = ap page_more h.0; slice_is = h.1 }
  c_faithful at s x n more left (asked_after κs p q rows r e h) =
      record { refusal_is = ap page_refusal h.0; count_is = ap page_count h.0; more_is = ap page_more h.0; slice_is = h.1 }

  -- READ FROM C.
  pub c_page_reads_list : lawful_degree list.degree ≡ true → lawful_top list.top ≡ true → lawful_floor list.floor ≡ true
      → ReadsList (list_of list) (AskedFromC list)
  c_page_reads_list degree dimension floor = faithful_list (list_of list) degree dimension floor c_faithful

-- ---- demand 2, points in pieces

-- Asked by the function for points, its contract being met.
pub data PointsFromC (m floor p q : ℕ) : ℕ → List ℕ → ℕ → ℕ → List ℕ → Type 0 where
  asked_points : {first : ℕ} (κs : _) (lent : _) (r : _) (e : _) → c-points.Post κs (m, (floor, (p, (q, (first, (lent, tt)))))) r e
      → PointsFromC m floor p q first lent.now r.refusal r.count (sixth e).now

c_points_faithful : (m floor p q : ℕ) → FaithfulPoints m floor p q (PointsFromC m floor p q)
c_points_faithful m floor p q first s x n left (asked_points κs lent r e h) =
    record { refusal_is = ap (λ (z : FenyurkaPoints). z.refusal) h.0; count_is = ap (λ (z : FenyurkaPoints). z.count) h.0; slice_is = h.1 }

-- READ FROM C.
pub c_points_reads_period : (m floor p q σ : ℕ) → Conditions m floor p q σ → ReadsPeriod m p q (PointsFromC m floor p q)
c_points_reads_period m floor p q σ c = faithful_period m floor p q σ c (c_points_faithful m floor p q)
