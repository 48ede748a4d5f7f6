-- The demands of the calls themselves: whatever result and slices a call's contract allows, demands 1 to 3 hold of them. `Post` is what the
-- toolchain makes of the source's `ensures`: a claim of the lifetimes, the arguments as a chain of pairs, the result r and the arguments at exit e.
-- Each contract says that the result, and the slice at exit, are the definition's, so what is proved of that holds. Assumes nothing.
use Rattle.std.specs.Prelude.{◌≡◌, ◌↔◌, true, ℕ, ◌-◌, ◌≤◌, max, length, Ok, Err}
use Rattle.std.proofs.Common.{sym, ◌∙◌}
use mathlib.Core.List.{List, [], Memᴰ}
use base.Logic.{ent}
use contract.Monad.{fact, fact_mono}
use borrow.Fn.World.{World, ArgsD}
use Rattle.definitions.specs.Number.{over}
use Rattle.definitions.specs.Answers.{judgement_values, quotient_test_values, uniformity_values, page_values, points_values, opening_values, lookup_values}
use Rattle.definitions.specs.Answers.{file_values}
use Rattle.definitions.specs.Generator.{lawful_degree, lawful_floor, period, tree}
use Rattle.definitions.specs.Points.{words}
use Rattle.definitions.specs.Ranking.{lawful_top}
use Rattle.definitions.specs.Calls.{judging, testing, measuring, counting, selection_of, page_request, paging, pointing}
use Rattle.definitions.specs.Catalogue.{looking, lookup_numbers}
use Rattle.definitions.specs.Writing.{writing}
use Rattle.definitions.specs.declared.Refusal.{Refusal}
use Rattle.definitions.specs.declared.Selection.{Selection}
use Rattle.definitions.specs.declared.PageRequest.{PageRequest}
use Rattle.definitions.specs.declared.Position.{Position}
use Rattle.definitions.specs.declared.Position.TheVariants.{Start, After}
use Rattle.net_laws.specs.Smallest.{SmallestNet}
use Rattle.number_laws.specs.Bounds.{LawfulDegree, LawfulTop}
use Rattle.answers.specs.Values.{value}
use Rattle.demands.specs.Arguments.{second, third, sixth}
use Rattle.demands.specs.Demand1.{Exact, LowestGiven, number_of, form_situation, opening_exact, looking_empty, looking_exact, looking_lowest}
use Rattle.demands.specs.Demand1.{ByTable, judging_table, paging_after_table, pointing_table}
use Rattle.demands.specs.Demand1.{judging_exact, testing_exact, testing_lowest, measuring_exact, measuring_lowest}
use Rattle.demands.specs.Demand1.{counting_exact, counting_lowest, paging_exact, paging_keeps, pointing_exact, pointing_keeps}
use Rattle.demands.specs.Demand1.{writing_exact, writing_lowest, writing_keeps}
use Rattle.demands.specs.Quotients.{Tested, tested_exactly, tree_tested, plane_tested, CarriesK, carried_of, judging_carries, pointing_carries}
use Rattle.demands.specs.Quotients.{paging_carries, paging_first_carries}
use Rattle.demands.specs.Catalogues.{reading_exact}
use Rattle.demands.specs.Files.{WrittenFile, written_file}
use Rattle.demands.specs.Demand2.{Conditions, accepted_exactly, uniformity_smallest, period_written}
use Rattle.demands.specs.Engines.{counted_smallest}
use Rattle.demands.specs.Demand3.{Faithful, ReadsList, faithful_list}
use Rattle.demands.specs.Floors.{base_judging, base_pointing, base_paging, base_judging_lowest, base_pointing_lowest, base_paging_lowest}
use Rattle.demands.specs.Period.{FaithfulPoints, ReadsPeriod, faithful_period}
use Rattle.generator.proofs.judge.Reads as judge
use Rattle.quotient_test.proofs.test_quotients.Reads as test-quotients
use Rattle.net.proofs.t_value.Reads as t-value
use Rattle.counter.proofs.count_t_value.Reads as count-t-value
use Rattle.ranking.proofs.page.Reads as page
use Rattle.points.proofs.points.Reads as points
use Rattle.catalogue.proofs.«open».Reads as opened
use Rattle.catalogue.proofs.lookup.Reads as lookup
use Rattle.catalogue.proofs.body.Reads as body
use Rattle.catalogue_writer.proofs.write.Reads as write
use Rattle.catalogue_reader.specs.contracts.reader as reader

-- ---- judging

module _ (κs : _) (m floor p q : ℕ) (r : _) (e : _) (h : judge.Post κs (m, (floor, (p, (q, tt)))) r e) where
  pub judge_exact : Exact (judging m floor p q) (number_of (judgement_values r))
  judge_exact = rw h (judging_exact m floor p q)

  pub judge_lowest : floor ≤ 1 → LowestGiven (base_judging m p q) (number_of (judgement_values r))
  judge_lowest low = rw h (base_judging_lowest m floor p q low)

  pub judge_table : LawfulDegree m → lawful_floor floor ≡ true → ByTable m floor p q (number_of (judgement_values r))
  judge_table lawful low = rw h (judging_table m floor p q lawful low)

  pub judge_carries : CarriesK m p q (number_of (judgement_values r)) (carried_of (judgement_values r))
  judge_carries = rw h (judging_carries m floor p q)

  pub judge_accepts : (σ : ℕ) → (r ≡ Ok σ) ↔ Conditions m floor p q σ
  judge_accepts σ = rw h (accepted_exactly m floor p q σ)

-- ---- the quotient test

module _ (κs : _) (m p q : ℕ) (r : _) (e : _) (h : test-quotients.Post κs (m, (p, (q, tt))) r e) where
  pub quotients_exact : Exact (testing m p q) (number_of (quotient_test_values r))
  quotients_exact = rw h (testing_exact m p q)

  pub quotients_lowest : LowestGiven (testing m p q) (number_of (quotient_test_values r))
  quotients_lowest = rw h (testing_lowest m p q)

  pub quotients_tested : (k c : ℕ) → (r ≡ Ok (record { quotient = k; common = c })) ↔ Tested m p q k c
  quotients_tested k c = rw h (tested_exactly m p q k c)

  pub quotients_tree : LawfulDegree m → (r ≡ Ok (record { quotient = 1; common = 0 })) ↔ Memᴰ (record { p = p; q = q }) (tree m)
  quotients_tree lawful = rw h (tree_tested m p q lawful)

  -- Beside it the t-value of the same pair in dimension 2.
  pub quotients_plane : (κs' : _) (t : _) (e' : _) → t-value.Post κs' (m, (p, (q, (2, tt)))) t e' → (k c : ℕ) → r ≡ Ok (record { quotient = k; common = c }) → t ≡ Ok (max (k - 1) c)
  quotients_plane κs' t e' g k c d = g ∙ plane_tested m p q k c (sym h ∙ d)

-- ---- a single t-value

module _ (κs : _) (m p q s : ℕ) (r : _) (e : _) (h : t-value.Post κs (m, (p, (q, (s, tt)))) r e) where
  pub t_value_exact : Exact (measuring m p q s) (number_of (uniformity_values r))
  t_value_exact = rw h (measuring_exact m p q s)

  pub t_value_lowest : LowestGiven (measuring m p q s) (number_of (uniformity_values r))
  t_value_lowest = rw h (measuring_lowest m p q s)

  pub t_value_is_smallest : (t : ℕ) → r ≡ Ok t → SmallestNet m p q s t
  t_value_is_smallest t d = uniformity_smallest m p q s t (sym h ∙ d)

-- ---- the same by the plain counter

module _ (κs : _) (m p q s : ℕ) (r : _) (e : _) (h : count-t-value.Post κs (m, (p, (q, (s, tt)))) r e) where
  pub count_exact : Exact (counting m p q s) (number_of (uniformity_values r))
  count_exact = rw h (counting_exact m p q s)

  pub count_lowest : LowestGiven (counting m p q s) (number_of (uniformity_values r))
  count_lowest = rw h (counting_lowest m p q s)

  pub count_is_smallest : (t : ℕ) → r ≡ Ok t → SmallestNet m p q s t
  count_is_smallest t d = counted_smallest m p q s t (sym h ∙ d)

-- ---- points

module _ (κs : _) (m floor p q first : ℕ) (lent : _) (r : _) (e : _) (h : points.Post κs (m, (floor, (p, (q, (first, (lent, tt)))))) r e) where
  pub points_exact : Exact (pointing m floor p q first) (number_of (points_values r))
  points_exact = rw h.0 (pointing_exact m floor p q first lent.now)

  pub points_lowest : floor ≤ 1 → LowestGiven (base_pointing m p q first) (number_of (points_values r))
  points_lowest low = rw h.0 (base_pointing_lowest m floor p q low first lent.now)

  pub points_table : LawfulDegree m → lawful_floor floor ≡ true → ByTable m floor p q (number_of (points_values r))
  points_table lawful low = rw h.0 (pointing_table m floor p q first lent.now lawful low)

  pub points_carries : CarriesK m p q (number_of (points_values r)) (carried_of (points_values r))
  points_carries = rw h.0 (pointing_carries m floor p q first lent.now)

  pub points_keep : (n : Refusal) → r ≡ Err n → (sixth e).now ≡ lent.now
  points_keep n d = h.1 ∙ pointing_keeps m floor p q first lent.now n (sym h.0 ∙ d)

-- A pair that judging accepts, from the first word on, into a slice that is long enough.
module _ (κs : _) (m floor p q : ℕ) (lent : _) (r : _) (e : _) (h : points.Post κs (m, (floor, (p, (q, (0, (lent, tt)))))) r e) where
  pub points_full : (σ : ℕ) → Conditions m floor p q σ → period m ≤ length lent.now → (sixth e).now ≡ over 0 (words p q 0 (period m)) lent.now
  points_full σ c l = h.1 ∙ period_written m floor p q σ c lent.now l

-- ---- the catalogue

pub open_exact : (κs : _) (file : _) (r : _) (e : _) → opened.Post κs (file, tt) r e → Exact (form_situation file.now) (number_of (opening_values r))
open_exact κs file r e h = rw h (opening_exact file.now)

module _ (κs : _) (file : _) (m : ℕ) (r : _) (e : _) (h : lookup.Post κs (file, (m, tt)) r e) where
  pub lookup_exact : Exact (looking file.now m) (number_of (lookup_values r))
  lookup_exact = rw h (looking_exact file.now m)

  pub lookup_lowest : LowestGiven (looking file.now m) (number_of (lookup_values r))
  lookup_lowest = rw h (looking_lowest file.now m)

-- The part is empty where the lookup of the same file and degree is refused.
pub body_empty : (κs : _) (file : _) (m : ℕ) (r : _) (e : _) → body.Post κs (file, (m, tt)) r e
    → (n : Refusal) → lookup_numbers file.now m ≡ Err n → r.now ≡ []
body_empty κs file m r e h n d = h ∙ (looking_empty file.now m n d).0

-- A reader has the refusals of a lookup: its number follows the same situations. Refused, it has the empty part and T = 0, so it is at the end.
-- The toolchain gives no `Post` for a struct that holds a slice: this is the clause itself, in any model of the logic.
module _ (w : World) (κs : _) (a : ArgsD reader.signature κs) where
  abbrev file : List ℕ
  file = a.0.now

  abbrev degree : ℕ
  degree = second a

  pub reader_exact : (r : _) (e : _) → ent w.𝓤 ((reader.clauses w.𝓛 w.𝓜.mem w.𝓡.run κs a).ensures tt r e)
      (fact w.𝓤 (Exact (looking file degree) r.refusal))
  reader_exact r e = fact_mono w.𝓤 _ _ (λ x. rw x.0 (reading_exact file degree))

  pub reader_empty : (r : _) (e : _) (n : Refusal) → lookup_numbers file degree ≡ Err n
      → ent w.𝓤 ((reader.clauses w.𝓛 w.𝓜.mem w.𝓡.run κs a).ensures tt r e)
      (fact w.𝓤 ((r.body.now ≡ []) × (r.top ≡ 0)))
  reader_empty r e n d =
      let empty = looking_empty file degree n d in
      fact_mono w.𝓤 _ _ (λ x. (x.1 ∙ empty.0, x.3 ∙ empty.1))

-- ---- writing a catalogue

module _ (κs : _) (floor : ℕ) (entries lent : _) (r : _) (e : _) (h : write.Post κs (floor, (entries, (lent, tt))) r e) where
  pub write_exact : Exact (writing floor entries.now lent.now) (number_of (file_values r))
  write_exact = rw h.0 (writing_exact floor entries.now lent.now)

  pub write_lowest : LowestGiven (writing floor entries.now lent.now) (number_of (file_values r))
  write_lowest = rw h.0 (writing_lowest floor entries.now lent.now)

  pub write_keeps : (n : Refusal) → r ≡ Err n → (third e).now ≡ lent.now
  write_keeps n d = h.1 ∙ writing_keeps floor entries.now lent.now n (sym h.0 ∙ d)

  -- ROUND TRIP of `write`.
  pub write_reads_back : (n : ℕ) → r ≡ Ok n → WrittenFile floor entries.now lent.now n (third e).now
  write_reads_back n d = rw h.1 (written_file floor entries.now lent.now n (sym h.0 ∙ d))

-- ---- a page

module _ (κs : _) (request : PageRequest) (lent : _) (r : _) (e : _) (h : page.Post κs (request, (lent, tt)) r e) where
  pub page_exact : Exact (paging request lent.now) (number_of (page_values r))
  page_exact = rw h.0 (paging_exact request lent.now)

  pub page_lowest : request.floor ≤ 1 → LowestGiven (base_paging (selection_of request) request.position lent.now) (number_of (page_values r))
  page_lowest low = rw h.0 (base_paging_lowest (selection_of request) request.floor low request.position lent.now)

  pub page_keeps : (n : Refusal) → r ≡ Err n → (second e).now ≡ lent.now
  page_keeps n d = h.1 ∙ paging_keeps request lent.now n (sym h.0 ∙ d)

module _ (κs : _) (l : Selection) (p q : ℕ) (lent : _) (r : _) (e : _) (h : page.Post κs (page_request l (After p q), (lent, tt)) r e) where
  pub page_after_table : LawfulDegree l.degree → LawfulTop l.top → lawful_floor l.floor ≡ true
      → ByTable l.degree l.floor p q (number_of (page_values r))
  page_after_table degree top low = rw h.0 (paging_after_table l lent.now p q degree top low)

  pub page_after_carries : CarriesK l.degree p q (number_of (page_values r)) (carried_of (page_values r))
  page_after_carries = rw h.0 (paging_carries l p q lent.now)

pub page_first_carries : (κs : _) (l : Selection) (lent : _) (r : _) (e : _) → page.Post κs (page_request l Start, (lent, tt)) r e → carried_of (page_values r) ≡ 0
page_first_carries κs l lent r e h = rw h.0 (paging_first_carries l lent.now)

-- ---- the walk of pages

-- Asked by `page`, its contract being met.
pub data AskedPage (l : Selection) : Position → List ℕ → ℕ → ℕ → ℕ → List ℕ → Type 0 where
  asked_page : {at : Position} (κs : _) (lent : _) (r : _) (e : _) → page.Post κs (page_request l at, (lent, tt)) r e
      → AskedPage l at lent.now (value (page_values r) 0) (value (page_values r) 2) (value (page_values r) 3) (second e).now

page_faithful : (l : Selection) → Faithful l (AskedPage l)
page_faithful l at s x n more left (asked_page κs lent r e h) =
    record { refusal_is = rw h.0; count_is = rw h.0; more_is = rw h.0; slice_is = h.1 }

-- READ BY CALLS OF `page`.
pub page_reads_list : (l : Selection) → lawful_degree l.degree ≡ true → lawful_top l.top ≡ true → lawful_floor l.floor ≡ true
    → ReadsList l (AskedPage l)
page_reads_list l degree dimension floor = faithful_list l degree dimension floor (page_faithful l)

-- ---- points in pieces

-- Asked by `points`, its contract being met.
pub data AskedPoints (m floor p q : ℕ) : ℕ → List ℕ → ℕ → ℕ → List ℕ → Type 0 where
  asked_points : {first : ℕ} (κs : _) (lent : _) (r : _) (e : _) → points.Post κs (m, (floor, (p, (q, (first, (lent, tt)))))) r e
      → AskedPoints m floor p q first lent.now (value (points_values r) 0) (value (points_values r) 2) (sixth e).now

points_faithful : (m floor p q : ℕ) → FaithfulPoints m floor p q (AskedPoints m floor p q)
points_faithful m floor p q first s x n left (asked_points κs lent r e h) = record { refusal_is = rw h.0; count_is = rw h.0; slice_is = h.1 }

-- READ BY CALLS OF `points`.
pub points_reads_period : (m floor p q σ : ℕ) → Conditions m floor p q σ → ReadsPeriod m p q (AskedPoints m floor p q)
points_reads_period m floor p q σ c = faithful_period m floor p q σ c (points_faithful m floor p q)
