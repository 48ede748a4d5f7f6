-- Δ, and both kinds of row. Δ in the words of document 02: the sum over s = 1..m of floor(m/s) - l_s, l_s being the largest l with 1 ≤ l ≤ m for which
-- the 2^(s l) congruent cubes hold equally many points, 0 if none; so are the answers of the call and of the C function. A row with Δ is the row
-- without it and Δ behind it, ranked by Δ before p; both lists have the same pairs, and demand 2 holds of their rows; without Δ rows, lists, pages and
-- entries are what they were.
-- An old reader reads what is written without Δ, and says 9 to a file with an entry that has Δ. Assumes nothing.
use Rattle.std.proofs.Math.Path.{◌≡◌, refl, sym, ap}
use Rattle.std.proofs.Common.{ap₂, ◌∙◌, subst, arith}
use Rattle.std.specs.Prelude.{◌↔◌, true, false, ltb, length, get_or, Ok, Err}
use Rattle.std.proofs.Math.Bool.{not}
use mathlib.Core.List.{List, [], ◌∷◌, ◌++◌, map, Memᴰ, append-nil, append_assoc}
use Prim.Native.Nat.{ℕ, zero, suc, ◌+◌, ◌-◌, ◌/◌, ◌≤◌, ◌<◌}
use Rattle.std.proofs.Math.ListN.{length-map}
use Rattle.std.proofs.lemmas.Bool.{not-false}
use Rattle.definitions.specs.Number.{sum, join, over}
use Rattle.definitions.specs.Answers.{Situation, situation, unless, gap_sum_values}
use Rattle.definitions.specs.Generator.{Pair, lawful_degree, lawful_floor, well_formed, step, accepted_at}
use Rattle.definitions.specs.Gaps.{resolution, resolution_gap, sum_of_gaps}
use Rattle.definitions.specs.Pages.{Cut, start, after, sort, page, more}
use Rattle.definitions.specs.Ranking.{least_top, lawful_top, row_width, t_values, ranks, row, row_key, listed_pairs, ranked, cut_of}
use Rattle.definitions.specs.Calls.{resolving, gap_sum, page_request, position_situations, paging, page_rows, further_row, page_answer, page_slice}
use Rattle.definitions.specs.Catalogue.{gaps_mark}
use Rattle.definitions.specs.Writing.{p_of, q_of, step_of, entries_of, ranked_list, ranked_file}
use Rattle.definitions.specs.declared.Refusal.{Refusal}
use Rattle.definitions.specs.declared.Refusal.TheVariants.{WrongDegree, WrongDimension, WrongFloor, ShortSlice, IllFormedCatalogue}
use Rattle.definitions.specs.declared.Selection.{Selection}
use Rattle.definitions.specs.declared.Position.{Position}
use Rattle.definitions.specs.declared.Position.TheVariants.{Start, After}
use Rattle.number_laws.specs.Bounds.{LawfulDegree, lawful_degree_is, lawful_top_is}
use Rattle.answer_laws.specs.Unless.{NoneApplies, passes, at_end, unless_given, told_given}
use Rattle.fraction_laws.specs.WellFormed.{WellFormed, well_formed_is}
use Rattle.gap_laws.specs.Sums.{sum_ext}
use Rattle.gap_laws.specs.Equal.{IsResolution, resolution_is, resolution_unique}
use Rattle.gap_laws.specs.Resolution.{gaps_fit_byte}
use Rattle.net_laws.specs.Smallest.{SmallestNet}
use Rattle.ranking_laws.specs.Met.{row_def, row_key_lem, row_length, value_behind, delta_behind}
use Rattle.ranking_laws.specs.Ranked.{ranked_in, ranked_out}
use Rattle.catalogue_laws.specs.Kinds.{top_plain, gaps_plain}
use Rattle.catalogue_laws.specs.RoundTrip.{no_list}
use Rattle.catalogue_laws.specs.OldForm.{old_catalogue_form}
use Rattle.catalogue_laws.specs.OldReading.{old_opening, gaps_not_opened, old_reader_refusal, gaps_not_read}
use Rattle.catalogue_laws.specs.OldFiles.{written_new, written_old}
use Rattle.writing_laws.specs.RankedFile.{LawfulEntries, no_entry, lists_lawful}
use Rattle.figure_results.specs.Results.{gaps_result}
use Rattle.figure_results.specs.declared.FenyurkaGaps.{FenyurkaGaps}
use Rattle.gaps.proofs.sum_of_gaps.Reads as sum-of-gaps
use Rattle.interface.proofs.fenyurka_sum_of_gaps.Reads as c-sum-of-gaps
use Rattle.demands.specs.Demand1.{Exact, LowestGiven, number_of, resolving_exact, resolving_lowest}
use Rattle.demands.specs.Demand2.{Conditions, accepted_exactly, accepted_judged, t_value_smallest}

-- ---- Δ

-- Δ OF ANY NUMBERS: with l_s for s = 1..m, it is the sum of floor(m/s) - l_s.
pub gaps_exactly : (m p q : ℕ) (l : ℕ → ℕ) → ((s : ℕ) → 1 ≤ s → s ≤ m → IsResolution m p q s (l s)) → sum_of_gaps m p q ≡ sum m (λ s. m / s - l s)
unfolding sum_of_gaps resolution_gap
gaps_exactly m p q l each = sum_ext m _ _ (λ s low high. ap (λ (n : ℕ). m / s - n) (resolution_unique m p q s (each s low high)))

-- Δ of a pair that is given: a lawful degree, a well-formed pair, and that sum, whatever finds the l_s; one byte holds it.
pub record SumOfGaps (m p q d : ℕ) : Type 0 where
  pub lawful : LawfulDegree m
  pub is_well_formed : WellFormed m p q
  pub is : (l : ℕ → ℕ) → ((s : ℕ) → 1 ≤ s → s ≤ m → IsResolution m p q s (l s)) → d ≡ sum m (λ s. m / s - l s)
  pub byte : d < 256

module _ (m p q : ℕ) where
  passed : NoneApplies (resolving m p q) → LawfulDegree m × WellFormed m p q
  unfolding resolving
  passed (passes a (passes b at_end)) = ((lawful_degree_is m).0 (not-false _ a), (well_formed_is m p q).0 (not-false _ b))

  all_pass : LawfulDegree m → WellFormed m p q → NoneApplies (resolving m p q)
  unfolding resolving
  all_pass d w = passes (ap not ((lawful_degree_is m).1 d)) (passes (ap not ((well_formed_is m p q).1 w)) at_end)

  -- THE SUM IS GIVEN exactly so.
  pub gap_sum_exactly : (d : ℕ) → (gap_sum m p q ≡ Ok d) ↔ SumOfGaps m p q d
  unfolding gap_sum
  gap_sum_exactly d = (to, from)
    where
      to : unless (resolving m p q) Err (Ok (sum_of_gaps m p q)) ≡ Ok d → SumOfGaps m p q d
      to e =
          let g = told_given (resolving m p q) e (λ r k. let z : ◌≡◌ {A = ℕ} 0 1 = cc in omega arith) in
          let v = g.1 in
          let same : sum_of_gaps m p q ≡ d = cc in
          let h = passed g.0 in
          record {
            lawful = h.0;
            is_well_formed = h.1;
            is = λ l each. sym same ∙ gaps_exactly m p q l each;
            byte = omega (arith, gaps_fit_byte m p q (omega (arith, h.0.high)));
          }

      from : SumOfGaps m p q d → unless (resolving m p q) Err (Ok (sum_of_gaps m p q)) ≡ Ok d
      from g =
          let found = gaps_exactly m p q (resolution m p q) (λ s low high. resolution_is m p q s) in
          unless_given Err _ (all_pass g.lawful g.is_well_formed)
          ∙ ap Ok (found ∙ sym (g.is (resolution m p q) (λ s low high. resolution_is m p q s)))

-- So it is of every well-formed pair of a lawful degree.
sum_of_pair : (m p q : ℕ) → lawful_degree m ≡ true → well_formed m p q ≡ true → SumOfGaps m p q (sum_of_gaps m p q)
unfolding gap_sum
sum_of_pair m p q d w =
    let passes = all_pass m p q ((lawful_degree_is m).0 d) ((well_formed_is m p q).0 w) in
    (gap_sum_exactly m p q (sum_of_gaps m p q)).0 (unless_given Err _ passes)

-- ---- of the call, and from C

module _ (κs : _) (m p q : ℕ) (r : _) (e : _) (h : sum-of-gaps.Post κs (m, (p, (q, tt))) r e) where
  pub sum_exact : Exact (resolving m p q) (number_of (gap_sum_values r))
  sum_exact = rw h (resolving_exact m p q)

  pub sum_lowest : LowestGiven (resolving m p q) (number_of (gap_sum_values r))
  sum_lowest = rw h (resolving_lowest m p q)

  pub sum_given : (d : ℕ) → (r ≡ Ok d) ↔ SumOfGaps m p q d
  sum_given d = rw h (gap_sum_exactly m p q d)

result_given : (m p q : ℕ) (r : FenyurkaGaps) → r ≡ gaps_result (gap_sum_values (gap_sum m p q)) → r.refusal ≡ 0 → SumOfGaps m p q r.delta
unfolding gap_sum
result_given m p q r h z =
    let given : gap_sum m p q ≡ Ok (sum_of_gaps m p q) = unless_given Err _ ((resolving_exact m p q).none.0 (rw h at z)) in
    let same : r.delta ≡ sum_of_gaps m p q = rw (h, given) in
    rw same ((gap_sum_exactly m p q (sum_of_gaps m p q)).0 given)

module _ (κs : _) (m p q : ℕ) (r : _) (e : _) (h : c-sum-of-gaps.Post κs (m, (p, (q, tt))) r e) where
  pub c_sum_exact : Exact (resolving m p q) r.refusal
  c_sum_exact = rw h (resolving_exact m p q)

  pub c_sum_lowest : LowestGiven (resolving m p q) r.refusal
  c_sum_lowest = rw h (resolving_lowest m p q)

  pub c_sum_given : r.refusal ≡ 0 → SumOfGaps m p q r.delta
  c_sum_given = result_given m p q r h

-- ---- both kinds of row

abbrev pub with_gaps : Selection → Selection
with_gaps l = record { degree = l.degree; top = l.top; floor = l.floor; gaps = true }

abbrev pub without_gaps : Selection → Selection
without_gaps l = record { degree = l.degree; top = l.top; floor = l.floor; gaps = false }

-- A row as it was: p, q, σ, t(3) .. t(T).
abbrev pub plain_row : Selection → ℕ → ℕ → List ℕ
plain_row l p q = p ∷ q ∷ step l.degree p q ∷ t_values l.degree l.top p q

module _ (l : Selection) where
  pub width_without : row_width (without_gaps l) ≡ suc l.top
  width_without = omega arith

  pub width_with : row_width (with_gaps l) ≡ l.top + 2
  width_with = omega arith

  module _ (p q : ℕ) where
    pub row_without : row (without_gaps l) p q ≡ plain_row l p q
    unfolding row ranks
    row_without = rw (append-nil (t_values l.degree l.top p q))

    -- Δ is the last number of a row,
    pub row_with : row (with_gaps l) p q ≡ plain_row l p q ++ (sum_of_gaps l.degree p q ∷ [])
    unfolding row ranks
    row_with = refl

    pub key_without : row_key (row (without_gaps l) p q) ≡ t_values l.degree l.top p q ++ (p ∷ q ∷ [])
    unfolding ranks
    key_without = row_key_lem (without_gaps l) p q ∙ rw (append-nil (t_values l.degree l.top p q))

    -- and ranks it behind the t-values and before p.
    pub key_with : row_key (row (with_gaps l) p q) ≡ t_values l.degree l.top p q ++ (sum_of_gaps l.degree p q ∷ p ∷ q ∷ [])
    unfolding ranks
    key_with = row_key_lem (with_gaps l) p q ∙ append_assoc (t_values l.degree l.top p q) (sum_of_gaps l.degree p q ∷ []) (p ∷ q ∷ [])

-- A row's pair is in the list, of either kind.
listed_pair : (l : Selection) (p q : ℕ) → Memᴰ (row l p q) (ranked l)
    → (well_formed l.degree p q ≡ true) × (accepted_at l.degree l.floor p q ≡ true)
listed_pair l p q i =
    let a = ranked_out l (row l p q) i in
    let p-is : a.pair.p ≡ p = ap p_of (sym (row_def l a.pair.p a.pair.q) ∙ a.is ∙ row_def l p q) in
    let q_is : a.pair.q ≡ q = ap q_of (sym (row_def l a.pair.p a.pair.q) ∙ a.is ∙ row_def l p q) in (
      sym (ap₂ (well_formed l.degree) p-is q_is) ∙ a.is_well_formed,
      sym (ap₂ (accepted_at l.degree l.floor) p-is q_is) ∙ a.passes,
    )

-- THE SAME PAIRS: a pair has its row in the list with Δ exactly where it has it in the list without.
pub same_pairs : (l : Selection) (p q : ℕ)
    → Memᴰ (row (with_gaps l) p q) (ranked (with_gaps l)) ↔ Memᴰ (row (without_gaps l) p q) (ranked (without_gaps l))
same_pairs l p q = (
  λ i. let h = listed_pair (with_gaps l) p q i in ranked_in (without_gaps l) (record { p = p; q = q }) h.0 h.1,
  λ i. let h = listed_pair (without_gaps l) p q i in ranked_in (with_gaps l) (record { p = p; q = q }) h.0 h.1,
)

-- DEMAND 2 OF THE ROWS, of either kind. What a row of a list says: its pair is accepted at the floor with its step, each t-value is the smallest of the net
-- definition, and where the list has Δ, the last number is the sum of resolution gaps.
pub record RowHolds (l : Selection) (r : List ℕ) : Type 0 where
  pub width : length r ≡ row_width l
  pub accepted : Conditions l.degree l.floor (p_of r) (q_of r) (step_of r)
  pub values : (s : ℕ) → least_top ≤ s → s ≤ l.top → SmallestNet l.degree (p_of r) (q_of r) s (get_or r s 0)
  pub delta : l.gaps ≡ true → SumOfGaps l.degree (p_of r) (q_of r) (get_or r (suc l.top) 0)

pub rows_hold : (l : Selection) → lawful_degree l.degree ≡ true → lawful_top l.top ≡ true → lawful_floor l.floor ≡ true
    → (r : List ℕ) → Memᴰ r (ranked l) → RowHolds l r
unfolding row
rows_hold l d t f r i =
    let a = ranked_out l r i in
    let m = l.degree in
    let p = a.pair.p in
    let q = a.pair.q in
    let σ = step m p q in
    let low = ((lawful_top_is l.top).0 t).low in
    let judged = (accepted_judged m l.floor p q d f a.is_well_formed).0 a.passes in
    subst (RowHolds l) a.is (record {
      width = row_length l p q low;
      accepted = (accepted_exactly m l.floor p q σ).0 judged;
      values = λ s least most. subst (SmallestNet m p q s) (sym (value_behind l p q p q σ s least most)) (t_value_smallest m p q s a.is_well_formed);
      delta = λ e. subst (SumOfGaps m p q) (sym (delta_behind l p q p q σ low e)) (sum_of_pair m p q d a.is_well_formed);
    })

-- ---- WITHOUT Δ NOTHING CHANGES

-- The ranked list, a position, and the situations of a page, as they were.
abbrev pub plain_ranked : Selection → List (List ℕ)
plain_ranked l = sort row_key (map (λ (s : Pair). plain_row l s.p s.q) (listed_pairs l))

abbrev pub plain_cut : Selection → Position → Cut
plain_cut l Start = start
plain_cut l (After p q) = after (row_key (plain_row l p q))

abbrev pub plain_paging : Selection → Position → List ℕ → List Situation
plain_paging l at s =
    situation (not (lawful_degree l.degree)) WrongDegree
    ∷ situation (not (lawful_top l.top)) WrongDimension
    ∷ situation (not (lawful_floor l.floor)) WrongFloor
    ∷ position_situations l.degree l.floor at
    ++ situation (ltb (length s) (suc l.top)) ShortSlice
    ∷ []

map_same : {X Y : Type 0} (f g : X → Y) → ((x : X) → f x ≡ g x) → (l : List X) → map f l ≡ map g l
map_same f g same [] = refl
map_same f g same (x ∷ l) = ap₂ ◌∷◌ (same x) (map_same f g same l)

module _ (l : Selection) where
  pub plain_ranked_lem : ranked (without_gaps l) ≡ plain_ranked l
  unfolding ranked listed_pairs
  plain_ranked_lem = ap (sort row_key) (map_same _ _ (λ (s : Pair). row_without l s.p s.q) (listed_pairs (without_gaps l)))

  module _ (at : Position) (s : List ℕ) where
    plain_cut_lem : cut_of (without_gaps l) at ≡ plain_cut l at
    unfolding cut_of
    plain_cut_lem = go at
      where
        go : (at : Position) → cut_of (without_gaps l) at ≡ plain_cut l at
        go Start = refl
        go (After p q) = ap (λ (r : List ℕ). after (row_key r)) (row_without l p q)

    plain_rows : page_rows (page_request (without_gaps l) at) s ≡ page row_key (plain_cut l at) (length s / suc l.top) (plain_ranked l)
    unfolding page_rows
    plain_rows = rw (plain_cut_lem, plain_ranked_lem, width_without l)

    plain_further : further_row (page_request (without_gaps l) at) s ≡ more row_key (plain_cut l at) (length s / suc l.top) (plain_ranked l)
    unfolding further_row
    plain_further = rw (plain_cut_lem, plain_ranked_lem, width_without l)

    plain_paging_lem : paging (page_request (without_gaps l) at) s ≡ plain_paging l at s
    unfolding paging
    plain_paging_lem = rw (width_without l)

    pub plain_page : page_answer (page_request (without_gaps l) at) s
        ≡ unless (plain_paging l at s) Err (Ok (record { rows = length (page row_key (plain_cut l at) (length s / suc l.top) (plain_ranked l)); further = more row_key (plain_cut l at) (length s / suc l.top) (plain_ranked l) }))
    unfolding page_answer
    plain_page = rw (plain_paging_lem, plain_rows, plain_further)

    pub plain_slice : page_slice (page_request (without_gaps l) at) s
        ≡ unless (plain_paging l at s) (λ (n : Refusal). s) (over 0 (join (page row_key (plain_cut l at) (length s / suc l.top) (plain_ranked l))) s)
    unfolding page_slice
    plain_slice = rw (plain_paging_lem, plain_rows)

-- The entries for a file as they were: the number behind a degree is its T.
abbrev pub plain_entries : ℕ → List ℕ → List Selection
plain_entries floor [] = []
plain_entries floor (m ∷ []) = record { degree = m; top = 0; floor = floor; gaps = false } ∷ []
plain_entries floor (m ∷ top ∷ e) = record { degree = m; top = top; floor = floor; gaps = false } ∷ plain_entries floor e

-- Each number behind a degree is below 16.
abbrev pub PlainNumbers : List ℕ → Type 0
PlainNumbers [] = Unit
PlainNumbers (m ∷ []) = Unit
PlainNumbers (m ∷ top ∷ e) = (top < gaps_mark) × PlainNumbers e

pub plain_entries_lem : (floor : ℕ) (e : List ℕ) → PlainNumbers e → entries_of floor e ≡ plain_entries floor e
unfolding entries_of
plain_entries_lem floor [] h = refl
plain_entries_lem floor (m ∷ []) h = refl
plain_entries_lem floor (m ∷ top ∷ e) h = rw (top_plain top h.0, gaps_plain top h.0, plain_entries_lem floor e h.1)

-- ---- old readers

module _ (ls : List Selection) (lawful : LawfulEntries 0 ls) where
  kind_at : (k : ℕ) → (get_or (map ranked_list ls) k no_list).gaps ≡ (get_or ls k no_entry).gaps
  unfolding ranked_list
  kind_at k = go ls k
    where
      go : (ls : List Selection) (k : ℕ) → (get_or (map ranked_list ls) k no_list).gaps ≡ (get_or ls k no_entry).gaps
      go [] k = refl
      go (l ∷ ls) zero = refl
      go (l ∷ ls) (suc k) = go ls k

  -- A FILE WITH AN ENTRY THAT HAS Δ: an old reader does not open it, and says 9 for each lawful degree.
  module _ (k : ℕ) (inside : k < length ls) (new : (get_or ls k no_entry).gaps ≡ true) where
    pub old_opening_lem : old_opening (ranked_file ls) ≡ Err IllFormedCatalogue
    unfolding ranked_file
    old_opening_lem =
        gaps_not_opened _ (written_new (map ranked_list ls) (lists_lawful lawful) k (omega (arith, length-map ls ranked_list)) (kind_at k ∙ new))

    pub old_reading : (m : ℕ) → lawful_degree m ≡ true → old_reader_refusal (ranked_file ls) m ≡ 9
    unfolding ranked_file
    old_reading m d =
        gaps_not_read _ (written_new (map ranked_list ls) (lists_lawful lawful) k (omega (arith, length-map ls ranked_list)) (kind_at k ∙ new)) m d

  -- A FILE WITHOUT Δ is of the old form.
  pub old_file : ((k : ℕ) → k < length ls → (get_or ls k no_entry).gaps ≡ false) → old_catalogue_form (ranked_file ls) ≡ true
  unfolding ranked_file
  old_file plain =
      written_old (map ranked_list ls) (lists_lawful lawful) (λ k l. kind_at k ∙ plain k (omega (arith, length-map ls ranked_list)))
