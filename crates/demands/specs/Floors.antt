-- Floors. At the floors 0 and 1 each call answers as the documents have it without a floor: its tests in their order, where the lowest number that
-- applies is given, and the list of every accepted pair; so the two floors give the same. Whoever walks a list at any floor receives what a walk at
-- floor 0 gives, without the rows that have a smaller step. From the fact that every step is 1 at least. Assumes nothing.
use Rattle.std.specs.Prelude.{◌≡◌, Bool, true, false, not, ℕ, ◌-◌, ◌/◌, ◌≤◌, ltb, length, Ok, Err}
use Rattle.std.proofs.Math.Path.{refl, ap, ap₂}
use Rattle.std.proofs.Common.{sym, ◌∙◌, arith, le-leb}
use mathlib.Core.List.{List, [], ◌∷◌, ◌++◌, map}
use Rattle.definitions.specs.Number.{all, join, keep, over}
use Rattle.definitions.specs.Answers.{Situation, situation, unless, judgement_values, page_values, points_values}
use Rattle.definitions.specs.Generator.{Pair, largest_floor, lawful_degree, lawful_floor, quotient_degree, step, period, accepted}
use Rattle.definitions.specs.Points.{words}
use Rattle.definitions.specs.Pages.{sort, page, more}
use Rattle.definitions.specs.Ranking.{lawful_top, row_width, ranks, row, row_key, all_pairs, ranked, cut_of}
use Rattle.definitions.specs.Calls.{pair_situations, judging, judgement, page_request, position_situations, paging, page_rows, further_row, page_answer}
use Rattle.definitions.specs.Calls.{page_slice, pointing, word_count, points_answer, points_slice}
use Rattle.definitions.specs.Catalogue.{top_of, gaps_of}
use Rattle.definitions.specs.Writing.{Listed, catalogue_bytes, entries_of, ranked_list, ranked_file, lawful_degrees, lawful_tops, ascending, entering, writing}
use Rattle.definitions.specs.Writing.{file_answer, file_buffer}
use Rattle.definitions.specs.declared.Refusal.{Refusal}
use Rattle.definitions.specs.declared.Refusal.TheVariants.{WrongDegree, WrongDimension, ShortSlice, BeyondPeriod, NotAscending, FileTooLong}
use Rattle.definitions.specs.declared.Selection.{Selection}
use Rattle.definitions.specs.declared.Position.{Position}
use Rattle.definitions.specs.declared.Position.TheVariants.{Start, After}
use Rattle.order_laws.specs.Floor.{small_floor_reached}
use Rattle.ranking_laws.specs.Floors.{at_floor, long_step, floor_sublist, small_floor_list}
use Rattle.demands.specs.Demand1.{LowestGiven, number_of, exact, lowest}
use Rattle.demands.specs.Quotients.{base_tests}
use Rattle.demands.specs.Demand3.{Received, Ended, DefinedPage, definition_reads_list}

-- ---- without a floor

-- The situations of a pair: 3 to 6, 5 with its K.
abbrev pub base_pair : ℕ → ℕ → ℕ → List Situation
base_pair m p q = base_tests (quotient_degree p q) m p q

-- Judging: 1, 3 to 6.
abbrev pub base_judging : ℕ → ℕ → ℕ → List Situation
base_judging m p q = situation (not (lawful_degree m)) WrongDegree ∷ base_pair m p q

-- Points: the same, and 8.
abbrev pub base_pointing : ℕ → ℕ → ℕ → ℕ → List Situation
base_pointing m p q first = base_judging m p q ++ situation (ltb (period m - 1) first) BeyondPeriod ∷ []

-- A page: 1, 2, for a position after a pair 3 to 6, and 7.
abbrev pub base_position : ℕ → Position → List Situation
base_position m Start = []
base_position m (After p q) = base_pair m p q

abbrev pub base_paging : Selection → Position → List ℕ → List Situation
base_paging l at s =
    situation (not (lawful_degree l.degree)) WrongDegree
    ∷ situation (not (lawful_top l.top)) WrongDimension
    ∷ base_position l.degree at
    ++ situation (ltb (length s) (row_width l)) ShortSlice
    ∷ []

-- The ranked list of every accepted pair.
abbrev pub base_ranked : Selection → List (List ℕ)
base_ranked l =
    sort row_key
    (map (λ (s : Pair). row l s.p s.q) (keep (λ (s : Pair). accepted l.degree s.p s.q) (all_pairs l.degree)))

-- A file of such lists; writing: 1, 2, 13, 14.
abbrev pub base_list : Selection → Listed
base_list l = record { degree = l.degree; top = l.top; gaps = l.gaps; rows = base_ranked l }

abbrev pub base_file : List ℕ → List ℕ
base_file e = catalogue_bytes (map base_list (entries_of 0 e))

abbrev pub base_writing : List ℕ → List ℕ → List Situation
base_writing e s =
    situation (not (lawful_degrees (entries_of 0 e))) WrongDegree
    ∷ situation (not (lawful_tops (entries_of 0 e))) WrongDimension
    ∷ situation (not (ascending (entries_of 0 e))) NotAscending
    ∷ situation (ltb (length s) (length (base_file e))) FileTooLong
    ∷ []

-- ---- situations that never apply

lawful_small : (floor : ℕ) → floor ≤ 1 → lawful_floor floor ≡ true
lawful_small floor h = le-leb floor largest_floor (omega arith)

module _ {A : Type 0} (refuse : Refusal → A) (value : A) (m floor p q : ℕ) (h : floor ≤ 1) where
  base_judging_lem : unless (judging m floor p q) refuse value ≡ unless (base_judging m p q) refuse value
  unfolding unless judging pair_situations
  base_judging_lem = rw (lawful_small floor h, small_floor_reached m floor p q h)

  base_pointing_lem : (first : ℕ) → unless (pointing m floor p q first) refuse value ≡ unless (base_pointing m p q first) refuse value
  unfolding unless pointing judging pair_situations
  base_pointing_lem first = rw (lawful_small floor h, small_floor_reached m floor p q h)

base_paging_lem : {A : Type 0} (refuse : Refusal → A) (value : A) (l : Selection) (floor : ℕ) → floor ≤ 1 → (at : Position) (s : List ℕ)
    → unless (paging (page_request (at_floor floor l) at) s) refuse value ≡ unless (base_paging l at s) refuse value
unfolding unless paging position_situations pair_situations
base_paging_lem refuse value l floor h Start s = rw (lawful_small floor h)
base_paging_lem refuse value l floor h (After p q) s = rw (lawful_small floor h, small_floor_reached l.degree floor p q h)

-- ---- FLOOR 0 IS THE MEANING WITHOUT A FLOOR, AND SO IS FLOOR 1

module _ (m floor p q : ℕ) (h : floor ≤ 1) where
  -- Judging,
  pub base_judgement : judgement m floor p q ≡ unless (base_judging m p q) Err (Ok (step m p q))
  unfolding judgement
  base_judgement = base_judging_lem Err (Ok (step m p q)) m floor p q h

  -- points,
  module _ (first : ℕ) (s : List ℕ) where
    pub base_points : points_answer m floor p q first s ≡ unless (base_pointing m p q first) Err (Ok (word_count m first s))
    unfolding points_answer
    base_points = base_pointing_lem Err (Ok (word_count m first s)) m floor p q h first

    pub base_words : points_slice m floor p q first s
        ≡ unless (base_pointing m p q first) (λ (n : Refusal). s) (over 0 (words p q first (word_count m first s)) s)
    unfolding points_slice
    base_words = base_pointing_lem (λ (n : Refusal). s) (over 0 (words p q first (word_count m first s)) s) m floor p q h first

-- the list,
pub base_ranked_lem : (l : Selection) (floor : ℕ) → floor ≤ 1 → ranked (at_floor floor l) ≡ base_ranked l
base_ranked_lem = small_floor_list

-- and pages, which are those of that list: a row has no floor in it, and so no position has.
module _ (l : Selection) (floor : ℕ) (h : floor ≤ 1) (at : Position) (s : List ℕ) where
  base_cut : cut_of (at_floor floor l) at ≡ cut_of l at
  unfolding cut_of row ranks
  base_cut = go at
    where
      go : (at : Position) → cut_of (at_floor floor l) at ≡ cut_of l at
      go Start = refl
      go (After p q) = refl

  base_rows : page_rows (page_request (at_floor floor l) at) s ≡ page row_key (cut_of l at) (length s / row_width l) (base_ranked l)
  unfolding page_rows
  base_rows = rw (base_cut, base_ranked_lem l floor h)

  base_further : further_row (page_request (at_floor floor l) at) s ≡ more row_key (cut_of l at) (length s / row_width l) (base_ranked l)
  unfolding further_row
  base_further = rw (base_cut, base_ranked_lem l floor h)

  pub base_page : page_answer (page_request (at_floor floor l) at) s
      ≡ unless (base_paging l at s) Err (Ok (record { rows = length (page row_key (cut_of l at) (length s / row_width l) (base_ranked l)); further = more row_key (cut_of l at) (length s / row_width l) (base_ranked l) }))
  unfolding page_answer
  base_page = rw (base_rows, base_further) (base_paging_lem Err _ l floor h at s)

  pub base_slice : page_slice (page_request (at_floor floor l) at) s
      ≡ unless (base_paging l at s) (λ (n : Refusal). s) (over 0 (join (page row_key (cut_of l at) (length s / row_width l) (base_ranked l))) s)
  unfolding page_slice
  base_slice = rw base_rows (base_paging_lem (λ (n : Refusal). s) _ l floor h at s)

-- ---- files

-- The tests of entries ask nothing of their floor.
module _ (floor : ℕ) where
  degrees_at : (e : List ℕ) → lawful_degrees (entries_of floor e) ≡ lawful_degrees (entries_of 0 e)
  unfolding entries_of lawful_degrees all
  degrees_at [] = refl
  degrees_at (m ∷ []) = refl
  degrees_at (m ∷ top ∷ e) = rw (degrees_at e)

  tops_at : (e : List ℕ) → lawful_tops (entries_of floor e) ≡ lawful_tops (entries_of 0 e)
  unfolding entries_of lawful_tops all
  tops_at [] = refl
  tops_at (m ∷ []) = refl
  tops_at (m ∷ top ∷ e) = rw (tops_at e)

  ascending_at : (e : List ℕ) → ascending (entries_of floor e) ≡ ascending (entries_of 0 e)
  unfolding entries_of ascending
  ascending_at [] = refl
  ascending_at (m ∷ []) = refl
  ascending_at (m ∷ top ∷ []) = refl
  ascending_at (m ∷ top ∷ n ∷ []) = refl
  ascending_at (m ∷ top ∷ n ∷ k ∷ e) = rw (ascending_at (n ∷ k ∷ e))

  module _ (h : floor ≤ 1) where
    base_list_lem : (m top : ℕ) (gaps : Bool)
        → ranked_list (record { degree = m; top = top; floor = floor; gaps = gaps }) ≡ base_list (record { degree = m; top = top; floor = 0; gaps = gaps })
    unfolding ranked_list
    base_list_lem m top gaps i =
        record { degree = m; top = top; gaps = gaps; rows = base_ranked_lem (record { degree = m; top = top; floor = 0; gaps = gaps }) floor h i }

    base_lists : (e : List ℕ) → map ranked_list (entries_of floor e) ≡ map base_list (entries_of 0 e)
    unfolding entries_of
    base_lists [] = refl
    base_lists (m ∷ []) = ap (λ (l : Listed). l ∷ []) (base_list_lem m 0 false)
    base_lists (m ∷ n ∷ e) = ap₂ ◌∷◌ (base_list_lem m (top_of n) (gaps_of n)) (base_lists e)

    pub base_ranked_file : (e : List ℕ) → ranked_file (entries_of floor e) ≡ base_file e
    unfolding ranked_file
    base_ranked_file e = ap catalogue_bytes (base_lists e)

    base_writing_lem : {A : Type 0} (refuse : Refusal → A) (value : A) (e s : List ℕ)
        → unless (writing floor e s) refuse value ≡ unless (base_writing e s) refuse value
    unfolding unless writing entering
    base_writing_lem refuse value e s = rw (lawful_small floor h, degrees_at e, tops_at e, ascending_at e, base_ranked_file e)

    pub base_answer : (e s : List ℕ) → file_answer floor e s ≡ unless (base_writing e s) Err (Ok (length (base_file e)))
    unfolding file_answer
    base_answer e s = rw (base_ranked_file e) (base_writing_lem Err _ e s)

    pub base_buffer : (e s : List ℕ) → file_buffer floor e s ≡ unless (base_writing e s) (λ (n : Refusal). s) (over 0 (base_file e) s)
    unfolding file_buffer
    base_buffer e s = rw (base_ranked_file e) (base_writing_lem (λ (n : Refusal). s) _ e s)

-- ---- there the lowest number that applies is given, as document 01 has it

module _ (m floor p q : ℕ) (h : floor ≤ 1) where
  pub base_judging_lowest : LowestGiven (base_judging m p q) (number_of (judgement_values (judgement m floor p q)))
  base_judging_lowest =
      rw (base_judgement m floor p q h) (lowest (exact judgement_values (base_judging m p q) Err (Ok (step m p q)) refl (λ r. refl) refl) refl)

  pub base_pointing_lowest : (first : ℕ) (s : List ℕ) → LowestGiven (base_pointing m p q first) (number_of (points_values (points_answer m floor p q first s)))
  base_pointing_lowest first s =
      rw (base_points m floor p q h first s)
      (lowest (exact points_values (base_pointing m p q first) Err (Ok (word_count m first s)) refl (λ r. refl) refl) refl)

pub base_paging_lowest : (l : Selection) (floor : ℕ) → floor ≤ 1 → (at : Position) (s : List ℕ)
    → LowestGiven (base_paging l at s) (number_of (page_values (page_answer (page_request (at_floor floor l) at) s)))
base_paging_lowest l floor h Start s =
    rw (base_page l floor h Start s) (lowest (exact page_values (base_paging l Start s) Err _ refl (λ r. refl) refl) refl)
base_paging_lowest l floor h (After p q) s =
    rw (base_page l floor h (After p q) s) (lowest (exact page_values (base_paging l (After p q) s) Err _ refl (λ r. refl) refl) refl)

-- ---- FLOORS 0 AND 1 GIVE THE SAME

module _ (m p q : ℕ) where
  pub one_judgement : judgement m 1 p q ≡ judgement m 0 p q
  one_judgement = base_judgement m 1 p q (omega arith) ∙ sym (base_judgement m 0 p q (omega arith))

  module _ (first : ℕ) (s : List ℕ) where
    pub one_points : points_answer m 1 p q first s ≡ points_answer m 0 p q first s
    one_points = base_points m 1 p q (omega arith) first s ∙ sym (base_points m 0 p q (omega arith) first s)

    pub one_words : points_slice m 1 p q first s ≡ points_slice m 0 p q first s
    one_words = base_words m 1 p q (omega arith) first s ∙ sym (base_words m 0 p q (omega arith) first s)

module _ (l : Selection) where
  pub one_ranked : ranked (at_floor 1 l) ≡ ranked (at_floor 0 l)
  one_ranked = base_ranked_lem l 1 (omega arith) ∙ sym (base_ranked_lem l 0 (omega arith))

  module _ (at : Position) (s : List ℕ) where
    pub one_page : page_answer (page_request (at_floor 1 l) at) s ≡ page_answer (page_request (at_floor 0 l) at) s
    one_page = base_page l 1 (omega arith) at s ∙ sym (base_page l 0 (omega arith) at s)

    pub one_slice : page_slice (page_request (at_floor 1 l) at) s ≡ page_slice (page_request (at_floor 0 l) at) s
    one_slice = base_slice l 1 (omega arith) at s ∙ sym (base_slice l 0 (omega arith) at s)

module _ (e s : List ℕ) where
  pub one_file : file_answer 1 e s ≡ file_answer 0 e s
  one_file = base_answer 1 (omega arith) e s ∙ sym (base_answer 0 (omega arith) e s)

  pub one_buffer : file_buffer 1 e s ≡ file_buffer 0 e s
  one_buffer = base_buffer 1 (omega arith) e s ∙ sym (base_buffer 0 (omega arith) e s)

-- ---- THE LIST OF A FLOOR, WALKED, IS THE SUBLIST OF WHAT A WALK AT FLOOR 0 GIVES: its rows with a step of at least the floor, in their order

pub floor_walk : (l : Selection) → lawful_degree l.degree ≡ true → lawful_top l.top ≡ true → lawful_floor l.floor ≡ true → {ps whole : Received}
    → Ended (row_width l) (DefinedPage l) ps → Ended (row_width l) (DefinedPage (at_floor 0 l)) whole → join ps ≡ keep (long_step l.floor) (join whole)
floor_walk l degree top floor w v =
    (definition_reads_list l degree top floor).whole w
    ∙ floor_sublist l
    ∙ ap (keep (long_step l.floor)) (sym ((definition_reads_list (at_floor 0 l) degree top refl).whole v))
