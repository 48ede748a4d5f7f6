-- Judging, the quotient test, a single t-value by either engine, the sum of resolution gaps, pages and points: what each call answers and what each
-- lent slice holds afterwards, for every input. Assumes nothing.
use Rattle.std.specs.Prelude.{◌&&◌, ◌∷◌, ◌++◌, ◌-◌, ◌/◌}
use Rattle.definitions.specs.Base.{Bool, not, List, [], ℕ, min, leb, ltb, length, Refusal, WrongDegree, WrongDimension}
use Rattle.definitions.specs.Base.{IllFormedPair, NotPrimitive, QuotientNotLinear, StepNotCoprime, StepBelowFloor, WrongFloor, ShortSlice, BeyondPeriod}
use Rattle.definitions.specs.Base.{Selection}
use Rattle.definitions.specs.Base.{Position, Start, After, PageRequest, Result, Ok, Err, QuotientDegrees, Page}
use Rattle.definitions.specs.Number.{join, over}
use Rattle.definitions.specs.Answers.{Situation, situation, unless}
use Rattle.definitions.specs.Generator.{least_degree, lawful_degree, lawful_floor, well_formed, period, primitive, linear_quotients, quotient_degree}
use Rattle.definitions.specs.Generator.{common_degree, coprime_step, step, reaches_floor}
use Rattle.definitions.specs.Points.{words}
use Rattle.definitions.specs.Net.{t_value}
use Rattle.definitions.specs.Gaps.{sum_of_gaps}
use Rattle.definitions.specs.Pages.{page, more}
use Rattle.definitions.specs.Ranking.{lawful_top, lawful_dimension, row_width, row_key, ranked, cut_of}

-- The situations that concern a pair, of a lawful degree and at a lawful floor: 3 to 6, 11. Where some quotient is not linear, K says how bad it is.
unfoldable pub pair_situations : ℕ → ℕ → ℕ → ℕ → List Situation
pair_situations m floor p q =
    situation (not (well_formed m p q)) IllFormedPair
    ∷ situation (not (primitive m p)) NotPrimitive
    ∷ situation (not (linear_quotients p q)) (QuotientNotLinear (quotient_degree p q))
    ∷ situation (not (coprime_step m p q)) StepNotCoprime
    ∷ situation (not (reaches_floor m floor p q)) StepBelowFloor
    ∷ []

-- Judging at a floor: 1, 12, 3 to 6, 11; else the step.
unfoldable pub judging : ℕ → ℕ → ℕ → ℕ → List Situation
judging m floor p q =
    situation (not (lawful_degree m)) WrongDegree ∷ situation (not (lawful_floor floor)) WrongFloor ∷ pair_situations m floor p q

unfoldable pub judgement : ℕ → ℕ → ℕ → ℕ → Result ℕ Refusal
judgement m floor p q = unless (judging m floor p q) Err (Ok (step m p q))

-- The quotient test: 1, 3; else K and the degree of the common factor.
unfoldable pub testing : ℕ → ℕ → ℕ → List Situation
testing m p q = situation (not (lawful_degree m)) WrongDegree ∷ situation (not (well_formed m p q)) IllFormedPair ∷ []

unfoldable pub quotient_test : ℕ → ℕ → ℕ → Result QuotientDegrees Refusal
quotient_test m p q = unless (testing m p q) Err (Ok (record { quotient = quotient_degree p q; common = common_degree p q }))

-- A single t-value: 1 to 3; else the t-value.
unfoldable pub measuring : ℕ → ℕ → ℕ → ℕ → List Situation
measuring m p q s =
    situation (not (lawful_degree m)) WrongDegree
    ∷ situation (not (lawful_dimension s)) WrongDimension
    ∷ situation (not (well_formed m p q)) IllFormedPair
    ∷ []

unfoldable pub uniformity : ℕ → ℕ → ℕ → ℕ → Result ℕ Refusal
uniformity m p q s = unless (measuring m p q s) Err (Ok (t_value m p q s))

-- The degrees of the plain counter: 2 to 8.
abbrev pub largest_counted : ℕ
largest_counted = 8

abbrev pub counted_degree : ℕ → Bool
counted_degree m = leb least_degree m && leb m largest_counted

-- The plain counter: 1 for a degree that it does not count, 2 and 3 as for a single t-value; else the same t-value.
unfoldable pub counting : ℕ → ℕ → ℕ → ℕ → List Situation
counting m p q s =
    situation (not (counted_degree m)) WrongDegree
    ∷ situation (not (lawful_dimension s)) WrongDimension
    ∷ situation (not (well_formed m p q)) IllFormedPair
    ∷ []

unfoldable pub counted : ℕ → ℕ → ℕ → ℕ → Result ℕ Refusal
counted m p q s = unless (counting m p q s) Err (Ok (t_value m p q s))

-- The sum of resolution gaps: 1, 3; else Δ.
unfoldable pub resolving : ℕ → ℕ → ℕ → List Situation
resolving m p q = situation (not (lawful_degree m)) WrongDegree ∷ situation (not (well_formed m p q)) IllFormedPair ∷ []

unfoldable pub gap_sum : ℕ → ℕ → ℕ → Result ℕ Refusal
gap_sum m p q = unless (resolving m p q) Err (Ok (sum_of_gaps m p q))

-- The list that a page request means, and the request for a page of a list.
abbrev pub selection_of : PageRequest → Selection
selection_of r = record { degree = r.degree; top = r.top; floor = r.floor; gaps = r.gaps }

abbrev pub page_request : Selection → Position → PageRequest
page_request l at = record { degree = l.degree; top = l.top; floor = l.floor; gaps = l.gaps; position = at }

-- A page: 1, 2 and 12, then for a position after a pair 3 to 6 and 11, then 7.
unfoldable pub position_situations : ℕ → ℕ → Position → List Situation
position_situations m floor Start = []
position_situations m floor (After p q) = pair_situations m floor p q

unfoldable pub paging : PageRequest → List ℕ → List Situation
paging r s =
    situation (not (lawful_degree r.degree)) WrongDegree
    ∷ situation (not (lawful_top r.top)) WrongDimension
    ∷ situation (not (lawful_floor r.floor)) WrongFloor
    ∷ position_situations r.degree r.floor r.position
    ++ situation (ltb (length s) (row_width (selection_of r))) ShortSlice
    ∷ []

-- How many rows fit a slice.
abbrev pub capacity : PageRequest → List ℕ → ℕ
capacity r s = length s / row_width (selection_of r)

-- The rows of a page: those of the ranked list above the position, as many as fit.
unfoldable pub page_rows : PageRequest → List ℕ → List (List ℕ)
page_rows r s = page row_key (cut_of (selection_of r) r.position) (capacity r s) (ranked (selection_of r))

unfoldable pub further_row : PageRequest → List ℕ → Bool
further_row r s = more row_key (cut_of (selection_of r) r.position) (capacity r s) (ranked (selection_of r))

unfoldable pub page_answer : PageRequest → List ℕ → Result Page Refusal
page_answer r s = unless (paging r s) Err (Ok (record { rows = length (page_rows r s); further = further_row r s }))

unfoldable pub page_slice : PageRequest → List ℕ → List ℕ
page_slice r s = unless (paging r s) (λ (n : Refusal). s) (over 0 (join (page_rows r s)) s)

-- Points: 1, 12, 3 to 6, 11, 8; else words first, first + 1, .. until the slice or the period ends. The last index is 2^m - 2.
unfoldable pub pointing : ℕ → ℕ → ℕ → ℕ → ℕ → List Situation
pointing m floor p q first = judging m floor p q ++ situation (ltb (period m - 1) first) BeyondPeriod ∷ []

abbrev pub word_count : ℕ → ℕ → List ℕ → ℕ
word_count m first s = min (length s) (period m - first)

unfoldable pub points_answer : ℕ → ℕ → ℕ → ℕ → ℕ → List ℕ → Result ℕ Refusal
points_answer m floor p q first s = unless (pointing m floor p q first) Err (Ok (word_count m first s))

unfoldable pub points_slice : ℕ → ℕ → ℕ → ℕ → ℕ → List ℕ → List ℕ
points_slice m floor p q first s =
    unless (pointing m floor p q first) (λ (n : Refusal). s) (over 0 (words p q first (word_count m first s)) s)
