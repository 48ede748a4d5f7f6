-- The starred examples of document 01, read with floor 0: one table and one theorem, computed. Assumes nothing.
use Rattle.definitions.specs.Base.{Bool, true, false, eqb, List, [], map, ℕ, replicate, Selection, PageRequest, Start}
use Rattle.std.specs.Prelude.{◌≡◌, refl, T, ◌&&◌, ◌∷◌, ◌++◌}
use Rattle.std.proofs.Common.{ap₂, eqb→eq}
use Rattle.definitions.specs.Answers.{judgement_values, uniformity_values, page_values, unless}
use Rattle.definitions.specs.Calls.{judgement, uniformity, page_request, page_answer, page_slice, points_slice, pair_situations, judging, measuring}
use Rattle.definitions.specs.Calls.{position_situations, paging, page_rows, further_row, pointing, resolving}
use Rattle.definitions.specs.Number.{first, largest, every, count, sum, numbers, keep, all, over, gcd_within, gcd}
use Rattle.definitions.specs.Polynomial.{◌⊕◌, degree_within, degree, by_digits_within, by_digits, prod, power, clear, bring_down, divide, quot, rem}
use Rattle.definitions.specs.Generator.{well_formed, order, primitive, found, expansion_within, expansion, linear_quotients, highest, quotient_degree}
use Rattle.definitions.specs.Generator.{step, coprime_step, accepted, reaches_floor, accepted_at}
use Rattle.definitions.specs.Points.{leading, state, word, words, coordinate}
use Rattle.definitions.specs.Net.{every_share, every_box, in_box, is_net, t_value}
use Rattle.definitions.specs.Gaps.{held, even_cubes, resolution, resolution_gap, sum_of_gaps}
use Rattle.definitions.specs.Pages.{before, above, insert, insert_all, sort, rest, page, more}
use Rattle.definitions.specs.Ranking.{t_values, ranks, row, row_key, all_pairs, listed_pairs, ranked, cut_of}

-- The floor that document 01 is read with.
abbrev pub no_floor : ℕ
no_floor = 0

-- What the definitions give, and what document 01 prints.
pub record Example : Type 0 where
  pub defined : List ℕ
  pub printed : List ℕ

-- A pair of degree m is judged: 0, 0 and its step, or the refusal and what it carries.
unfoldable pub judges : ℕ → ℕ → ℕ → List ℕ → Example
unfolding judgement
judges m p q l = record { defined = judgement_values (judgement m no_floor p q); printed = l }

-- The step of a pair of degree m, accepted or not.
unfoldable pub steps : ℕ → ℕ → ℕ → ℕ → Example
steps m p q n = record { defined = step m p q ∷ []; printed = n ∷ [] }

-- The t-value of a pair of degree m in dimension s.
unfoldable pub measures : ℕ → ℕ → ℕ → ℕ → ℕ → Example
unfolding uniformity
measures m p q s t = record { defined = uniformity_values (uniformity m p q s); printed = 0 ∷ t ∷ [] }

-- The list of degree m and top dimension T, without Δ.
abbrev pub list_of : ℕ → ℕ → Selection
list_of m top = record { degree = m; top = top; floor = no_floor; gaps = false }

-- The first page of degree m and top dimension T into n zeros: the row count, whether a further row exists, and the slice afterwards.
unfoldable pub lists : ℕ → ℕ → ℕ → List ℕ → List ℕ → Example
unfolding page_answer page_slice
lists m top n answer slice =
    let r : PageRequest = page_request (list_of m top) Start in
    record { defined = page_values (page_answer r (replicate n 0)) ++ page_slice r (replicate n 0); printed = answer ++ slice }

-- The first word of a pair of degree m.
unfoldable pub begins : ℕ → ℕ → ℕ → ℕ → Example
unfolding points_slice
begins m p q w = record { defined = points_slice m no_floor p q 0 (0 ∷ []); printed = w ∷ [] }

unfoldable pub table : List Example
unfolding judges steps measures lists begins
table =
    judges 2 7 2 (0 ∷ 0 ∷ 1 ∷ [])
    ∷ judges 3 11 7 (0 ∷ 0 ∷ 5 ∷ [])
    ∷ judges 3 13 5 (0 ∷ 0 ∷ 3 ∷ [])
    ∷ judges 3 11 2 (5 ∷ 2 ∷ [])
    ∷ judges 4 31 12 (4 ∷ 0 ∷ [])
    ∷ steps 4 19 12 6
    ∷ judges 4 19 12 (6 ∷ 0 ∷ [])
    ∷ measures 2 7 2 4 1
    ∷ measures 3 11 4 3 1
    ∷ measures 3 11 2 2 1
    ∷ measures 3 8 4 2 2
    ∷ lists 4 3 4 (0 ∷ 0 ∷ 0 ∷ 0 ∷ []) (0 ∷ 0 ∷ 0 ∷ 0 ∷ [])
    ∷ lists 3 4 20 (0 ∷ 0 ∷ 4 ∷ 0 ∷ []) (11 ∷ 4 ∷ 2 ∷ 1 ∷ 1 ∷ 11 ∷ 7 ∷ 5 ∷ 1 ∷ 1 ∷ 13 ∷ 5 ∷ 3 ∷ 1 ∷ 1 ∷ 13 ∷ 7 ∷ 4 ∷ 1 ∷ 1 ∷ [])
    -- 2E5CB972
    ∷ begins 3 11 4 777828722
    ∷ []

-- ---- the theorem, by a test that is computed
same : List ℕ → List ℕ → Bool
same [] [] = true
same [] (y ∷ b) = false
same (x ∷ a) [] = false
same (x ∷ a) (y ∷ b) = eqb x y && same a b

-- The later examples are tested first, so that the lists, which stand late in the table, are still to be put in where an earlier example fails.
agrees : List Example → Bool
agrees [] = true
agrees (e ∷ l) = agrees l && same e.defined e.printed

both : (a b : Bool) → T (a && b) → T a × T b
both true b t = (tt, t)
both false b t = absurd t

same_equal : (a b : List ℕ) → T (same a b) → a ≡ b
unfolding same
same_equal [] [] t = refl
same_equal [] (y ∷ b) t = absurd t
same_equal (x ∷ a) [] t = absurd t
same_equal (x ∷ a) (y ∷ b) t = let h = both (eqb x y) (same a b) t in ap₂ ◌∷◌ (eqb→eq x y h.0) (same_equal a b h.1)

agrees_equal : (l : List Example) → T (agrees l) → map (λ (e : Example). e.defined) l ≡ map (λ (e : Example). e.printed) l
unfolding agrees
agrees_equal [] t = refl
agrees_equal (e ∷ l) t =
    let h = both (agrees l) (same e.defined e.printed) t in
    ap₂ ◌∷◌ (same_equal e.defined e.printed h.1) (agrees_equal l h.0)

-- To unfold this is to unfold all that judging, t-values, Δ, pages and points are defined by but the ranked list, so that they compute.
unfoldable pub calls : ℕ
unfolding first largest every count sum numbers keep all over gcd_within gcd ◌⊕◌ degree_within degree by_digits_within by_digits prod power clear bring_down divide quot rem well_formed order primitive found expansion_within expansion linear_quotients highest quotient_degree step coprime_step accepted reaches_floor accepted_at leading state word words coordinate every_share every_box in_box is_net t_value held even_cubes resolution resolution_gap sum_of_gaps before above insert insert_all sort rest page more t_values ranks row row_key all_pairs listed_pairs cut_of unless pair_situations judging judgement measuring uniformity resolving position_situations paging page_rows further_row page_answer page_slice pointing points_slice
calls = 0

-- The lists of the two starred pages. A page asks for its list more than once, so each is computed here, once.
pub list_three : ranked (list_of 3 4)
    ≡ (11 ∷ 4 ∷ 2 ∷ 1 ∷ 1 ∷ []) ∷ (11 ∷ 7 ∷ 5 ∷ 1 ∷ 1 ∷ []) ∷ (13 ∷ 5 ∷ 3 ∷ 1 ∷ 1 ∷ []) ∷ (13 ∷ 7 ∷ 4 ∷ 1 ∷ 1 ∷ []) ∷ []
unfolding ranked calls
list_three = refl

list_four : ranked (list_of 4 3) ≡ []
unfolding ranked calls
list_four = refl

starred_test : T (agrees table)
unfolding table agrees same judges steps measures lists begins calls
starred_test = rw (list_three, list_four) tt

pub starred_examples : map (λ (e : Example). e.defined) table ≡ map (λ (e : Example). e.printed) table
starred_examples = agrees_equal table starred_test
