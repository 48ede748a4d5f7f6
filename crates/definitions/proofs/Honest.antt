-- Laws that keep the definitions honest: what a reader would check first. By the definitions' own cases. Assumes nothing.
use Rattle.definitions.specs.Base.{Bool, true, false, List, [], map, ℕ, zero, suc, eqb, length, drop, Refusal, Position, Start}
use Rattle.definitions.specs.Base.{After, PageRequest}
use Rattle.std.specs.Prelude.{◌≡◌, refl, ◌≤◌, ◌<◌, ◌∷◌, ◌++◌, ◌+◌, ◌/◌}
use Rattle.std.proofs.Common.{◌∙◌, zero-add, arith, take_all, drop_at, length-take-le, ltb-true, ltb-false, eqb-true, le-leb}
use Rattle.std.proofs.Math.Bool.{and-eq-true_iff}
use Rattle.definitions.specs.Number.{first, sum, numbers, all, over}
use Rattle.definitions.specs.Answers.{refusal_number, Situation, unless}
use Rattle.definitions.specs.Generator.{expansion, linear, linear_quotients, step, reaches_floor}
use Rattle.definitions.specs.Net.{is_net, t_value}
use Rattle.definitions.specs.Gaps.{resolution, resolution_gap, sum_of_gaps}
use Rattle.definitions.specs.Pages.{Cut, before, rest, page, more}
use Rattle.definitions.specs.Ranking.{row, row_key}
use Rattle.definitions.specs.Calls.{judging, counting, resolving, page_request, paging, pointing}
use Rattle.definitions.proofs.Examples.{calls}
use Rattle.definitions.specs.Listing.{newline, line_of, words_of, is_number, decimal_from, line_numbers, letters, decimal_within, decimal}
use Rattle.definitions.specs.Recount.{both_text, pair_text, recount_text, recount}
use Rattle.definitions.specs.Writing.{entries_of, ranked_file, lawful_degrees, lawful_tops, ascending, entering, writing, file_buffer}

-- A page that says that nothing follows has every row above its cut.
pub end_has_all : {X : Type 0} (key : X → List ℕ) (at : Cut) (k : ℕ) (l : List X) → more key at k l ≡ false → page key at k l ≡ rest key at l
unfolding more page
end_has_all key at k l e = take_all k (rest key at l) (ltb-false k (length (rest key at l)) e)

-- A page that says that a row follows has left one out.
pub more_leaves_out : {X : Type 0} (key : X → List ℕ) (at : Cut) (k : ℕ) (l : List X)
    → more key at k l ≡ true → length (page key at k l) < length (rest key at l)
unfolding more page
more_leaves_out key at k l e =
    let h = ltb-true k (length (rest key at l)) e in
    omega (arith, length-take-le k (rest key at l) (omega arith))

-- Where the quotients are linear there is no common factor.
pub linear_no_common : (p q : ℕ) → linear_quotients p q ≡ true → (expansion p q).common ≡ 1
unfolding linear_quotients
linear_no_common p q e = eqb-true (expansion p q).common 1 ((and-eq-true_iff (all linear (expansion p q).quotients) (eqb (expansion p q).common 1)).0 e).1

-- A step that equals the floor is large enough.
pub floor_included : (m p q : ℕ) → reaches_floor m (step m p q) p q ≡ true
unfolding reaches_floor
floor_included m p q = le-leb (step m p q) (step m p q) (omega arith)

first_at_most : (n a : ℕ) (test : ℕ → Bool) → first n a test ≤ a + n
unfolding first
first_at_most zero a test = omega arith
first_at_most (suc n) a test = go (test a) (first_at_most n (suc a) test)
  where
    go : (b : Bool) → first n (suc a) test ≤ suc a + n → elim b [ true ↦ a | false ↦ first n (suc a) test ] ≤ a + suc n
    go true ih = omega arith
    go false ih = omega arith

-- t is in 0..m.
pub t_value_at_most : (m p q s : ℕ) → t_value m p q s ≤ m
unfolding t_value
t_value_at_most m p q s = omega (arith, first_at_most m 0 (is_net m p q s))

-- What holds of each refusal and of the value holds of the answer.
either_way : {A : Type 0} (P : A → Type 0) (l : List Situation) (refuse : Refusal → A) (value : A) → ((r : Refusal) → P (refuse r)) → P value
    → P (unless l refuse value)
unfolding unless
either_way P [] refuse value refused given = given
either_way P (s ∷ l) refuse value refused given = go s.applies (either_way P l refuse value refused given)
  where
    go : (b : Bool) → P (unless l refuse value) → P (elim b [ true ↦ refuse s.refusal | false ↦ unless l refuse value ])
    go true ih = refused s.refusal
    go false ih = ih

-- Writing a file leaves the bytes behind it as they were.
pub tail_stays : (floor : ℕ) (e s : List ℕ)
    → drop (length (ranked_file (entries_of floor e))) (file_buffer floor e s) ≡ drop (length (ranked_file (entries_of floor e))) s
unfolding file_buffer over
tail_stays floor e s =
    let file = ranked_file (entries_of floor e) in
    let n = length file in
    either_way (λ (t : List ℕ). drop n t ≡ drop n s) (writing floor e s) (λ (r : Refusal). s) (over 0 file s) (λ r. refl)
    (drop_at file (drop (0 + n) s) n refl ∙ rw zero-add)

-- Where a T is wrong and the degrees do not ascend, the T decides.
pub top_before_order : unless (entering 0 (entries_of 0 (5 ∷ 4 ∷ 3 ∷ 9 ∷ []))) refusal_number 0 ≡ 2
unfolding unless entering entries_of lawful_degrees lawful_tops ascending all
top_before_order = refl

-- The request for a page of degree 3, without Δ and with it.
abbrev page_of : ℕ → ℕ → Position → PageRequest
page_of top floor at = page_request (record { degree = 3; top = top; floor = floor; gaps = false }) at

abbrev gaps_page_of : ℕ → PageRequest
gaps_page_of top = page_request (record { degree = 3; top = top; floor = 0; gaps = true }) Start

-- Where 12 or 11 meets another number, the order of document 02 decides: in judging, for a page, in points and in writing.
pub floor_orders : map (λ (l : List Situation). unless l refusal_number 0)
    (judging 17 33 16 1 ∷ judging 3 33 16 1 ∷ judging 4 32 19 12 ∷ paging (page_of 9 33 Start) [] ∷ paging (page_of 4 33 (After 16 1)) []
    ∷ paging (page_of 4 6 (After 11 7)) [] ∷ pointing 3 6 11 7 7
    ∷ entering 33 (entries_of 33 (3 ∷ 9 ∷ [])) ∷ entering 33 (entries_of 33 (5 ∷ 4 ∷ 3 ∷ 4 ∷ [])) ∷ [])
    ≡ 1 ∷ 12 ∷ 6 ∷ 2 ∷ 12 ∷ 11 ∷ 11 ∷ 2 ∷ 12 ∷ []
unfolding calls entering entries_of lawful_degrees lawful_tops ascending
floor_orders = refl

-- The plain counter counts degree 8 and not 9; where 1, 2 and 3 meet, the lowest is given.
pub counting_orders : map (λ (l : List Situation). unless l refusal_number 0)
    (counting 8 440 53 8 ∷ counting 9 529 100 3 ∷ counting 1 2 1 1 ∷ counting 9 16 1 9 ∷ counting 3 16 1 9 ∷ counting 3 16 1 2 ∷ [])
    ≡ 0 ∷ 1 ∷ 1 ∷ 1 ∷ 2 ∷ 3 ∷ []
unfolding calls counting
counting_orders = refl

-- Δ of (x^3 + x + 1, 1), (x^3 + x + 1, x^2) and (x^3 + x, x^2), which is not primitive, and l_1, l_2, l_3 of (x^3, x^2): as a script apart from the
-- library counts points in cubes.
pub gaps_counted : sum_of_gaps 3 11 1 ∷ sum_of_gaps 3 11 4 ∷ sum_of_gaps 3 10 4 ∷ map (resolution 3 8 4) (numbers 1 3) ≡ 2 ∷ 0 ∷ 1 ∷ 3 ∷ 1 ∷ 0 ∷ []
unfolding calls
gaps_counted = refl

-- At most all gaps there can be.
pub gaps_at_most : (m p q : ℕ) → sum_of_gaps m p q ≤ sum m (λ (s : ℕ). m / s)
unfolding sum_of_gaps sum resolution_gap
gaps_at_most m p q = go m
  where
    go : (n : ℕ) → sum n (resolution_gap m p q) ≤ sum n (λ (s : ℕ). m / s)
    go zero = omega arith
    go (suc n) = omega (arith, go n)

-- Among equal t-values the smaller Δ stands first, whatever p is; among equal Δ the smaller p.
pub delta_before_p : map (before (row_key (13 ∷ 7 ∷ 4 ∷ 1 ∷ 1 ∷ 5 ∷ []))) (row_key (11 ∷ 4 ∷ 2 ∷ 1 ∷ 1 ∷ 6 ∷ []) ∷ row_key (11 ∷ 4 ∷ 2 ∷ 1 ∷ 1 ∷ 5 ∷ []) ∷ [])
    ≡ true ∷ false ∷ []
unfolding before row_key
delta_before_p = refl

-- A row with Δ has it as its last number.
pub gaps_row : row (record { degree = 3; top = 4; floor = 0; gaps = true }) 11 4 ≡ 11 ∷ 4 ∷ 2 ∷ 1 ∷ 1 ∷ 0 ∷ []
unfolding calls
gaps_row = refl

-- Δ alone is refused with 1, then 3. A page of T = 4 with Δ needs 6 numbers, without it 5; a page asks with T itself, the writer with T + 16.
pub gaps_orders : map (λ (l : List Situation). unless l refusal_number 0)
    (resolving 17 16 1 ∷ resolving 3 16 1 ∷ resolving 3 8 4
    ∷ paging (gaps_page_of 4) (numbers 1 5) ∷ paging (gaps_page_of 4) (numbers 1 6) ∷ paging (page_of 4 0 Start) (numbers 1 5) ∷ paging (gaps_page_of 20) []
    ∷ entering 0 (entries_of 0 (3 ∷ 20 ∷ [])) ∷ entering 0 (entries_of 0 (3 ∷ 18 ∷ [])) ∷ entering 0 (entries_of 0 (3 ∷ 25 ∷ [])) ∷ [])
    ≡ 1 ∷ 3 ∷ 0 ∷ 7 ∷ 0 ∷ 0 ∷ 2 ∷ 0 ∷ 2 ∷ 2 ∷ []
unfolding calls resolving entering entries_of lawful_degrees lawful_tops ascending
gaps_orders = refl

-- What document 02 prints for `3 11 2 2`.
pub recount_example : recount (letters "3 11 2 2") ≡ letters "quick 1 count 1" ++ newline ∷ []
unfolding calls counting line_of words_of is_number decimal_from line_numbers decimal_within decimal both_text pair_text recount_text recount
recount_example = refl
