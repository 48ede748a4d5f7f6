-- Demand 3, at every lawful floor. For one degree, top dimension and floor: the first page, then the page after the last row received, until nothing
-- follows, each call with a slice of its own that holds at least one row. No call is refused; the answers that say that more follows are at most as
-- many as there are rows, so the walk ends; and then its pages joined are the whole ranked list, which has each pair accepted at the floor, among all
-- pairs, exactly once, in the one order. By what a walk has come to, call by call. Assumes nothing.
use Rattle.std.specs.Prelude.{◌≡◌, refl, ◌⊎◌, Bool, true, false, ℕ, zero, suc, ◌+◌, ◌≤◌, ◌<◌, length, take}
use Rattle.std.proofs.Common.{inl, inr, arith, length-append}
use mathlib.Core.List.{List, [], ◌∷◌, ◌++◌, Memᴰ, Nodup}
use Rattle.definitions.specs.Number.{bit, join}
use Rattle.definitions.specs.Answers.{page_values}
use Rattle.definitions.specs.Generator.{Pair, lawful_degree, lawful_floor, well_formed, accepted_at}
use Rattle.definitions.specs.Pages.{start}
use Rattle.definitions.specs.Ranking.{lawful_top, row_width, row, row_key, ranked}
use Rattle.definitions.specs.Calls.{page_request, page_rows, further_row, page_answer, page_slice}
use Rattle.definitions.specs.declared.Selection.{Selection}
use Rattle.definitions.specs.declared.Position.{Position}
use Rattle.definitions.specs.declared.Position.TheVariants.{Start}
use Rattle.answers.specs.Values.{value}
use Rattle.page_laws.specs.Ascending.{Ascends}
use Rattle.page_laws.specs.Rows.{rows_of}
use Rattle.ranking_laws.specs.Met.{rule_of}
use Rattle.ranking_laws.specs.Ranked.{RankedRow, ranked_is, ranked_ascends, ranked_once, ranked_in, ranked_out}
use Rattle.ranking_laws.specs.Reading.{after_last, ComeTo, come_to_start, come_to_front, come_to_few}
use Rattle.ranking_laws.specs.Session.{page_answered, page_goes_on, page_ends}

-- The rows of a selected list: strictly ascending by the key, and a row is among them exactly where its pair is accepted at the floor; so each once.
pub record WholeList (l : Selection) (rows : List (List ℕ)) : Type 0 where
  pub ascends : Ascends row_key start rows
  pub once : Nodup rows
  pub each : (s : Pair) → well_formed l.degree s.p s.q ≡ true → accepted_at l.degree l.floor s.p s.q ≡ true
      → Memᴰ (row l s.p s.q) rows
  pub only : (r : List ℕ) → Memᴰ r rows → RankedRow l r

pub ranked_whole : (l : Selection) → WholeList l (ranked l)
ranked_whole l = record { ascends = ranked_ascends l; once = ranked_once l; each = ranked_in l; only = ranked_out l }

-- ---- walks

-- The pages received, each its rows.
abbrev pub Received : Type 0
Received = List (List (List ℕ))

-- A way to ask for pages: `call at s refusal count more left` says that a call at the position, with a slice that held s, has answered these numbers
-- (the refusal's or 0, how many rows, 1 where a further one exists, else 0) and has left `left` in the slice.
abbrev pub PageCall : Type 1
PageCall = Position → List ℕ → ℕ → ℕ → ℕ → List ℕ → Type 0

-- A walk in progress: the pages ps were received, each answer said that more follows, and the next page is asked for at the position: the start, or
-- after the last row received. Each call brought its own slice, which holds a row.
pub data Walked (width : ℕ) (call : PageCall) : Position → Received → Type 0 where
  begun : Walked width call Start []
  more_follows : {at : Position} {ps : Received} {s left : List ℕ} {n : ℕ} → Walked width call at ps → width ≤ length s → call at s 0 n 1 left
      → Walked width call (after_last (rows_of width n left)) (ps ++ rows_of width n left ∷ [])

-- A walk that has ended: the last answer said that nothing follows.
pub data Ended (width : ℕ) (call : PageCall) : Received → Type 0 where
  nothing_follows : {at : Position} {ps : Received} {s left : List ℕ} {n : ℕ} → Walked width call at ps → width ≤ length s → call at s 0 n 0 left
      → Ended width call (ps ++ rows_of width n left ∷ [])

-- THE DEMAND, of the walks of such calls through a list.
pub record ReadsList (l : Selection) (call : PageCall) : Type 0 where
  -- No call on the way is refused, whatever slice it brings that holds a row; it says that more follows or that nothing does.
  pub answered : {at : Position} {ps : Received} → Walked (row_width l) call at ps → (s left : List ℕ) (refusal n more : ℕ)
      → row_width l ≤ length s → call at s refusal n more left → (refusal ≡ 0) × ((more ≡ 0) ⊎ (more ≡ 1))
  -- Answers that say that more follows are at most as many as there are rows, so every walk ends.
  pub ends : {at : Position} {ps : Received} → Walked (row_width l) call at ps → length ps ≤ length (ranked l)
  -- The rows received so far are the first of the list,
  pub front : {at : Position} {ps : Received} → Walked (row_width l) call at ps → join ps ≡ take (length (join ps)) (ranked l)
  -- and at the end they are the list.
  pub whole : {ps : Received} → Ended (row_width l) call ps → join ps ≡ ranked l

-- One call more at a position: with a slice that holds a row, and it has returned.
pub record NextPage (width : ℕ) (call : PageCall) (at : Position) : Type 0 where
  pub lent : List ℕ
  pub room : width ≤ length lent
  pub refusal : ℕ
  pub count : ℕ
  pub more : ℕ
  pub left : List ℕ
  pub returned : call at lent refusal count more left

-- IT ENDS: whoever makes one call more wherever a walk has come to, each after what came before, comes to the end.
module _ (l : Selection) (call : PageCall) (reads : ReadsList l call)
    (next : (at : Position) (ps : Received) → Walked (row_width l) call at ps → NextPage (row_width l) call at) where
  abbrev Finished : Type 0
  Finished = (pages : Received) × Ended (row_width l) call pages

  -- One call more ends the walk, or brings one page more.
  turn : {at : Position} {ps : Received} → Walked (row_width l) call at ps → (c : NextPage (row_width l) call at)
      → (c.refusal ≡ 0) × ((c.more ≡ 0) ⊎ (c.more ≡ 1))
      → ((to : Position) (page : List (List ℕ)) → Walked (row_width l) call to (ps ++ page ∷ []) → Finished) → Finished
  turn w c (z, inl e) on = (_, nothing_follows w c.room (rw (z, e) at c.returned))
  turn w c (z, inr e) on = on _ _ (more_follows w c.room (rw (z, e) at c.returned))

  walk_on : (k : ℕ) (at : Position) (ps : Received) → Walked (row_width l) call at ps → length (ranked l) < length ps + k → Finished
  walk_on zero at ps w h = absurd (omega (arith, reads.ends w))
  walk_on (suc k) at ps w h =
      let c = next at ps w in
      turn w c (reads.answered w c.lent c.left c.refusal c.count c.more c.room c.returned)
      (λ to page v. walk_on k to (ps ++ page ∷ []) v (simp length-append (omega arith)))

  pub walk_ends : (pages : Received) × Ended (row_width l) call pages
  walk_ends = walk_on (length (ranked l) + 1) Start [] begun (omega arith)

-- A call as the definitions have it.
pub record DefinedPage (l : Selection) (at : Position) (s : List ℕ) (refusal count more : ℕ) (left : List ℕ) : Type 0 where
  pub refusal_is : refusal ≡ value (page_values (page_answer (page_request l at) s)) 0
  pub count_is : count ≡ value (page_values (page_answer (page_request l at) s)) 2
  pub more_is : more ≡ value (page_values (page_answer (page_request l at) s)) 3
  pub slice_is : left ≡ page_slice (page_request l at) s

-- Calls are faithful if each is as the definitions have it.
abbrev pub Faithful : Selection → PageCall → Type 0
Faithful l call = (at : Position) (s : List ℕ) (refusal count more : ℕ) (left : List ℕ) → call at s refusal count more left
    → DefinedPage l at s refusal count more left

bit_one : (b : Bool) → 1 ≡ bit b → b ≡ true
bit_one true e = refl
bit_one false e = absurd (omega arith)

bit_zero : (b : Bool) → 0 ≡ bit b → b ≡ false
bit_zero true e = absurd (omega arith)
bit_zero false e = refl

bit_either : (b : Bool) → (bit b ≡ 0) ⊎ (bit b ≡ 1)
bit_either true = inr refl
bit_either false = inl refl

module _ (l : Selection) (degree : lawful_degree l.degree ≡ true) (dimension : lawful_top l.top ≡ true) (floor : lawful_floor l.floor ≡ true) where
  -- What a call says at a position that a walk has come to.
  module _ {at : Position} {ps : Received} (r : ComeTo (rule_of l) at ps) {s left : List ℕ} {x n more : ℕ} (room : row_width l ≤ length s)
      (d : DefinedPage l at s x n more left) where
    no_refusal : x ≡ 0
    no_refusal = rw (page_answered l degree dimension floor r s room) at d.refusal_is

    count_told : n ≡ length (page_rows (page_request l at) s)
    count_told = rw (page_answered l degree dimension floor r s room) at d.count_is

    more_told : more ≡ bit (further_row (page_request l at) s)
    more_told = rw (page_answered l degree dimension floor r s room) at d.more_is

  module _ {call : PageCall} (f : Faithful l call) where
    come_to : {at : Position} {ps : Received} → Walked (row_width l) call at ps → ComeTo (rule_of l) at ps
    come_to begun = come_to_start (rule_of l)
    come_to (more_follows {at = at} {s = s} {left = left} {n = n} w room c) =
        let r = come_to w in
        let d = f at s 0 n 1 left c in
        rw (count_told r room d, d.slice_is) (page_goes_on l degree dimension floor r s room (bit_one _ (more_told r room d)))

    come_whole : {ps : Received} → Ended (row_width l) call ps → join ps ≡ ranked l
    come_whole (nothing_follows {at = at} {s = s} {left = left} {n = n} w room c) =
        let r = come_to w in
        let d = f at s 0 n 0 left c in
        rw (count_told r room d, d.slice_is) (page_ends l degree dimension floor r s room (bit_zero _ (more_told r room d)))

    pub faithful_list : ReadsList l call
    faithful_list = record {
      answered = λ {at} w s left x n more room c.
          let r = come_to w in
          let d = f at s x n more left c in
          (no_refusal r room d, rw (more_told r room d) (bit_either (further_row (page_request l at) s)));
      ends = λ w. rw ranked_is (come_to_few (rule_of l) (come_to w));
      front = λ w. rw ranked_is (come_to_front (rule_of l) (come_to w));
      whole = come_whole;
    }

  -- READ BY THE DEFINITIONS.
  pub definition_reads_list : ReadsList l (DefinedPage l)
  definition_reads_list = faithful_list (λ at s x n more left d. d)

  -- Such a call always returns: with any slices that hold a row, each chosen after what came before, there is such a walk to the end.
  pub definition_walk_ends : (choose : Position → Received → List ℕ) → ((at : Position) (ps : Received) → row_width l ≤ length (choose at ps))
      → (pages : Received) × Ended (row_width l) (DefinedPage l) pages
  definition_walk_ends choose room = walk_ends l (DefinedPage l) definition_reads_list (λ at ps w. record {
    lent = choose at ps;
    room = room at ps;
    refusal = _;
    count = _;
    more = _;
    left = _;
    returned = record { refusal_is = refl; count_is = refl; more_is = refl; slice_is = refl };
  })
