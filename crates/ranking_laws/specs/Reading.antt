-- READING PAGE BY PAGE, for a list by any rule: the first page, then the page after the last row received, and so on. The last row's pair is one of
-- the list, and the cut after it is the cut behind the page; so the pages received and the rows above the position are the list, at every
-- position that is come to, and each page that another row follows has brought one. Assumes nothing.
use Rattle.std.specs.Prelude.{◌≡◌, refl, Bool, true, false, ℕ, suc, ◌+◌, ◌-◌, ◌*◌, ◌≤◌, ◌<◌, length, take, drop, get_or}
use Rattle.std.proofs.Common.{sym, ap, ◌∙◌, length-append, get_or-take, get_or-drop}
use mathlib.Core.List.{List, [], ◌∷◌, ◌++◌, append_assoc, Memᴰ}
use native.Mathlib.Omega.{arith}
use Rattle.std.proofs.Math.ListN.{take-append-drop}
use Rattle.std.proofs.Math.Seq.{length-take-le, take-append_seam}
use borrow.Author.Tests.{ltb-true}
use Rattle.definitions.specs.Number.{join}
use Rattle.definitions.specs.Generator.{Pair, well_formed}
use Rattle.definitions.specs.Pages.{Cut, start, after, rest, page, more}
use Rattle.definitions.proofs.Honest.{end_has_all}
use Rattle.definitions.specs.Ranking.{row_key}
use Rattle.definitions.specs.declared.Position.{Position}
use Rattle.definitions.specs.declared.Position.TheVariants.{Start, After}
use Rattle.page_laws.specs.Ascending.{rest_all}
use Rattle.page_laws.specs.Behind.{behind, rest_page}
use Rattle.page_laws.specs.Members.{page_out}
use Rattle.page_laws.specs.Rows.{rows_of, Wide, length_rows, row_at_lem, join_last}
use Rattle.page_laws.specs.Search.{wide_page}
use Rattle.ranking_laws.specs.Rule.{Rule, width_by, ranked_by, ListedRow, ranked_by_ascends, ranked_by_wide, ranked_by_out}

-- ---- positions

-- A position as a cut: after a pair means after its key.
unfoldable pub cut_by : Rule → Position → Cut
cut_by k Start = start
cut_by k (After p q) = after (row_key (k.row (record { p = p; q = q })))

-- The start, or after a pair of the list.
pub data ListedPosition (k : Rule) : Position → Type 0 where
  at_start : ListedPosition k Start
  after_listed : {p q : ℕ} → well_formed k.degree p q ≡ true → k.admits (record { p = p; q = q }) ≡ true → ListedPosition k (After p q)

-- The last of some rows; r where there is none.
unfoldable pub last_row : List ℕ → List (List ℕ) → List ℕ
last_row r [] = r
last_row r (x ∷ rows) = last_row x rows

-- After the pair of the last row received.
abbrev pub after_last : List (List ℕ) → Position
after_last rows = After (get_or (last_row [] rows) 0 0) (get_or (last_row [] rows) 1 0)

last_member : (rows : List (List ℕ)) → 1 ≤ length rows → Memᴰ (last_row [] rows) rows
unfolding last_row
last_member [] h = absurd (omega arith)
last_member (x ∷ []) h = Memᴰ.head refl
last_member (x ∷ y ∷ rows) h = Memᴰ.tail (last_member (y ∷ rows) (omega arith))

behind_last : (at : Cut) (rows : List (List ℕ)) → 1 ≤ length rows → behind row_key at rows ≡ after (row_key (last_row [] rows))
unfolding behind last_row
behind_last at [] h = absurd (omega arith)
behind_last at (x ∷ []) h = refl
behind_last at (x ∷ y ∷ rows) h = behind_last (after (row_key x)) (y ∷ rows) (omega arith)

last_at : (rows : List (List ℕ)) → 1 ≤ length rows → last_row [] rows ≡ get_or rows (length rows - 1) []
unfolding last_row
last_at [] h = absurd (omega arith)
last_at (x ∷ []) h = refl
last_at (x ∷ y ∷ rows) h = last_at (y ∷ rows) (omega arith) ∙ rw last_place
  where
    last_place : suc (suc (length rows)) - 1 ≡ suc (length (y ∷ rows) - 1)
    last_place = omega arith

-- The numbers of the last of n rows in a slice.
pub last_number : (w n i : ℕ) (t : List ℕ) → 1 ≤ n → i < w → get_or (last_row [] (rows_of w n t)) i 0 ≡ get_or t ((n - 1) * w + i) 0
last_number w n i t h l =
    let long = length_rows w n t in
    rw (last_at (rows_of w n t) (omega arith), long, row_at_lem w n (n - 1) t (omega arith), get_or-take w (drop ((n - 1) * w) t) i 0 l, get_or-drop)

module _ (k : Rule) where
  -- A row of the list begins with its pair.
  row_pair : {r : List ℕ} (h : ListedRow k r) → (get_or r 0 0 ≡ h.pair.p) × (get_or r 1 0 ≡ h.pair.q)
  row_pair h = rw (← h.is, k.begins h.pair) (refl, refl)

  module _ (rows : List (List ℕ)) (some : 1 ≤ length rows) (each : (r : List ℕ) → Memᴰ r rows → ListedRow k r) where
    last_row_lem : ListedRow k (last_row [] rows)
    last_row_lem = each (last_row [] rows) (last_member rows some)

    cut_last : (at : Cut) → cut_by k (after_last rows) ≡ behind row_key at rows
    unfolding cut_by
    cut_last at = rw ((row_pair last_row_lem).0, (row_pair last_row_lem).1, last_row_lem.is) (sym (behind_last at rows some))

    listed_last : ListedPosition k (after_last rows)
    listed_last = rw ((row_pair last_row_lem).0, (row_pair last_row_lem).1) (after_listed last_row_lem.is_well_formed last_row_lem.passes)

  -- ---- pages at a position

  -- The rows above a position; the first n of them; whether there are more than n.
  abbrev pub left_by : Position → List (List ℕ)
  left_by at = rest row_key (cut_by k at) (ranked_by k)

  abbrev pub page_by : Position → ℕ → List (List ℕ)
  page_by at n = page row_key (cut_by k at) n (ranked_by k)

  abbrev pub more_by : Position → ℕ → Bool
  more_by at n = more row_key (cut_by k at) n (ranked_by k)

  page_listed : (at : Position) (n : ℕ) (r : List ℕ) → Memᴰ r (page_by at n) → ListedRow k r
  page_listed at n r i = ranked_by_out k r (page_out row_key (cut_by k at) n (ranked_by k) i).0

  pub page_wide : (at : Position) (n : ℕ) → Wide (width_by k) (page_by at n)
  page_wide at n = wide_page row_key (width_by k) (cut_by k at) n (ranked_by k) (ranked_by_wide k)

  -- A page with room for a row that is followed by another has a row.
  some_row : (at : Position) (n : ℕ) → 1 ≤ n → more_by at n ≡ true → 1 ≤ length (page_by at n)
  unfolding more page
  some_row at n h t =
      let long = ltb-true n (length (left_by at)) t in
      omega (arith, length-take-le n (left_by at) (omega arith))

  page_left : (at : Position) (n : ℕ) → page_by at n ++ drop n (left_by at) ≡ left_by at
  unfolding page
  page_left at n = take-append-drop n (left_by at)

  -- After the last row of a page stand the rows that it left over.
  pub left_after : (at : Position) (n : ℕ) → 1 ≤ length (page_by at n) → left_by (after_last (page_by at n)) ≡ drop n (left_by at)
  left_after at n some =
      rw (cut_last (page_by at n) some (page_listed at n) (cut_by k at)) (rest_page row_key (ranked_by k) (ranked_by_ascends k) (cut_by k at) n)

  pub listed_after : (at : Position) (n : ℕ) → 1 ≤ length (page_by at n) → ListedPosition k (after_last (page_by at n))
  listed_after at n some = listed_last (page_by at n) some (page_listed at n)

-- ---- from page to page

-- What a walk has come to: a position of the list; the pages received and the rows above the position are the list; and each page had a row.
pub record ComeTo (k : Rule) (at : Position) (ps : List (List (List ℕ))) : Type 0 where
  pub listed : ListedPosition k at
  pub whole : join ps ++ left_by k at ≡ ranked_by k
  pub few : length ps ≤ length (join ps)

module _ (k : Rule) where
  pub come_to_start : ComeTo k Start []
  unfolding cut_by
  come_to_start = record { listed = at_start; whole = rest_all row_key start (ranked_by k) (ranked_by_ascends k); few = omega arith }

  module _ {at : Position} {ps : List (List (List ℕ))} (r : ComeTo k at ps) where
    -- A page that another row follows.
    pub come_to_page : (n : ℕ) → 1 ≤ n → more_by k at n ≡ true → ComeTo k (after_last (page_by k at n)) (ps ++ page_by k at n ∷ [])
    come_to_page n room t =
        let rows = page_by k at n in
        let some = some_row k at n room t in
        record {
          listed = listed_after k at n some;
          whole = rw (join_last ps rows, left_after k at n some, append_assoc) (ap (λ (l : List (List ℕ)). join ps ++ l) (page_left k at n) ∙ r.whole);
          few = rw (join_last ps rows) (simp length-append (omega (arith, r.few)));
        }

    -- A page that nothing follows.
    pub come_to_last : (n : ℕ) → more_by k at n ≡ false → join (ps ++ page_by k at n ∷ []) ≡ ranked_by k
    come_to_last n f = rw (join_last, end_has_all row_key (cut_by k at) n (ranked_by k) f) r.whole

    pub come_to_front : join ps ≡ take (length (join ps)) (ranked_by k)
    come_to_front = rw (← r.whole) (sym (take-append_seam (join ps) (left_by k at)))

    pub come_to_few : length ps ≤ length (ranked_by k)
    come_to_few = omega (arith, r.few, simp length-append at (ap length r.whole))
