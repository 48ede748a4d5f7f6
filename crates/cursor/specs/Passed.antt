-- A cursor behind the next rows: it is of the same list, after a row of it, and has the others left. From the laws of a page: after its last row
-- stand the rows that it left over. Assumes nothing.
use Rattle.std.specs.Prelude.{◌≡◌, refl, List, [], ◌∷◌, ℕ, ◌≤◌, length, take, drop}
use Rattle.std.proofs.Common.{sym, ap, subst, ◌∙◌, arith, take-append-drop}
use Rattle.definitions.specs.Pages.{page}
use Rattle.ranking_laws.specs.Rule.{Rule}
use Rattle.ranking_laws.specs.Met.{rule_of}
use Rattle.ranking_laws.specs.Ranked.{ranked_is}
use Rattle.ranking_laws.specs.Reading.{ListedPosition, after_last, left_by, page_by, left_after, listed_after}
use Rattle.ranking_laws.specs.Session.{cut_is}
use Rattle.cursor.specs.Left.{left, passed, OnList}
use Rattle.cursor.specs.declared.reading.Cursor.{Cursor}

abbrev pub rule_at : Cursor → Rule
rule_at c = rule_of c.list

left_by_lem : (c : Cursor) → left c ≡ left_by (rule_at c) c.position
unfolding left
left_by_lem c = rw (cut_is c.list c.position, ranked_is c.list)

pub page_by_lem : (c : Cursor) (k : ℕ) → page_by (rule_at c) c.position k ≡ take k (left c)
unfolding page
page_by_lem c k = ap (take k) (sym (left_by_lem c))

-- Behind some rows.
pub passed_some : (c : Cursor) (rows : List (List ℕ)) → 1 ≤ length rows
    → passed c rows ≡ record { list = c.list; position = after_last rows }
passed_some c [] h = absurd (omega arith)
passed_some c (r ∷ rows) h = refl

pub passed_list : (c : Cursor) (rows : List (List ℕ)) → (passed c rows).list ≡ c.list
passed_list c [] = refl
passed_list c (r ∷ rows) = refl

module _ (c : Cursor) (k : ℕ) where
  some_page : {r : List ℕ} {rows : List (List ℕ)} → take k (left c) ≡ r ∷ rows → 1 ≤ length (page_by (rule_at c) c.position k)
  some_page e = rw (page_by_lem c k, e) (omega arith)

  pub passed_left : left (passed c (take k (left c))) ≡ drop k (left c)
  passed_left = go (take k (left c)) refl
    where
      go : (rows : List (List ℕ)) → take k (left c) ≡ rows → left (passed c rows) ≡ drop k (left c)
      go [] e = sym (rw e at (take-append-drop k (left c)))
      go (r ∷ rows) e =
          left_by_lem (passed c (r ∷ rows))
          ∙ ap (λ (l : List (List ℕ)). left_by (rule_at c) (after_last l)) (sym (page_by_lem c k ∙ e))
          ∙ left_after (rule_at c) c.position k (some_page e)
          ∙ ap (drop k) (sym (left_by_lem c))

  pub passed_on : OnList c → OnList (passed c (take k (left c)))
  passed_on on = go (take k (left c)) refl
    where
      go : (rows : List (List ℕ)) → take k (left c) ≡ rows → OnList (passed c rows)
      go [] e = on
      go (r ∷ rows) e =
          let listed = subst (λ (l : List (List ℕ)). ListedPosition (rule_at c) (after_last l)) (page_by_lem c k ∙ e)
          (listed_after (rule_at c) c.position k (some_page e)) in
          record { lawful = on.lawful; listed = listed }
