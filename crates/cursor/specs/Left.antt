-- A cursor over a ranked list: which rows are left, and what a portion of them is. Assumes nothing.
use Rattle.std.specs.Prelude.{◌≡◌, List, [], ◌∷◌, ℕ, ◌/◌, min, ltb, length, take, drop}
use Rattle.definitions.specs.Number.{join, over}
use Rattle.definitions.specs.Pages.{rest}
use Rattle.definitions.specs.Ranking.{row_width, row_key, ranked, cut_of}
use Rattle.definitions.specs.declared.Selection.{Selection}
use Rattle.definitions.specs.declared.Position.TheVariants.{Start}
use Rattle.ranking_laws.specs.Met.{rule_of}
use Rattle.ranking_laws.specs.Reading.{ListedPosition, after_last}
use Rattle.search.specs.Frame.{LawfulList}
use Rattle.cursor.specs.declared.reading.Cursor.{Cursor}
use Rattle.cursor.specs.declared.reading.Portion.{Portion}

-- The rows that are left: those of the ranked list above the cursor's position.
unfoldable pub left : Cursor → List (List ℕ)
left c = rest row_key (cut_of c.list c.position) (ranked c.list)

-- Before the first row of a list.
abbrev pub start_of : Selection → Cursor
start_of l = record { list = l; position = Start }

-- Behind rows that were handed out: after the pair of the last of them.
abbrev pub passed : Cursor → List (List ℕ) → Cursor
passed c [] = c
passed c (r ∷ rows) = record { list = c.list; position = after_last (r ∷ rows) }

-- A cursor of a lawful list, at its start or after a row of it.
pub record OnList (c : Cursor) : Type 0 where
  pub lawful : LawfulList c.list
  pub listed : ListedPosition (rule_of c.list) c.position

-- A portion handed out at a cursor, with the slice s that is t now.
pub record Handed (c : Cursor) (s : List ℕ) (r : Portion) (t : List ℕ) : Type 0 where
  -- As many rows as fit, or all that are left,
  pub count : r.rows ≡ min (length s / row_width c.list) (length (left c))
  -- the next ones, stand over the front of the slice.
  pub written : t ≡ over 0 (join (take r.rows (left c))) s
  -- The cursor behind them, of the same list, has the others left,
  pub next : r.next ≡ passed c (take r.rows (left c))
  pub list : r.next.list ≡ c.list
  pub on_list : OnList r.next
  pub behind : left r.next ≡ drop r.rows (left c)
  -- and it is said whether there are any.
  pub more : r.more ≡ ltb 0 (length (left r.next))
