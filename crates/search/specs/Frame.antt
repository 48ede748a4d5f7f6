-- A search as the contracts name it: its cut, what it has found so far, and the bounds within which it works. Assumes nothing.
use Rattle.std.specs.Prelude.{Option, Some, None, List, ℕ, ◌+◌, ◌*◌, ◌^◌, ◌≤◌, length, take}
use Rattle.std.specs.Borrow.{Bor}
use Rattle.std.proofs.Common.{arith}
use Rattle.definitions.specs.declared.Selection.{Selection}
use Rattle.definitions.specs.Generator.{largest_degree}
use Rattle.definitions.specs.Pages.{Cut, start, after}
use Rattle.definitions.specs.Ranking.{longest_row, row_width, row_key}
use Rattle.number_laws.specs.Bounds.{LawfulDegree, LawfulTop}
use Rattle.number_laws.specs.Count.{bit_most}
use Rattle.page_laws.specs.Slot.{Ordered}
use Rattle.page_laws.specs.Rows.{rows_of}
use Rattle.page_laws.specs.Search.{Search, Good, offered, offer_all}
use Rattle.search.specs.declared.frame.Frame.{Frame}
use Rattle.search.specs.declared.frame.Tally.{Tally}

-- A list of a lawful degree and top dimension.
pub record LawfulList (l : Selection) : Type 0 where
  pub degree : LawfulDegree l.degree
  pub top : LawfulTop l.top

pub width_most : {l : Selection} → LawfulList l → row_width l ≤ longest_row
width_most {l} h = omega (arith, h.top.high, bit_most l.gaps)

abbrev pub width_of : Frame → ℕ
width_of f = row_width f.list

-- Where a page begins: after the row that the first so many numbers are, or at the start.
abbrev pub cut_after : ℕ → Option (Bor (List ℕ)) → Cut
cut_after width (Some r) = after (row_key (take width r.now))
cut_after width None = start

abbrev pub cut_from : Frame → Cut
cut_from f = cut_after (width_of f) f.last

-- What is lent has at least the numbers of a row of the list.
abbrev pub Lent : Selection → Option (Bor (List ℕ)) → Type 0
Lent l (Some r) = row_width l ≤ length r.now
Lent l None = Unit {0}

abbrev pub state_of : List ℕ → Tally → Search
state_of out t = record { out = out; n = t.kept; count = t.count }

-- Rows offered, one after the other.
abbrev pub offers : Frame → List (List ℕ) → Search → Search
offers f rows s = offer_all row_key (width_of f) f.capacity (cut_from f) rows s

abbrev pub offer : Frame → List ℕ → Search → Search
offer f r s = offered row_key (width_of f) f.capacity (cut_from f) r s

-- A lawful list, room for a row of it, and a row that the page begins after, if any.
pub record Framed (f : Frame) : Type 0 where
  pub lawful : LawfulList f.list
  pub some : 1 ≤ f.capacity
  pub lent : Lent f.list f.last

-- A search in good order that can count so many rows more.
pub record Searching (f : Frame) (room : ℕ) (s : Search) : Type 0 where
  pub framed : Framed f
  pub good : Good row_key (width_of f) f.capacity (cut_from f) s
  pub few : s.count + room ≤ 2 ^ largest_degree

-- Rows kept in order within the room there is, in a frame.
pub record Keeping (f : Frame) (n : ℕ) (out : List ℕ) : Type 0 where
  pub lawful : LawfulList f.list
  pub few : n ≤ f.capacity
  pub room : f.capacity * width_of f ≤ length out
  pub order : Ordered row_key (rows_of (width_of f) n out)
