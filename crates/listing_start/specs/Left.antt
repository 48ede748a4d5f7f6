-- What is left to print: its text, and what is known of it between two parts. Assumes nothing.
use Rattle.std.specs.Prelude.{List, [], ◌++◌, ℕ, ◌+◌, ◌≤◌, ◌<◌, length}
use Rattle.definitions.specs.Ranking.{row_width}
use Rattle.definitions.specs.Listing.{refused_text, list_text, total_text}
use Rattle.search.specs.Frame.{LawfulList}
use Rattle.cursor.specs.Left.{left, OnList}
use Rattle.cursor.specs.declared.reading.Cursor.{Cursor}
use Rattle.page_line.specs.Due.{most_rows}
use Rattle.paged_rows.specs.Printed.{printed_from}
use Rattle.listing_start.specs.declared.Printing.{Printing}
use Rattle.listing_start.specs.declared.Printing.TheVariants.{Refused, Whole, Rows, Total, Nothing}

-- The text that is left.
abbrev pub text_left : Printing → List ℕ
text_left (Refused n) = refused_text n
text_left (Whole l size) = list_text l size
text_left (Rows c size done) = printed_from size done (left c) ++ total_text (done + length (left c))
text_left (Total n) = total_text n
text_left Nothing = []

-- Between rows: the cursor is on its list, a page has a row, and 32 bits count the rows.
pub record OnWay (c : Cursor) (size done : ℕ) : Type 0 where
  pub on_list : OnList c
  pub some : 1 ≤ size
  pub few : done + length (left c) < most_rows

-- What `start` and each part leave: numbers are of 32 bits, and lists are lawful.
abbrev pub Underway : Printing → Type 0
Underway (Refused n) = n < most_rows
Underway (Whole l size) = LawfulList l × (1 ≤ size)
Underway (Rows c size done) = OnWay c size done
Underway (Total n) = n < most_rows
Underway Nothing = Unit {0}

-- How many numbers a row has, where rows are next.
abbrev pub row_room : Printing → ℕ
row_room (Refused n) = 0
row_room (Whole l size) = 0
row_room (Rows c size done) = row_width c.list
row_room (Total n) = 0
row_room Nothing = 0
