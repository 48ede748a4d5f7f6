-- What C asks of a list: a page from a position, and the row at a place of its body. Assumes nothing.
use Rattle.std.specs.Prelude.{Bool, not, List, ℕ, eqb}
use Rattle.definitions.specs.Answers.{next_row_values}
use Rattle.definitions.specs.Calls.{page_request}
use Rattle.definitions.specs.Catalogue.{next_row, next_place}
use Rattle.definitions.specs.declared.Position.{Position}
use Rattle.definitions.specs.declared.Selection.{Selection}
use Rattle.definitions.specs.declared.PageRequest.{PageRequest}
use Rattle.row_results.specs.Results.{row_result}
use Rattle.row_results.specs.declared.FenyurkaRow.{FenyurkaRow}
use Rattle.interface.specs.declared.FenyurkaList.{FenyurkaList}

-- Whether C means a list whose rows have Δ: C's truth.
abbrev pub wants_gaps : FenyurkaList → Bool
wants_gaps list = not (eqb list.gaps 0)

-- The list that C means.
abbrev pub list_of : FenyurkaList → Selection
list_of list = record { degree = list.degree; top = list.top; floor = list.floor; gaps = wants_gaps list }

abbrev pub page_of : FenyurkaList → Position → PageRequest
page_of list position = page_request (list_of list) position

-- The next row of the body and the place behind it.
abbrev pub row_at_place : FenyurkaList → List ℕ → ℕ → FenyurkaRow
row_at_place list body place =
    let gaps : Bool = wants_gaps list in
    row_result (next_row_values (next_row list.degree list.top gaps body place)) list.top gaps (next_place list.degree list.top gaps body place)
