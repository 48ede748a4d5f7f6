-- A row of a body as a struct for C: its numbers as a page has them, how many they are, and the place behind it.
-- Assumes nothing.
use Rattle.std.specs.Prelude.{Bool, cond, ◌&&◌, List, ◌∷◌, map, ℕ, ◌+◌, eqb, ltb, length, take}
use Rattle.definitions.specs.Number.{bit, numbers}
use Rattle.definitions.specs.Ranking.{least_top, largest_top, longest_row}
use Rattle.definitions.specs.Catalogue.{values_size}
use Rattle.answers.specs.Values.{value}
use Rattle.row_results.specs.declared.FenyurkaRow.{FenyurkaRow}

-- By a row's values, the number behind t(s): Δ, its last value, where s is T and the row has it; else t(s + 1), and 0 behind t(8).
abbrev pub behind_t : List ℕ → ℕ → Bool → ℕ → ℕ
behind_t values top gaps s = cond (gaps && eqb top s) (value values longest_row) (value (take longest_row values) (s + 2))

-- The numbers of a page's row, and 0 behind them.
abbrev pub page_row : List ℕ → ℕ → Bool → List ℕ
page_row values top gaps =
    value values 1 ∷ value values 2 ∷ value values 3 ∷ value values 4 ∷ map (behind_t values top gaps) (numbers least_top (values_size largest_top))

-- The next row, of top dimension T, by its values, and the place behind it. T + 1 of the numbers count, and one more with Δ. At the end there are no
-- values, so none counts.
abbrev pub row_result : List ℕ → ℕ → Bool → ℕ → FenyurkaRow
row_result values top gaps next = record {
  count = cond (ltb 1 (length values)) (top + 1 + bit gaps) 0;
  next = next;
  numbers = page_row values top gaps;
}
