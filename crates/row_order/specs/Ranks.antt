-- The numbers that rank a row, its t-values and Δ where it has it, as they stand in it. Assumes nothing.
use Rattle.std.specs.Prelude.{List, ℕ, take, drop}
use Rattle.definitions.specs.Ranking.{ranks_from}

-- Those among the first s numbers of a row.
unfoldable pub ranks_of : ℕ → List ℕ → List ℕ
ranks_of s r = drop ranks_from (take s r)
