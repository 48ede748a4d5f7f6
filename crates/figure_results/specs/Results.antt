-- A figure of a pair as a struct for C: the values of the answer in their order, of which the first is the refusal's number, and 0 where it has none.
-- Assumes nothing.
use Rattle.std.specs.Prelude.{List, ℕ}
use Rattle.answers.specs.Values.{value}
use Rattle.figure_results.specs.declared.FenyurkaTValue.{FenyurkaTValue}
use Rattle.figure_results.specs.declared.FenyurkaGaps.{FenyurkaGaps}

abbrev pub t_value_result : List ℕ → FenyurkaTValue
t_value_result values = record { refusal = value values 0; t = value values 1 }

abbrev pub gaps_result : List ℕ → FenyurkaGaps
gaps_result values = record { refusal = value values 0; delta = value values 1 }
