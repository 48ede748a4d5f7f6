-- An answer beside a lent slice as a struct for C: its values, of which the first is the refusal's number, and 0 where it has none.
-- Assumes nothing.
use Rattle.std.specs.Prelude.{List, ℕ}
use Rattle.answers.specs.Values.{value}
use Rattle.slice_results.specs.declared.FenyurkaPage.{FenyurkaPage}
use Rattle.slice_results.specs.declared.FenyurkaPoints.{FenyurkaPoints}

abbrev pub page_result : List ℕ → FenyurkaPage
page_result values = record { refusal = value values 0; quotient_degree = value values 1; more = value values 3; count = value values 2 }

abbrev pub points_result : List ℕ → FenyurkaPoints
points_result values = record { refusal = value values 0; quotient_degree = value values 1; count = value values 2 }
