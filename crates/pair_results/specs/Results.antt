-- What judging and the quotient test answer, as a struct for C: its values in their order, of which the first is the refusal's number, and 0 where it has none.
-- Assumes nothing.
use Rattle.std.specs.Prelude.{List, ℕ}
use Rattle.answers.specs.Values.{value}
use Rattle.pair_results.specs.declared.FenyurkaJudgement.{FenyurkaJudgement}
use Rattle.pair_results.specs.declared.FenyurkaQuotients.{FenyurkaQuotients}

abbrev pub judgement_result : List ℕ → FenyurkaJudgement
judgement_result values = record { refusal = value values 0; quotient_degree = value values 1; step = value values 2 }

abbrev pub quotients_result : List ℕ → FenyurkaQuotients
quotients_result values = record { refusal = value values 0; quotient_degree = value values 1; common_degree = value values 2 }
