-- Whether a position is refused, as its pair is. Assumes nothing.
use Rattle.std.specs.Prelude.{ℕ, Result, Ok, Err}
use Rattle.definitions.specs.Answers.{unless}
use Rattle.definitions.specs.Calls.{position_situations}
use Rattle.definitions.specs.declared.Position.{Position}
use Rattle.definitions.specs.declared.Refusal.{Refusal}

unfoldable pub position_verdict : ℕ → ℕ → Position → Result (Unit {0}) Refusal
position_verdict m floor at = unless (position_situations m floor at) Err (Ok tt)
