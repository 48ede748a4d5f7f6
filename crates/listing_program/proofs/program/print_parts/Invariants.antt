-- `listing_program::program::print_parts` keeps: what is left is lawful; and what is written and what is left are the whole text. The measure is how
-- many bytes are left. Assumes nothing.
use Rattle.std.proofs.Common.{◌≡◌, List, ◌++◌, ℕ, true}
use Rattle.std.specs.Io.KnownBytes.{Appends}
use Rattle.listing_start.specs.Left.{Underway, text_left}
use Rattle.listing_parts.specs.Parts.{to_go}
use Rattle.listing_program.proofs.program.print_parts.Given as goal

abbrev pub invariant-loop-at : goal.invariant-loop-at
invariant-loop-at g l = record {
  underway : Underway l.at;
  written : (done : List ℕ) × Appends (g.W.Write.contents l.initial.output) (g.W.Write.contents l.output) done × (done ++ text_left l.at ≡ text_left l.fn.first);
}

abbrev pub decreases-loop-at : goal.decreases-loop-at
decreases-loop-at g l = to_go true l.at
