-- The invariant: the rows handed out stand as bytes at the place, and the cursor has the others left.
use mathlib.Core.Path.{◌≡◌}
use mathlib.Core.Bool.{true}
use lib.ListN.{length}
use Rattle.cursor.specs.Turns.{to_go}
use Rattle.catalogue_body.proofs.BodyLaws as laws
use Rattle.catalogue_body.proofs.write_body.Given as goal

abbrev pub invariant-loop-list : goal.invariant-loop-list
invariant-loop-list l = laws.Underway l.list l.initial.file l.at true l.done l.here l.file × (length l.rows ≡ length l.initial.rows)

abbrev pub decreases-loop-list : goal.decreases-loop-list
decreases-loop-list l = to_go true l.here
