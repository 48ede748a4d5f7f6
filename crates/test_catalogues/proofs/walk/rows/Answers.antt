-- `test_catalogues::walk::rows`: what was handed out is a row, so the reader that is moved on has less behind its place. Assumes nothing.
use Rattle.std.proofs.Common.{sym, ◌∙◌}
use Rattle.test_catalogues.proofs.Moved.{moved_on}
use Rattle.test_catalogues.proofs.walk.rows.Goals as goal

pub loop-r-smaller : goal.loop-r-smaller
loop-r-smaller g c =
    moved_on c.loop-r.at c.advance-at.result (sym c.next.ensures ∙ c.in-Some.is) c.advance-at.ensures.1 c.advance-at.ensures.5
