-- `test_catalogues::walk::rows` ends: the measure is how many bytes of the body are behind the reader's place. Assumes nothing.
use Rattle.test_catalogues.proofs.Moved.{behind}
use Rattle.test_catalogues.proofs.walk.rows.Given as goal

abbrev pub decreases-loop-r : goal.decreases-loop-r
decreases-loop-r g l = behind l.at
