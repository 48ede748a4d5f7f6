-- The measure is how many bytes of the line are left.
use Rattle.std.proofs.Common.{length}
use Rattle.line.proofs.+read_line.Given as goal

abbrev pub decreases-read_line : goal.decreases-read_line
decreases-read_line l = length l.line.now
