use Rattle.net_laws.specs.Point.{digit_row}
use Rattle.gaps.specs.Taken.{Taken}
use Rattle.gaps.proofs.cubes.dimensions.Given as goal

abbrev pub invariant-loop-last : goal.invariant-loop-last
invariant-loop-last l = Taken (digit_row l.p l.q) l.digits l.last 0 l.basis
