-- Invariant: the first i places are filled.
use Rattle.counting_laws.specs.Building.{Building}
use Rattle.counter.proofs.build_points.Given as goal

abbrev pub invariant-loop-i : goal.invariant-loop-i
invariant-loop-i l = Building l.m l.p l.q l.i l.points
