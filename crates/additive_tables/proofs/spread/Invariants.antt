-- Invariant: the first i entries are copied, and all else is as it was.
use Rattle.additive_tables.specs.Spreading.{Spreading}
use Rattle.additive_tables.proofs.spread.Given as goal

abbrev pub invariant-loop-i : goal.invariant-loop-i
invariant-loop-i l = Spreading l.base l.n l.value l.i l.initial.table l.table
