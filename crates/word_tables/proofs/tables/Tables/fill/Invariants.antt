-- Invariant: n is a power of two, and the first n entries of both tables are right.
use Prim.Native.Nat.{◌-◌}
use Rattle.word_tables.specs.Tables.{size}
use Rattle.word_tables.specs.Filling.{Filling}
use Rattle.word_tables.proofs.tables.Tables.fill.Given as goal

abbrev pub invariant-loop-n : goal.invariant-loop-n
invariant-loop-n l = Filling l.m l.p l.q l.unit l.n l.self.next l.self.word

abbrev pub decreases-loop-n : goal.decreases-loop-n
decreases-loop-n l = size - l.n
