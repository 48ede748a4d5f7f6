-- Invariant: after the digits passed the word holds them and the rest is what long division leaves.
use Rattle.word_tables.proofs.WordLaws.{Divided}
use Rattle.word_tables.proofs.word.word_of.Given as goal

abbrev pub invariant-loop : goal.invariant-loop
invariant-loop l = Divided l.p l.y l.counter l.word l.rest
