-- Invariant: the words passed are written, behind them all is as it was, and y is the state of the next word.
use Prim.Native.Nat.{◌<◌, ◌^◌}
use Rattle.words.proofs.WritingLaws.{Writing}
use Rattle.words.proofs.writing.write_many.Given as goal

abbrev pub invariant-loop-word : goal.invariant-loop-word
invariant-loop-word l = Writing l.p l.q l.first l.fn.out l.word-items l.y l.word-index × (l.y < 2 ^ l.m)
