-- The invariant: the value has at most as many digits as were read, and the digits that are left make of it what the word is.
use Rattle.std.proofs.Common.{◌≡◌, ◌^◌, ◌<◌, drop}
use Rattle.line.specs.Word.{word_of, digits_from}
use Rattle.line.proofs.word.read_word.Given as goal

abbrev pub invariant-loop-b : goal.invariant-loop-b
invariant-loop-b l = record {
  few : l.value < 10 ^ l.b-index;
  same : digits_from l.value (drop l.b-index l.word) ≡ word_of l.word;
}
