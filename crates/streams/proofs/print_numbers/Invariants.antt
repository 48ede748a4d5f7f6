-- `streams::print_numbers` has written the word and the numbers before the index. Assumes nothing.
use Rattle.std.proofs.Common.{◌++◌, take, flat_map}
use Rattle.std.specs.Io.KnownBytes.{Appends}
use Rattle.streams.specs.Lines.{spaced}
use Rattle.streams.proofs.print_numbers.Given as goal

abbrev pub invariant-loop-n : goal.invariant-loop-n
invariant-loop-n g l =
    Appends (g.W.Write.contents l.fn.stream) (g.W.Write.contents l.stream) (l.word ++ flat_map spaced (take l.n-index l.numbers))
