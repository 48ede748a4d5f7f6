-- `streams::read_line` keeps: no newline has come; the buffer is as it was behind the bytes; and the reader has lost just these. Assumes nothing.
use Rattle.std.proofs.Common.{◌≡◌, ◌≢◌, take, drop, All}
use Rattle.std.specs.Io.KnownBytes.{Consumes}
use Rattle.streams.proofs.read_line.Given as goal

abbrev pub invariant-loop-n : goal.invariant-loop-n
invariant-loop-n g l = record {
  one_line : All (λ b. b ≢ 10) (take l.n l.input);
  behind : drop l.n l.input ≡ drop l.n l.initial.input;
  taken : Consumes (g.R.Read.remaining l.initial.reader) (g.R.Read.remaining l.reader) (take l.n l.input);
}
