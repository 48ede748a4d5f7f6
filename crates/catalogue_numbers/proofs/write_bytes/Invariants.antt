-- The invariant: the numbers from k on, over what stands now, are all of them over what stood at entry.
use Rattle.std.proofs.Common.{◌≡◌, ◌+◌, drop}
use Rattle.definitions.specs.Number.{over}
use Rattle.catalogue_numbers.proofs.write_bytes.Given as goal

abbrev pub invariant-loop-k : goal.invariant-loop-k
invariant-loop-k l = over (l.at + l.k) (drop l.k l.numbers) l.file ≡ over l.at l.numbers l.initial.file
