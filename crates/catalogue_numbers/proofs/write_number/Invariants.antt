-- The invariant: the bytes that are left, over what stands now, are the whole number over what stood at entry.
use Rattle.std.proofs.Common.{◌≡◌}
use Rattle.definitions.specs.Number.{over}
use Rattle.definitions.specs.Writing.{bytes_of}
use Rattle.catalogue_numbers.proofs.write_number.Given as goal

abbrev pub invariant-loop-k : goal.invariant-loop-k
invariant-loop-k l = over l.at (bytes_of l.k l.rest) l.file ≡ over l.at (bytes_of l.width l.n) l.initial.file
