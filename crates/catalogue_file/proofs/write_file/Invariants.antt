-- The invariant: what is left to write, over the buffer, is the whole file over what it was.
use mathlib.Core.Path.{◌≡◌}
use lib.ListN.{length}
use Rattle.definitions.specs.Writing.{entries_of}
use Rattle.writing_laws.specs.Turns.{Filing}
use Rattle.catalogue_file.proofs.write_file.Given as goal

abbrev pub invariant-loop-k : goal.invariant-loop-k
invariant-loop-k l =
    Filing (entries_of l.floor l.entries) l.initial.file l.k l.place l.at l.file × (length l.rows ≡ length l.initial.rows)
