-- `count` halves the length and rounds up. Assumes nothing.
use Rattle.std.proofs.Common.{arith}
use Rattle.catalogue_entries.specs.Entries.{entries_length}
use Rattle.catalogue_entries.proofs.count.Goals as goal

pub returns : goal.returns
returns c floor = omega (arith, entries_length floor c.args.entries.now)
