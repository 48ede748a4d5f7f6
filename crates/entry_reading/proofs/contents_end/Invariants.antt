-- The invariant: the place behind all entries is the one behind those that are left from `place` on, and there is room for these at ten bytes each.
use Rattle.std.proofs.Common.{◌≡◌, ◌+◌, ◌-◌, ◌*◌, ◌≤◌}
use Rattle.definitions.specs.Catalogue.{first_entry, most_entries, behind_entries}
use Rattle.entry_reading.proofs.contents_end.Given as goal

abbrev pub invariant-loop : goal.invariant-loop
invariant-loop l =
    let left = l.n - l.counter in
    (l.place + left * 10 ≤ first_entry + most_entries * 10) × (behind_entries l.s l.n first_entry ≡ behind_entries l.s left l.place)
