-- The invariant: no entry before `place` has the degree, so the search goes on with those that are left from there on, which are within the file;
-- and the place is behind the first byte.
use Rattle.std.proofs.Common.{◌≡◌, ◌-◌, ◌<◌, ◌≤◌, length}
use Rattle.definitions.specs.Catalogue.{behind_entries, entry_from, entry_of}
use Rattle.catalogue_seek.proofs.entry_of.Given as goal

abbrev pub invariant-loop : goal.invariant-loop
invariant-loop l =
    let left = l.n - l.counter in
    (0 < l.place)
    × (behind_entries l.s left l.place ≤ length l.s)
    × (entry_of l.s l.degree ≡ entry_from l.s left l.place l.degree)
