-- The invariant: the entries before `place` pass, so the `left` from there on decide, behind the degree `last` and from the place `at` on; both these
-- entries and `at` are within the file.
use mathlib.Core.Path.{◌≡◌}
use Prim.Native.Nat.{◌-◌, ◌≤◌}
use lib.ListN.{length}
use Rattle.definitions.specs.Catalogue.{first_entry, behind_entries, entries_form}
use Rattle.catalogue_form.proofs.entries.entries_form.Given as goal

abbrev pub invariant-loop : goal.invariant-loop
invariant-loop l =
    (behind_entries l.s (l.n - l.counter) l.place ≤ length l.s) × (l.at ≤ length l.s) × (entries_form l.s l.n first_entry 0 l.start ≡ entries_form l.s (l.n - l.counter) l.place l.last l.at)
