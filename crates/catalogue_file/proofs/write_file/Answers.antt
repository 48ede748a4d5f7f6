-- `write_file` writes list after list. Assumes nothing.
use mathlib.Core.Path.{◌≡◌, refl, ◌∙◌}
use mathlib.Core.List.{List}
use Prim.Native.Nat.{ℕ, ◌<◌, ◌≤◌}
use native.Mathlib.Omega.{arith}
use lib.ListN.{length, set}
use Rattle.definitions.specs.declared.Selection.{Selection}
use Rattle.definitions.specs.Writing.{entries_of, ranked_file}
use Rattle.writing_laws.specs.Turns.{filing_end}
use Rattle.catalogue_file.proofs.FilingLaws as laws
use Rattle.catalogue_file.proofs.write_file.Goals as goal
use Rattle.catalogue_file.proofs.write_file.Goals.{After-count-n, After-entry-list, At-loop-k, In-loop-k}

abbrev asked : After-count-n → List Selection
asked c = let a = c.args in entries_of a.floor a.entries.now

count_is : (c : After-count-n) → c.count-n.result ≡ length (asked c)
count_is c = c.count-n.ensures c.args.floor

abbrev listed : At-loop-k → List Selection
listed c = asked (goal.at.At-loop-k c).After-count-n

inside : (c : In-loop-k) → c.loop-k.k < length (listed (goal.at.In-loop-k c).At-loop-k)
inside c = omega (arith, c.loop-k-test.true, count_is (goal.at.In-loop-k c).After-count-n)

-- The buffer where the loop begins: the count of entries is written.
abbrev counted : At-loop-k → List ℕ
counted c = set c.args.file.now 0 c.count-n.result

room : (c : At-loop-k) → length (ranked_file (listed c)) ≤ length (counted c)
room c = laws.room_kept (listed c) c.requires.lawful_entries c.args.file.now c.count-n.result c.requires.entries_in_bounds

-- What the list's writer asks of the entry that is read.
asks : (c : After-entry-list) → let l = c.loop-k in laws.ListAsks c.entry-list.result l.place l.at l.file
asks c =
    let known = (goal.at.After-entry-list c).At-loop-k in
    let l = c.loop-k in
    laws.list_asks (listed known) c.requires.lawful_entries (counted known) (room known) l.k l.place l.at l.file l.invariant.0 (inside (goal.at.After-entry-list c).In-loop-k)
    c.entry-list.result c.entry-list.ensures

pub overflow_cast-file : goal.overflow_cast-file
overflow_cast-file c = omega (arith, count_is c, laws.entries_few (asked c) c.requires.lawful_entries)

pub bounds-file-0 : goal.bounds-file-0
bounds-file-0 c = omega (arith, laws.file_some (asked c) c.requires.lawful_entries, c.requires.entries_in_bounds)

pub loop-k-init : goal.loop-k-init
loop-k-init c = (laws.filing_begun (asked c) c.requires.lawful_entries c.args.file.now c.count-n.result c.requires.entries_in_bounds (count_is c) c.requires.contents_value, refl)

pub write_list-at-requires : goal.write_list-at-requires
write_list-at-requires c =
    let a = asks (goal.at.write_list-at-requires c).After-entry-list in
    record { lawful_list = a.lawful; list_in_bounds = omega (arith, c.loop-k.invariant.1, a.short); degree_bound = a.before; at_bound = a.small; gaps_in_bounds = a.fits }

pub overflow_add-place : goal.overflow_add-place
overflow_add-place c = omega (arith, c.entry_size-place.ensures, (asks (goal.at.overflow_add-place c).After-entry-list).before)

pub loop-k-preserved : goal.loop-k-preserved
loop-k-preserved c =
    let known = (goal.at.loop-k-preserved c).At-loop-k in
    let l = c.loop-k in
    let kept = c.rows-in-loop-k-1.given in (
      laws.filing_next (listed known) c.requires.lawful_entries (counted known) (room known) l.k l.place l.at l.file l.invariant.0 (inside (goal.at.loop-k-preserved c).In-loop-k)
          c.entry-list.result c.entry-list.ensures c.entry_size-place.ensures c.write_list-at.ensures.value c.write_list-at.ensures.file_after,
      kept ∙ l.invariant.1,
    )

pub returns : goal.returns
returns c =
    let known = (goal.at.returns c).At-loop-k in
    let l = c.loop-k in
    laws.filing_ended (listed known) c.requires.lawful_entries c.args.file.now c.count-n.result c.requires.entries_in_bounds
    (filing_end (listed known) c.requires.lawful_entries (counted known) (room known) l.k l.place l.at l.file l.invariant.0
    (omega (arith, c.loop-k-test.false, count_is (goal.at.returns c).After-count-n)))
