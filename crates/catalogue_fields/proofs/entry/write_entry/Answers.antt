-- `catalogue_fields::entry::write_entry` meets its contract: each part is written behind the one before. Assumes nothing.
use mathlib.Core.Path.{◌∙◌}
use Prim.Native.Nat.{◌+◌, ◌≤◌}
use native.Mathlib.Omega.{arith}
use lib.ListN.{length, length-set}
use Rattle.definitions.specs.Catalogue.{offset_size}
use Rattle.catalogue_laws.specs.Kinds.{marked_small}
use Rattle.catalogue_fields.proofs.EntryLaws as laws
use Rattle.catalogue_fields.proofs.entry.write_entry.Goals as goal
use Rattle.catalogue_fields.proofs.entry.write_entry.Goals.{After-count_size-width}

-- The entry lies within the buffer.
room : (c : After-count_size-width) → let a = c.args in a.at + 2 + c.count_size-width.result + offset_size ≤ length a.file.now
room c =
    let a = c.args in
    laws.entry_room a.list a.rows a.offset a.at a.file.now c.requires.degree_in_bounds c.count_size-width.ensures.0

pub bounds-file-at : goal.bounds-file-at
bounds-file-at c = omega (arith, room (goal.at.bounds-file-at c).After-count_size-width)

pub marked_top-requires : goal.marked_top-requires
marked_top-requires c = c.requires.lawful_degree.1.high

pub overflow_cast-file-2 : goal.overflow_cast-file-2
overflow_cast-file-2 c = omega (arith, c.marked_top.ensures, marked_small c.args.list.top c.args.list.gaps c.requires.lawful_degree.1)

pub bounds-file-at-2 : goal.bounds-file-at-2
bounds-file-at-2 c = simp length-set (omega (arith, room (goal.at.bounds-file-at-2 c).After-count_size-width))

pub write_number-requires : goal.write_number-requires
write_number-requires c = simp length-set (omega (arith, room (goal.at.write_number-requires c).After-count_size-width))

pub write_number-requires-2 : goal.write_number-requires-2
write_number-requires-2 c = omega (arith, simp length-set at c.file-1.given, room (goal.at.write_number-requires-2 c).After-count_size-width)

pub shape_of-file : goal.shape_of-file
shape_of-file c = c.file-2-1.given ∙ simp length-set at c.file-1.given

pub returns : goal.returns
returns c =
    let a = c.args in
    laws.entry_written a.list a.rows a.offset a.at a.file.now c.requires.degree_in_bounds c.count_size-width.ensures.0
    c.marked_top.ensures c.write_number.ensures c.write_number-2.ensures
