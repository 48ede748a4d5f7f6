-- `write_list` writes the body, and then the entry over what that left. Assumes nothing.
use mathlib.Core.Path.{ap₂, ◌∙◌}
use native.Mathlib.Omega.{arith}
use Rattle.definitions.specs.Number.{over}
use Rattle.catalogue_fields.specs.Entry.{entry_fields, entry_fields_lem}
use Rattle.catalogue_file.proofs.FilingLaws as laws
use Rattle.catalogue_file.proofs.write_list.Goals as goal

pub overflow_cast-written : goal.overflow_cast-written
overflow_cast-written c = omega (arith, c.write_body-written.ensures.value, laws.rows_small c.args.list c.requires.lawful_list)

pub returns-clause-file_after : goal.returns-clause-file_after
returns-clause-file_after c =
    let fields = ap₂ (entry_fields c.args.list) c.write_body-written.ensures.value c.offset_of.ensures ∙ entry_fields_lem c.args.list c.args.at in
    c.write_entry.ensures ∙ ap₂ (over c.args.place) fields c.write_body-written.ensures.file_after
