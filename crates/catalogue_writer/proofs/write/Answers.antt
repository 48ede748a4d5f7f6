-- `write` meets its contract: each test says whether its situation applies, and behind the last one the file is written. Assumes nothing.
use mathlib.Core.Path.{◌≡◌, sym, ap, ◌∙◌}
use mathlib.Core.Bool.{true}
use mathlib.Core.List.{List}
use native.Mathlib.Omega.{arith}
use lib.ListN.{length}
use borrow.Author.Tests.{not-true, not-false}
use Rattle.definitions.specs.declared.Selection.{Selection}
use Rattle.definitions.specs.Generator.{lawful_floor}
use Rattle.definitions.specs.Writing.{entries_of, ranked_file, lawful_degrees, lawful_tops, ascending}
use Rattle.writing_laws.specs.RankedFile.{LawfulEntries, entries_lawful}
use Rattle.entry_tests.specs.declared.Lawful.{Lawful}
use Rattle.catalogue_measure.specs.declared.Measure.{Measure}
use Rattle.catalogue_writer.proofs.Answering as laws
use Rattle.catalogue_writer.proofs.write.Goals as goal
use Rattle.catalogue_writer.proofs.write.Goals.{After-are_lawful-lawful, After-take_measure-measured, Else-not-do_ascend, Else-not-is_lawful_floor, Else-not-lawful, Else-not-lawful-2}

abbrev asked : After-are_lawful-lawful → List Selection
asked c = let a = c.args in entries_of a.floor a.entries.now

degrees_are : (c : After-are_lawful-lawful) → c.are_lawful-lawful.result.degrees ≡ lawful_degrees (asked c)
degrees_are c = ap (λ (r : Lawful). r.degrees) c.are_lawful-lawful.ensures

tops_are : (c : After-are_lawful-lawful) → c.are_lawful-lawful.result.tops ≡ lawful_tops (asked c)
tops_are c = ap (λ (r : Lawful). r.tops) c.are_lawful-lawful.ensures

degrees : (c : Else-not-lawful) → lawful_degrees (asked (goal.at.Else-not-lawful c).After-are_lawful-lawful) ≡ true
degrees c = sym (degrees_are (goal.at.Else-not-lawful c).After-are_lawful-lawful) ∙ not-false _ c.if-not-lawful.false

tops : (c : Else-not-lawful-2) → lawful_tops (asked (goal.at.Else-not-lawful-2 c).After-are_lawful-lawful) ≡ true
tops c = sym (tops_are (goal.at.Else-not-lawful-2 c).After-are_lawful-lawful) ∙ not-false _ c.if-not-lawful-2.false

in_range : (c : Else-not-is_lawful_floor) → lawful_floor c.args.floor ≡ true
in_range c = sym c.is_lawful_floor.ensures ∙ c.if-not-is_lawful_floor.false

order : (c : Else-not-do_ascend) → ascending (asked (goal.at.Else-not-do_ascend c).After-are_lawful-lawful) ≡ true
order c = sym c.do_ascend.ensures ∙ c.if-not-do_ascend.false

lawful : (c : Else-not-do_ascend) → LawfulEntries 0 (asked (goal.at.Else-not-do_ascend c).After-are_lawful-lawful)
lawful c = entries_lawful _ (degrees (goal.at.Else-not-do_ascend c).Else-not-lawful) (tops (goal.at.Else-not-do_ascend c).Else-not-lawful-2) (order c)

-- What was measured.
length_is : (c : After-take_measure-measured) → c.take_measure-measured.result.length ≡ length (ranked_file (asked (goal.at.After-take_measure-measured c).After-are_lawful-lawful))
length_is c = ap (λ (m : Measure). m.length) c.take_measure-measured.ensures

pub returns-then-not-lawful : goal.returns-then-not-lawful
returns-then-not-lawful c =
    let all = laws.wrong_degrees _ _ _ (sym (degrees_are (goal.at.returns-then-not-lawful c).After-are_lawful-lawful) ∙ not-true _ c.if-not-lawful.true) in record { value = all.0; file_after = all.1 }

pub returns-then-not-lawful-2 : goal.returns-then-not-lawful-2
returns-then-not-lawful-2 c =
    let all = laws.wrong_tops _ _ _ (degrees (goal.at.returns-then-not-lawful-2 c).Else-not-lawful) (sym (tops_are (goal.at.returns-then-not-lawful-2 c).After-are_lawful-lawful) ∙ not-true _ c.if-not-lawful-2.true) in record { value = all.0; file_after = all.1 }

pub returns-then-not-is_lawful_floor : goal.returns-then-not-is_lawful_floor
returns-then-not-is_lawful_floor c =
    let all = laws.wrong_floor _ _ _ (degrees (goal.at.returns-then-not-is_lawful_floor c).Else-not-lawful) (tops (goal.at.returns-then-not-is_lawful_floor c).Else-not-lawful-2) (sym c.is_lawful_floor.ensures ∙ c.if-not-is_lawful_floor.true) in record { value = all.0; file_after = all.1 }

pub returns-then-not-do_ascend : goal.returns-then-not-do_ascend
returns-then-not-do_ascend c =
    let all = laws.not_ascending _ _ _ (degrees (goal.at.returns-then-not-do_ascend c).Else-not-lawful) (tops (goal.at.returns-then-not-do_ascend c).Else-not-lawful-2) (in_range (goal.at.returns-then-not-do_ascend c).Else-not-is_lawful_floor) (sym c.do_ascend.ensures ∙ c.if-not-do_ascend.true) in record { value = all.0; file_after = all.1 }

pub take_measure-measured-requires : goal.take_measure-measured-requires
take_measure-measured-requires c = lawful c

pub returns-then-file-measured : goal.returns-then-file-measured
returns-then-file-measured c =
    let all = laws.too_long_lem _ _ _ (degrees (goal.at.returns-then-file-measured c).Else-not-lawful) (tops (goal.at.returns-then-file-measured c).Else-not-lawful-2) (in_range (goal.at.returns-then-file-measured c).Else-not-is_lawful_floor) (order (goal.at.returns-then-file-measured c).Else-not-do_ascend) (length_is (goal.at.returns-then-file-measured c).After-take_measure-measured) c.if-file-measured.true in record { value = all.0; file_after = all.1 }

pub write_file-requires : goal.write_file-requires
write_file-requires c = record { lawful_entries = lawful (goal.at.write_file-requires c).Else-not-do_ascend; contents_value = ap (λ (r : Measure). r.contents) c.take_measure-measured.ensures; entries_in_bounds = omega (arith, length_is (goal.at.write_file-requires c).After-take_measure-measured, c.if-file-measured.false) }

pub returns : goal.returns
returns c =
    let all = laws.written _ _ _ (degrees (goal.at.returns c).Else-not-lawful) (tops (goal.at.returns c).Else-not-lawful-2) (in_range (goal.at.returns c).Else-not-is_lawful_floor) (order (goal.at.returns c).Else-not-do_ascend) (length_is (goal.at.returns c).After-take_measure-measured) c.if-file-measured.false c.write_file.ensures in record { value = all.0; file_after = all.1 }
