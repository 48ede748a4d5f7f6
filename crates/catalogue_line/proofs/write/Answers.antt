-- `catalogue_line::write` writes the file that the floor and the entries behind it ask for, or the line of its refusal, by what the call answers.
-- Assumes nothing.
use mathlib.Core.Path.{sym, ◌∙◌}
use Rattle.catalogue_line.specs.Written.{outputs_some, outputs_file, outputs_refused}
use Rattle.catalogue_line.proofs.write.Goals as goal

pub returns-in-Ok : goal.returns-in-Ok
returns-in-Ok c =
    let all = outputs_some c.args.numbers.now c.args.file.now c.args.text.now c.requires.numbers_nonzero
    (outputs_file _ _ c.args.file.now c.args.text.now c.requires.longest_file_in_bounds
    (sym c.write.ensures.value ∙ c.in-Ok.is) c.write.ensures.file_after) in record { file_value = all.0; text_value = all.1.0; file_after = all.1.1.0; text_after = all.1.1.1 }

pub returns-in-Err : goal.returns-in-Err
returns-in-Err c =
    let all = outputs_some c.args.numbers.now c.args.file.now c.args.text.now c.requires.numbers_nonzero
    (outputs_refused _ _ c.args.file.now c.args.text.now c.requires.longest_file_in_bounds
    (sym c.write.ensures.value ∙ c.in-Err.is) c.write.ensures.file_after
    (rw c.refusal_number.ensures at c.refuse.ensures.value) (rw c.refusal_number.ensures at c.refuse.ensures.text_after)) in record { file_value = all.0; text_value = all.1.0; file_after = all.1.1.0; text_after = all.1.1.1 }
