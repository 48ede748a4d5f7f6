-- `catalogue_numbers::write_number` meets its contract. Assumes nothing.
use Rattle.std.proofs.Common.{sym, ◌∙◌, arith}
use Rattle.catalogue_numbers.proofs.NumberLaws.{number_turn, number_end}
use Rattle.catalogue_numbers.proofs.write_number.Goals as goal

pub loop-k-preserved : goal.loop-k-preserved
loop-k-preserved c =
    let here = c.loop-k in
    number_turn c.args.at here.rest here.file here.k (omega arith) (omega arith) ∙ here.invariant

pub returns : goal.returns
returns c =
    let here = c.loop-k in
    sym (number_end c.args.at here.rest here.file here.k (omega arith)) ∙ here.invariant
