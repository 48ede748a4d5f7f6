-- `catalogue_numbers::write_bytes` meets its contract. Assumes nothing.
use Rattle.std.proofs.Common.{◌∙◌, arith}
use Rattle.slice_laws.specs.Over.{over_turn, over_end}
use Rattle.catalogue_numbers.proofs.write_bytes.Goals as goal

pub loop-k-preserved : goal.loop-k-preserved
loop-k-preserved c =
    let here = c.loop-k in
    over_turn c.args.at c.args.numbers.now here.k here.file (omega arith) (omega arith) ∙ here.invariant

pub returns : goal.returns
returns c =
    let here = c.loop-k in
    over_end c.args.at c.args.numbers.now here.k here.file (omega arith) ∙ here.invariant
