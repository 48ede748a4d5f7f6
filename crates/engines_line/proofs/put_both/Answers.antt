-- `engines_line::put_both` puts both t-values. Assumes nothing.
use Rattle.definitions.specs.Number.{numbers}
use Rattle.engines_line.specs.BothLine.{both_line}
use Rattle.engines_line.proofs.put_both.Goals as goal

pub returns : goal.returns
unfolding numbers
returns c = record { value = rw both_line (c.put_long_line.ensures.value); out_after = rw both_line (c.put_long_line.ensures.out_after) }
