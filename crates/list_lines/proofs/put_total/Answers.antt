-- `list_lines::put_total` puts the line below a list. Assumes nothing.
use Rattle.definitions.specs.Number.{numbers}
use Rattle.list_lines.specs.Texts.{total_line}
use Rattle.list_lines.proofs.put_total.Goals as goal

pub returns : goal.returns
unfolding numbers
returns c = record { value = rw total_line (c.put_line.ensures.value); out_after = rw total_line (c.put_line.ensures.out_after) }
