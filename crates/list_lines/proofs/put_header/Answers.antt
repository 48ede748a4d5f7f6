-- `list_lines::put_header` puts the line above a list. Assumes nothing.
use Rattle.definitions.specs.Number.{numbers}
use Rattle.list_lines.specs.Texts.{header_line}
use Rattle.list_lines.proofs.put_header.Goals as goal

pub returns : goal.returns
unfolding numbers
returns c = record { value = rw header_line (c.put_long_line.ensures.value); out_after = rw header_line (c.put_long_line.ensures.out_after) }
