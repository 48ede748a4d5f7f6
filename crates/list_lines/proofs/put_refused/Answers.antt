-- `list_lines::put_refused` puts the line of a refusal. Assumes nothing.
use Rattle.definitions.specs.Number.{numbers}
use Rattle.list_lines.specs.Texts.{refused_line}
use Rattle.list_lines.proofs.put_refused.Goals as goal

pub returns : goal.returns
unfolding numbers
returns c = record { value = rw refused_line (c.put_line.ensures.value); out_after = rw refused_line (c.put_line.ensures.out_after) }
