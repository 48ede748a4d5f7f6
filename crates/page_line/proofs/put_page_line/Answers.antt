-- `page_line::put_page_line` puts the line below a page, with the ending that is given. Assumes nothing.
use Rattle.definitions.specs.Number.{numbers}
use Rattle.page_line.proofs.put_page_line.Goals as goal

pub returns : goal.returns
unfolding numbers
returns c = record { value = c.put_long_line.ensures.value; out_after = c.put_long_line.ensures.out_after }
