-- `page_line::put_page` puts the line below a page. Assumes nothing.
use Rattle.definitions.specs.Number.{numbers}
use Rattle.page_line.specs.Texts.{page_line_lem}
use Rattle.page_line.proofs.put_page.Goals as goal

pub returns-then-further : goal.returns-then-further
unfolding numbers
returns-then-further c = record { value = rw (page_line_lem, c.if-further.true) (c.put_page_line.ensures.value); out_after = rw (page_line_lem, c.if-further.true) (c.put_page_line.ensures.out_after) }

pub returns-else-further : goal.returns-else-further
unfolding numbers
returns-else-further c = record { value = rw (page_line_lem, c.if-further.false) (c.put_page_line-else-further.ensures.value); out_after = rw (page_line_lem, c.if-further.false) (c.put_page_line-else-further.ensures.out_after) }
