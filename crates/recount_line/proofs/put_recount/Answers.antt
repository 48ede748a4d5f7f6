-- `recount_line::put_recount` reads the numbers of the line; without all four it refuses. Assumes nothing.
use Rattle.recount_line.specs.Printed.{recount_unread, recount_read}
use Rattle.recount_line.proofs.put_recount.Goals as goal

pub returns-then-read_numbers-ne-NUMBERS : goal.returns-then-read_numbers-ne-NUMBERS
returns-then-read_numbers-ne-NUMBERS c = record { value = rw (recount_unread c.args.input.now c.read_numbers.ensures.value c.if-read_numbers-ne-NUMBERS.true) (c.put_refused.ensures.value); out_after = rw (recount_unread c.args.input.now c.read_numbers.ensures.value c.if-read_numbers-ne-NUMBERS.true) (c.put_refused.ensures.out_after) }

pub returns : goal.returns
returns c = record { value = rw (recount_read c.args.input.now c.read_numbers.ensures.value c.read_numbers.ensures.out_after c.if-read_numbers-ne-NUMBERS.false) (c.put_pair.ensures.value); out_after = rw (recount_read c.args.input.now c.read_numbers.ensures.value c.read_numbers.ensures.out_after c.if-read_numbers-ne-NUMBERS.false) (c.put_pair.ensures.out_after) }
