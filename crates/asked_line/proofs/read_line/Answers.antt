-- `asked_line::read_line` puts the numbers of the line over the defaults. Assumes nothing.
use Rattle.asked_line.proofs.Asked.{asked_none, asked_some}
use Rattle.asked_line.proofs.read_line.Goals as goal

pub returns-then-read_numbers-eq0 : goal.returns-then-read_numbers-eq0
returns-then-read_numbers-eq0 c = asked_none c.args.input.now c.read_numbers.ensures.value c.if-read_numbers-eq0.true

pub returns : goal.returns
returns c = asked_some c.args.input.now c.read_numbers.ensures.value c.read_numbers.ensures.out_after c.if-read_numbers-eq0.false
