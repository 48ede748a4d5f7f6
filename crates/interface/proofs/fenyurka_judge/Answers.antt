-- `interface::fenyurka_judge` meets its contract: the struct is that of the judgement's own answer. Assumes nothing.
use Rattle.interface.proofs.fenyurka_judge.Goals as goal

pub returns : goal.returns
returns c = rw (c.from.ensures, c.judge.ensures)
