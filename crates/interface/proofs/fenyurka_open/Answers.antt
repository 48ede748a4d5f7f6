-- `interface::fenyurka_open` meets its contract: the struct is that of the opening's own answer. Assumes nothing.
use Rattle.interface.proofs.fenyurka_open.Goals as goal

pub returns : goal.returns
returns c = rw (c.from.ensures, c.open.ensures)
