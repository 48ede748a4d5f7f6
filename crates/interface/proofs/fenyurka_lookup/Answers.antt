-- `interface::fenyurka_lookup` meets its contract: the struct is that of the lookup's own answer. Assumes nothing.
use Rattle.interface.proofs.fenyurka_lookup.Goals as goal

pub returns : goal.returns
returns c = rw (c.from.ensures, c.locate.ensures)
