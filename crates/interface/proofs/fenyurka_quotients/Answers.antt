-- `interface::fenyurka_quotients` meets its contract: the struct is that of the quotient test's own answer. Assumes nothing.
use Rattle.interface.proofs.fenyurka_quotients.Goals as goal

pub returns : goal.returns
returns c = rw (c.from.ensures, c.test_quotients.ensures)
