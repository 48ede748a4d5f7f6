-- `interface::fenyurka_t_value` meets its contract: the struct is that of the t-value's own answer. Assumes nothing.
use Rattle.interface.proofs.fenyurka_t_value.Goals as goal

pub returns : goal.returns
returns c = rw (c.from.ensures, c.t_value.ensures)
