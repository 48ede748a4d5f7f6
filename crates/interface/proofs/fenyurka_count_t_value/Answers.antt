-- `interface::fenyurka_count_t_value` meets its contract: the struct is that of the counter's own answer. Assumes nothing.
use Rattle.interface.proofs.fenyurka_count_t_value.Goals as goal

pub returns : goal.returns
returns c = rw (c.from.ensures, c.count_t_value.ensures)
