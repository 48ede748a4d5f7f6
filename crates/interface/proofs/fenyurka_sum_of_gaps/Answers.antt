-- `interface::fenyurka_sum_of_gaps` meets its contract: the struct is that of the sum's own answer. Assumes nothing.
use Rattle.interface.proofs.fenyurka_sum_of_gaps.Goals as goal

pub returns : goal.returns
returns c = rw (c.from.ensures, c.sum_of_gaps.ensures)
