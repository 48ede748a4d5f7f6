-- `limits::is_counted_degree` meets its contract. Assumes nothing.
use Rattle.limits.proofs.is_counted_degree.Goals as goal

pub returns : goal.returns
returns c = c.between.ensures
