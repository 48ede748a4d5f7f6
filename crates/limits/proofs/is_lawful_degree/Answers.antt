-- `limits::is_lawful_degree` meets its contract. Assumes nothing.
use Rattle.limits.proofs.is_lawful_degree.Goals as goal

pub returns : goal.returns
returns c = c.between.ensures
