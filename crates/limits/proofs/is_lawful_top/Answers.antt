-- `limits::is_lawful_top` meets its contract. Assumes nothing.
use Rattle.limits.proofs.is_lawful_top.Goals as goal

pub returns : goal.returns
returns c = c.between.ensures
