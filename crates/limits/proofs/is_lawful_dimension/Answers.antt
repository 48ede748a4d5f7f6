-- `limits::is_lawful_dimension` meets its contract. Assumes nothing.
use Rattle.limits.proofs.is_lawful_dimension.Goals as goal

pub returns : goal.returns
returns c = c.between.ensures
