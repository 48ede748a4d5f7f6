-- `row_order::stands_before` compares the t-values, and where these are the same p and q. Assumes nothing.
use Rattle.row_order.proofs.RowLaws as laws
use Rattle.row_order.proofs.stands_before.Goals as goal

pub returns : goal.returns
returns c = laws.tuples_lt c.args.a.now c.args.b.now c.requires.1 c.lt.ensures
