-- `row_order::ranks_before` compares t-values. Assumes nothing.
use Rattle.row_order.proofs.RowLaws as laws
use Rattle.row_order.proofs.ranks_before.Goals as goal

pub returns : goal.returns
returns c = laws.ranks_lt c.args.a.now c.args.b.now c.lt.ensures
