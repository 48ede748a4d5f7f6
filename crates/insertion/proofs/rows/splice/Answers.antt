-- `rows::splice` puts a row in by two copies. Assumes nothing.
use Rattle.std.proofs.Common.{arith}
use Rattle.insertion.proofs.RowLaws as laws
use Rattle.insertion.proofs.rows.splice.Goals as goal

pub returns : goal.returns
returns c =
    let g = c.args in
    laws.row_put g.from g.to g.row.now g.out.now (omega arith) (omega arith) c.copy_within.ensures.after c.copy_from_slice.ensures.after
