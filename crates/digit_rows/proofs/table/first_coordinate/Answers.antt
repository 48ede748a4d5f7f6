-- `table::first_coordinate` meets its contract. Assumes nothing.
use Rattle.digit_rows.proofs.TableLaws.{begun}
use Rattle.digit_rows.proofs.table.first_coordinate.Goals as goal

pub returns : goal.returns
returns c = begun
