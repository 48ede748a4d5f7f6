-- `row_order::stands_after` compares the rows the other way round. Assumes nothing.
use mathlib.Core.Path.{sym, ◌∙◌}
use Rattle.page_laws.specs.Ascending.{above_after}
use Rattle.row_order.proofs.stands_after.Goals as goal

pub returns : goal.returns
returns c = c.stands_before.ensures ∙ sym (above_after _ _)
