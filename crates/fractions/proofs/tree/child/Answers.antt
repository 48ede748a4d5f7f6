-- `fractions::tree::child` meets its contract: x times p is its double, and x + 1 is the other quotient of degree one. Assumes nothing.
use Rattle.fractions.proofs.FractionLaws.{child_by_x, child_by_other}
use Rattle.fractions.proofs.tree.child.Goals as goal

pub returns-then-a-eq2 : goal.returns-then-a-eq2
returns-then-a-eq2 c = child_by_x _ _ _ c.if-a-eq2.true

pub returns-else-a-eq2 : goal.returns-else-a-eq2
returns-else-a-eq2 c = child_by_other _ _ _ c.requires.has_degree c.if-a-eq2.false
