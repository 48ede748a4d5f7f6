-- `walk::visit` offers the rows of the pairs below: at a leaf that of its pair, at a node those of its two children, one after the other. Assumes
-- nothing.
use Rattle.std.proofs.Common.{arith}
use Rattle.search.proofs.WalkLaws as laws
use Rattle.search.proofs.walk.+visit.Goals as goal

-- ---- at a leaf
pub offer_pair-requires-clause-well_formed : goal.offer_pair-requires-clause-well_formed
offer_pair-requires-clause-well_formed t c = laws.leaf_well_formed c.requires c.if-left-eq0.true

pub offer_pair-requires-clause-q_value : goal.offer_pair-requires-clause-q_value
offer_pair-requires-clause-q_value t c = laws.leaf_linear c.requires c.if-left-eq0.true

pub returns-then-left-eq0 : goal.returns-then-left-eq0
returns-then-left-eq0 t c = laws.leaf_done c.requires c.if-left-eq0.true c.offer_pair.ensures

-- ---- at a node: its first child, what was found below it, and its second child
pub visit-half-requires : goal.visit-half-requires
visit-half-requires t c = (omega (arith, c.decreases), laws.left_ready c.requires c.if-left-eq0.false c.child-by_x.ensures)

pub visit-requires : goal.visit-requires
visit-requires t c =
    (omega (arith, c.decreases), laws.right_ready c.requires c.if-left-eq0.false c.child-by_x.ensures c.child-by_x_plus_one.ensures c.visit-half.ensures)

pub returns : goal.returns
returns t c =
    laws.node_done c.requires c.if-left-eq0.false c.child-by_x.ensures c.child-by_x_plus_one.ensures c.visit-half.ensures c.visit.ensures
