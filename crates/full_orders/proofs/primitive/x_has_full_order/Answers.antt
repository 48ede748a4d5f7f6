-- `full_orders::primitive::x_has_full_order` meets its contract. Assumes nothing.
use Rattle.std.proofs.Common.{rules, ◌^◌, ◌∙◌}
use borrow.Author.Tests.{ne_eqb}
use Rattle.definitions.specs.Polynomial.{rem}
use Rattle.polynomial.specs.Modulus.{modulus_lead}
use Rattle.full_orders.proofs.PowerLaws.{squared_start, squared_more, not_back, back}
use Rattle.full_orders.proofs.primitive.x_has_full_order.Goals as goal

pub loop-init : goal.loop-init
loop-init c = squared_start c.requires.lawful_degree c.requires.has_degree.0

pub loop-preserved : goal.loop-preserved
loop-preserved c =
    let pre = c.requires in
    let lead = modulus_lead c.args.residues.modulus pre.has_degree.0 in
    squared_more pre.lawful_degree pre.has_degree.0 _ (rw lead at pre.maps) c.loop.invariant c.loop-test.true c.image-power.ensures

pub returns-then-power-eq2 : goal.returns-then-power-eq2
returns-then-power-eq2 c =
    let pre = c.requires in
    back pre.lawful_degree pre.has_degree.0 pre.has_degree.1 c.loop.invariant c.loop-test.false c.if-power-eq2.true
    (c.none_is_one.ensures (λ e. rem (2 ^ e) c.args.residues.p) (λ e v call. search rules))

pub returns-else-power-eq2 : goal.returns-else-power-eq2
returns-else-power-eq2 c =
    let pre = c.requires in
    ne_eqb _ 2 c.if-power-eq2.false
    ∙ not_back pre.lawful_degree pre.has_degree.0 pre.has_degree.1 c.loop.invariant c.loop-test.false c.if-power-eq2.false
