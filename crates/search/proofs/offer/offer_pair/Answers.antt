-- `offer::offer_pair` tells an accepted pair of the tree by two orders, that of x and that of q, and its step from the floor by powers of x. Assumes
-- nothing.
use mathlib.Core.Path.{◌≡◌, sym, ◌∙◌}
use mathlib.Core.Bool.{true}
use borrow.Author.Tests.{not-false, not-true}
use Rattle.definitions.specs.Generator.{accepted, reaches_floor}
use Rattle.order_laws.specs.Accepted.{accepted_is}
use Rattle.page_laws.specs.Search.{Search}
use Rattle.search.specs.Frame.{state_of, Searching}
use Rattle.search.proofs.OfferLaws as laws
use Rattle.search.proofs.offer.offer_pair.Goals as goal
use Rattle.search.proofs.offer.offer_pair.Goals.{After-list-1, Else-not-have_full_orders, Else-not-reaches_floor}

abbrev state : After-list-1 → Search
state c = state_of c.args.out.now c.args.t

abbrev searching : (c : After-list-1) → Searching c.args.f.now 1 (state c)
searching c = c.requires.searching

accepted_pair : (c : Else-not-have_full_orders) → let a = c.args in accepted a.f.now.list.degree a.p a.q ≡ true
accepted_pair c =
    let a = c.args in
    laws.pair_accepted a.f.now (state (goal.at.Else-not-have_full_orders c).After-list-1) a.p a.q (sym c.have_full_orders.ensures ∙ not-false _ c.if-not-have_full_orders.false-raw)
    c.requires.q_value

reached : (c : Else-not-reaches_floor) → let a = c.args in reaches_floor a.f.now.list.degree a.f.now.list.floor a.p a.q ≡ true
reached c = sym c.reaches_floor.ensures ∙ not-false _ c.if-not-reaches_floor.false-raw

pub have_full_orders-requires : goal.have_full_orders-requires
have_full_orders-requires c = record { lawful_degree = (searching c).framed.lawful.degree; well_formed = c.requires.well_formed }

pub returns-then-not-have_full_orders : goal.returns-then-not-have_full_orders
returns-then-not-have_full_orders c =
    let a = c.args in
    laws.pair_without_orders a.f.now (state (goal.at.returns-then-not-have_full_orders c).After-list-1) a.p a.q (sym c.have_full_orders.ensures ∙ not-true _ c.if-not-have_full_orders.true-raw)

pub reaches_floor-requires : goal.reaches_floor-requires
reaches_floor-requires c =
    let pre = c.requires in
    record { lawful_degree = (searching (goal.at.reaches_floor-requires c).After-list-1).framed.lawful.degree; well_formed = pre.well_formed; p_value = ((accepted_is _ _ _).0 (accepted_pair c)).primitive_p; q_value = pre.q_value }

pub returns-then-not-reaches_floor : goal.returns-then-not-reaches_floor
returns-then-not-reaches_floor c =
    let a = c.args in
    laws.pair_below_floor a.f.now (state (goal.at.returns-then-not-reaches_floor c).After-list-1) a.p a.q (sym c.reaches_floor.ensures ∙ not-true _ c.if-not-reaches_floor.true-raw)

pub offer_row-requires : goal.offer_row-requires
offer_row-requires c = record { searching = searching (goal.at.offer_row-requires c).After-list-1; well_formed = c.requires.well_formed; q_value = accepted_pair (goal.at.offer_row-requires c).Else-not-have_full_orders }

pub returns : goal.returns
returns c =
    let a = c.args in
    laws.pair_offered a.f.now (state (goal.at.returns c).After-list-1) a.p a.q (accepted_pair (goal.at.returns c).Else-not-have_full_orders) (reached (goal.at.returns c).Else-not-reaches_floor) c.offer_row.ensures
