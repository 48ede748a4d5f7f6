-- `full_orders::primitive::q_has_full_order` meets its contract: by the order of q the test over the divisors is that the step is coprime.
-- Assumes nothing.
use Rattle.std.proofs.Common.{rules}
use mathlib.Core.Path.{sym, ◌∙◌}
use native.Mathlib.Omega.{arith}
use Rattle.definitions.specs.Points.{state}
use Rattle.number_laws.specs.Bounds.{lead_high}
use Rattle.order_laws.specs.Cycle.{degree_big}
use Rattle.order_laws.specs.Orbit.{coprime_step_none_of}
use Rattle.polynomial.specs.Modulus.{modulus_lead}
use Rattle.full_orders.specs.Tabled.{TabledPower}
use Rattle.full_orders.proofs.PowerLaws.{power_state}
use Rattle.full_orders.proofs.primitive.q_has_full_order.Goals as goal

pub times_map-products-requires-clause-lead_bound : goal.times_map-products-requires-clause-lead_bound
times_map-products-requires-clause-lead_bound c =
    rw (modulus_lead c.args.residues.modulus c.requires.well_formed.degree_p) (lead_high c.requires.lawful_degree)

pub times_map-products-requires-clause-c_lt_lead : goal.times_map-products-requires-clause-c_lt_lead
times_map-products-requires-clause-c_lt_lead c =
    rw (modulus_lead c.args.residues.modulus c.requires.well_formed.degree_p) c.requires.well_formed.smaller

pub returns : goal.returns
returns c =
    let p = c.args.residues.p in
    let q = c.args.q in
    let pre = c.requires in
    let w = pre.well_formed in
    c.none_is_one.ensures (state p q) (
    λ e v call.
    let power : TabledPower c.times_map-products.result c.args.squares.now e v = search rules in
    power_state p q (degree_big c.args.m p (omega (arith, pre.lawful_degree.low)) w.degree_p) e v
    (power.is p _ q c.args.residues.modulus pre.maps c.times_map-products.ensures).0
    )
    ∙ sym (coprime_step_none_of c.args.m p (omega (arith, pre.lawful_degree.low)) w.degree_p pre.p_value q w.nonzero w.smaller pre.lawful_degree)
