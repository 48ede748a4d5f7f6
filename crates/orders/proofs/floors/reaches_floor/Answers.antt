-- `orders::floors::reaches_floor` meets its contract. Where the power is q, e is the step and below the floor; where the floor is reached, the step
-- is not before it. Assumes nothing.
use mathlib.Core.Path.{sym}
use native.Mathlib.Omega.{arith}
use Rattle.number_laws.specs.Bounds.{lead_low}
use Rattle.order_laws.specs.Floor.{reaches_floor_is, below_floor}
use Rattle.orders.proofs.Finder.{at_leading, at_found, at_next}
use Rattle.orders.proofs.floors.reaches_floor.Goals as goal

pub loop-init : goal.loop-init
loop-init c =
    let pre = c.requires in
    (at_leading _ _ _ pre.lawful_degree pre.well_formed pre.p_value pre.q_value c.modulo-residues.ensures.1, omega (arith, lead_low pre.lawful_degree, c.modulo-residues.ensures.1))

pub returns-then-power-q : goal.returns-then-power-q
returns-then-power-q c =
    let pre = c.requires in
    let at-step = at_found _ _ _ pre.lawful_degree pre.well_formed pre.p_value _ _ c.loop.invariant.0 c.if-power-q.true in
    sym (below_floor _ _ _ _ (omega (arith, at-step, c.loop-test.true)))

pub loop-preserved : goal.loop-preserved
loop-preserved c =
    let pre = c.requires in (
      at_next _ _ _ pre.lawful_degree pre.well_formed pre.p_value _ _ _ c.loop.invariant.0 c.if-power-q.false (rw c.modulo-residues.ensures.0 at c.times_x-power.ensures.0),
      c.times_x-power.ensures.1,
    )

pub returns : goal.returns
returns c = sym ((reaches_floor_is _ _ _ _).1 (omega (arith, c.loop.invariant.0.most, c.loop-test.false)))
