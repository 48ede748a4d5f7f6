-- `orders::step::find_step` meets its contract. The step's own power is q, so the loop breaks there at the latest. Assumes nothing.
use native.Mathlib.Omega.{arith}
use Rattle.number_laws.specs.Bounds.{lead_low, lead_high}
use Rattle.order_laws.specs.Step.{step_to}
use Rattle.orders.proofs.Finder.{at_start, at_found, at_before, at_next}
use Rattle.orders.proofs.step.find_step.Goals as goal

pub loop-power-init : goal.loop-power-init
loop-power-init c =
    let pre = c.requires in
    (at_start _ _ _ pre.lawful_degree pre.well_formed pre.p_value, omega (arith, lead_low pre.lawful_degree, c.modulo-residues.ensures.1))

pub overflow_add-e : goal.overflow_add-e
overflow_add-e c =
    let pre = c.requires in
    let args = c.args in
    omega (arith, c.loop-power.invariant.0.most, step_to args.m args.p args.q (omega (arith, pre.lawful_degree.low)), lead_high pre.lawful_degree)

pub loop-power-smaller : goal.loop-power-smaller
loop-power-smaller c =
    let pre = c.requires in
    omega (arith, at_before _ _ _ pre.lawful_degree pre.well_formed pre.p_value _ _ c.loop-power.invariant.0 c.if-power-q.false)

pub loop-power-preserved : goal.loop-power-preserved
loop-power-preserved c =
    let pre = c.requires in (
      at_next _ _ _ pre.lawful_degree pre.well_formed pre.p_value _ _ _ c.loop-power.invariant.0 c.if-power-q.false (rw c.modulo-residues.ensures.0 at c.times_x-power.ensures.0),
      c.times_x-power.ensures.1,
    )

pub returns : goal.returns
returns c =
    let pre = c.requires in
    at_found _ _ _ pre.lawful_degree pre.well_formed pre.p_value _ _ c.loop-power.invariant.0 c.if-power-q.true
