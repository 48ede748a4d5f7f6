-- Invariant: the giant step at hand is x^e, and has not passed the last baby step; the measure is what is left up to the step.
use Prim.Native.Nat.{◌-◌}
use Rattle.definitions.specs.Generator.{step}
use Rattle.order_laws.specs.Giant.{GiantAt}
use Rattle.giant_steps.proofs.step_of.Given as goal

abbrev pub invariant-loop-place : goal.invariant-loop-place
invariant-loop-place l = GiantAt l.m l.p l.q l.count l.e l.giant

abbrev pub decreases-loop-place : goal.decreases-loop-place
decreases-loop-place l = step l.m l.p l.q - l.e
