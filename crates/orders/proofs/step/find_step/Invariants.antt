-- Invariant: the power at hand is x^e, and e has not passed the step, which is the measure too.
use Prim.Native.Nat.{◌-◌, ◌<◌}
use Rattle.definitions.specs.Generator.{step}
use Rattle.orders.proofs.Finder.{At}
use Rattle.orders.proofs.step.find_step.Given as goal

abbrev pub invariant-loop-power : goal.invariant-loop-power
invariant-loop-power l = At l.m l.p l.q l.power l.e × (l.power < l.residues.lead)

abbrev pub decreases-loop-power : goal.decreases-loop-power
decreases-loop-power l = step l.m l.p l.q - l.e
