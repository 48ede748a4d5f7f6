-- Invariant: that of the step finder, the power at hand is x^e and e has not passed the step; it begins at e = m - 1.
use Prim.Native.Nat.{◌<◌}
use Rattle.orders.proofs.Finder.{At}
use Rattle.orders.proofs.floors.reaches_floor.Given as goal

abbrev pub invariant-loop : goal.invariant-loop
invariant-loop l = At l.m l.p l.q l.power l.counter × (l.power < l.residues.lead)
