-- Invariant: the baby steps so far are held, and the residue is the next one.
use mathlib.Core.Path.{◌≡◌}
use Prim.Native.Nat.{◌-◌}
use Rattle.baby_steps.proofs.ChainLaws.{Filling}
use Rattle.baby_steps.proofs.Steps.of.Given as goal

abbrev pub invariant-loop : goal.invariant-loop
invariant-loop l = (l.steps.mask ≡ l.count - 1) × (l.steps.count ≡ l.counter) × Filling l.residues.p l.q l.residues.lead l.counter l.residue l.steps.value
