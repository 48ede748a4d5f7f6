-- Invariant: every shape passes that gives coordinate j fewer than d digits.
use mathlib.Core.Path.{◌≡◌}
use mathlib.Core.Bool.{true}
use Prim.Native.Nat.{◌+◌, ◌-◌}
use lib.ListN.{set}
use Rattle.definitions.specs.Number.{every}
use Rattle.counting_laws.specs.Shapes.{every_shape}
use Rattle.counting_laws.specs.Points.{fills_evenly}
use Rattle.counter.proofs.+every_shape.Given as goal

abbrev pub invariant-loop-d : goal.invariant-loop-d
invariant-loop-d l = every l.d (λ x. every_shape l.s (fills_evenly l.m l.points l.t) (set l.shape l.j x) (l.j + 1) (l.left - x)) ≡ true

abbrev pub decreases-every_shape : goal.decreases-every_shape
decreases-every_shape l = l.s - l.j
