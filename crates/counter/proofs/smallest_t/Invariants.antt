-- Invariant: the first t that passes from here on is the first from 0 on.
use mathlib.Core.Path.{◌≡◌}
use mathlib.Core.Bool.{Bool}
use mathlib.Core.List.{List}
use Prim.Native.Nat.{ℕ, ◌-◌}
use Rattle.definitions.specs.Number.{first}
use Rattle.definitions.specs.Net.{every_share}
use Rattle.counting_laws.specs.Points.{fills_evenly}
use Rattle.counter.proofs.smallest_t.Given as goal

abbrev pub passes : List ℕ → ℕ → ℕ → ℕ → Bool
passes points s m t = every_share s (m - t) (fills_evenly m points t)

abbrev pub invariant-loop-t : goal.invariant-loop-t
invariant-loop-t l = first (l.m - l.t) l.t (passes l.points l.s l.m) ≡ first l.m 0 (passes l.points l.s l.m)
