-- Invariant: what the test says of the divisors from the place on, it says of all.
use Prim.Native.Nat.{ℕ}
use mathlib.Core.Path.{◌≡◌}
use Rattle.full_orders.proofs.DivisorLoop.{Testing}
use Rattle.full_orders.proofs.primitive.none_is_one.Given as goal

abbrev pub invariant-loop-r : goal.invariant-loop-r
invariant-loop-r g l =
    (f : ℕ → ℕ) → ((e v : ℕ) → goal.P-post g l.power e v → v ≡ f e) → Testing l.m f l.r-items l.r-index
