use mathlib.Core.Path.{◌≡◌}
use Prim.Native.Nat.{◌-◌}
use Rattle.definitions.specs.Number.{sum}
use Rattle.gap_laws.specs.Resolution.{dimension_gap}
use Rattle.gaps.proofs.sum.resolution_gaps.Given as goal

abbrev pub invariant-loop-digits : goal.invariant-loop-digits
invariant-loop-digits l = l.gaps ≡ sum (l.digits - 1) (dimension_gap l.degree l.p l.q)
