-- Invariant: the two numbers have the greatest common divisor of a and b. The measure is the smaller number.
use mathlib.Core.Path.{◌≡◌}
use Rattle.definitions.specs.Number.{gcd}
use Rattle.generator.proofs.common_divisor.gcd_of.Given as goal

abbrev pub invariant-loop-small : goal.invariant-loop-small
invariant-loop-small l = gcd l.large l.small ≡ gcd l.a l.b

abbrev pub decreases-loop-small : goal.decreases-loop-small
decreases-loop-small l = l.small
