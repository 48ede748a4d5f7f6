-- Euclid's algorithm, one step at a time: (a, b) and (b, a % b) have the same greatest common divisor.
-- Assumes nothing.
use mathlib.Core.Path.{◌≡◌, refl}
use Prim.Native.Nat.{ℕ, ◌%◌}
use native.Mathlib.Nat.{dvd-mod_iff, dvd_antisymm}
use Rattle.definitions.specs.Number.{gcd, gcd_within}
use Rattle.number_laws.specs.Gcd.{gcd_divides, gcd_greatest}

pub gcd_zero : (a : ℕ) → gcd a 0 ≡ a
unfolding gcd gcd_within
gcd_zero a = refl

pub gcd_step : (a b : ℕ) → gcd b (a % b) ≡ gcd a b
gcd_step a b =
    let whole = gcd_divides a b in
    let rest = gcd_divides b (a % b) in
    dvd_antisymm (gcd_greatest _ a b ((dvd-mod_iff _ rest.0).0 rest.1) rest.0)
    (gcd_greatest _ b (a % b) whole.1 ((dvd-mod_iff _ whole.1).1 whole.0))
