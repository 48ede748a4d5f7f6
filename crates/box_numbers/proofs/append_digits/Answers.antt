-- `box_numbers::append_digits` meets its contract. Assumes nothing.
use native.Mathlib.Omega.{arith}
use lib.Arith.{digits_lt}
use lib.Pow.{pow_mono}
use Rattle.box_numbers.proofs.append_digits.Goals as goal

-- a place of the array, of at most 2^8 points
pub bounds-points-j : goal.bounds-points-j
bounds-points-j c =
    omega (arith, digits_lt c.requires.place c.loop-h-test.true, c.leading_term-all.ensures, pow_mono {j = 8} c.requires.degree.high)
