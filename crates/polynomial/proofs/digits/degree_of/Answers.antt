-- `polynomial::digits::degree_of` meets its contract: leading zeros, the highest digit and the digits below it make 32. Assumes nothing.
use native.Mathlib.Omega.{arith}
use Rattle.polynomial.specs.Digits.{leading_degree}
use Rattle.polynomial.proofs.digits.degree_of.Goals as goal

pub returns : goal.returns
returns c = omega (arith, leading_degree _ c.requires c.ranges.a.fits)
