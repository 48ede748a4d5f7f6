-- `quotient_degrees::remainder` meets its contract. Assumes nothing.
use native.Mathlib.Omega.{arith}
use Rattle.quotient_degrees.proofs.DegreeLaws.{drop_fits, rest_start, rest_end, rest_less, rest_again}
use Rattle.quotient_degrees.proofs.remainder.Goals as goal

pub overflow_shl-rest : goal.overflow_shl-rest
overflow_shl-rest c = drop_fits c.requires.b_nonzero c.requires.b_le_a c.ranges.a.fits c.requires.drop_value

pub loop-rest-init : goal.loop-rest-init
loop-rest-init c = rest_start c.requires.b_nonzero c.requires.b_le_a c.ranges.a.fits c.requires.drop_value

pub loop-rest-smaller : goal.loop-rest-smaller
loop-rest-smaller c = rest_less c.requires.b_nonzero c.loop-rest.invariant c.ranges.b.fits c.loop-rest-test.true

pub loop-rest-preserved : goal.loop-rest-preserved
loop-rest-preserved c = rest_again c.requires.b_nonzero c.loop-rest.invariant c.ranges.b.fits c.loop-rest-test.true

pub returns : goal.returns
returns c = rest_end c.requires.b_nonzero c.loop-rest.invariant c.ranges.b.fits (omega arith)
