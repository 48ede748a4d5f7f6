-- `quotient_degrees::quotient_degrees` meets its contract. Assumes nothing.
use Prim.Native.Nat.{◌<◌}
use native.Mathlib.Omega.{arith}
use Rattle.std.proofs.Common.{rules}
use Rattle.fraction_laws.specs.Expansion.{rem_less}
use Rattle.quotient_degrees.proofs.DegreeLaws.{divided_end, divided_degree, divided_next}
use Rattle.quotient_degrees.proofs.quotient_degrees.Goals as goal
use Rattle.quotient_degrees.proofs.quotient_degrees.Goals.{After-remainder-rest}

nonzero : (c : After-remainder-rest) → 0 < c.loop-b.b
nonzero c = omega (arith, c.loop-b-test.true)

pub overflow_sub-degree : goal.overflow_sub-degree
overflow_sub-degree c = omega (arith, divided_degree c.loop-b.invariant (omega arith), c.degree_of-degree_of_b.ensures.0)

pub loop-b-smaller : goal.loop-b-smaller
loop-b-smaller c = omega (arith, c.remainder-rest.ensures, rem_less c.loop-b.a c.loop-b.b (nonzero c))

pub loop-b-preserved : goal.loop-b-preserved
loop-b-preserved c = divided_next c.loop-b.invariant (nonzero c) c.degree_of-degree_of_b.ensures.0 (search rules) c.remainder-rest.ensures

pub returns : goal.returns
returns c = divided_end c.loop-b.invariant c.loop-b-test.false
