-- `full_orders::primitive::none_is_one` meets its contract. Assumes nothing.
use native.Mathlib.Omega.{arith}
use Rattle.full_orders.proofs.DivisorLoop.{testing_zero, testing_one, testing_other, testing_end}
use Rattle.full_orders.proofs.primitive.none_is_one.Goals as goal

pub returns-then-r-eq0 : goal.returns-then-r-eq0
returns-then-r-eq0 g c f is = testing_zero (c.loop-r.invariant f is) c.loop-r-test.true c.if-r-eq0.true

pub returns-then-power-eq1 : goal.returns-then-power-eq1
returns-then-power-eq1 g c f is =
    testing_one (c.loop-r.invariant f is) c.loop-r-test.true c.if-r-eq0.false (rw c.leading_term-period.ensures at (is _ _ c.power.ensures)) c.if-power-eq1.true

pub loop-r-preserved : goal.loop-r-preserved
loop-r-preserved g c f is =
    testing_other (c.loop-r.invariant f is) c.loop-r-test.true c.if-r-eq0.false (rw c.leading_term-period.ensures at (is _ _ c.power.ensures)) c.if-power-eq1.false

pub returns : goal.returns
returns g c f is = testing_end (c.loop-r.invariant f is) (omega arith)
