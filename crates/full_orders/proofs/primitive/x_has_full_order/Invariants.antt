-- Invariant: the power is x squared i times.
use Rattle.full_orders.proofs.PowerLaws.{Squared}
use Rattle.full_orders.proofs.primitive.x_has_full_order.Given as goal

abbrev pub invariant-loop : goal.invariant-loop
invariant-loop l = Squared l.m l.fn.residues.p l.counter l.power
