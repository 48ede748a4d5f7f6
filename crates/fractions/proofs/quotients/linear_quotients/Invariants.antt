-- The invariant: the test of (a, b) is the test of (p, q), `lead_of_a` is the leading term of a, and b is below it. The measure is `lead_of_a`.
use Rattle.fractions.proofs.FractionLaws.{Run}
use Rattle.fractions.proofs.quotients.linear_quotients.Given as goal

abbrev pub invariant-loop-b : goal.invariant-loop-b
invariant-loop-b l = Run l.p l.q l.a l.b l.lead_of_a

abbrev pub decreases-loop-b : goal.decreases-loop-b
decreases-loop-b l = l.lead_of_a
