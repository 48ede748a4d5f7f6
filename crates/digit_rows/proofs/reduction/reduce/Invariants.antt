-- Invariant: v is the digit row reduced by the vectors so far.
use Rattle.std.proofs.Common.{◌≡◌}
use Rattle.net_laws.specs.Reduction.{reduce}
use Rattle.digit_rows.specs.Basis.{newest}
use Rattle.digit_rows.proofs.reduction.reduce.Given as goal

abbrev pub invariant-loop-i : goal.invariant-loop-i
invariant-loop-i l = l.v ≡ reduce (newest l.basis l.i) l.digits
