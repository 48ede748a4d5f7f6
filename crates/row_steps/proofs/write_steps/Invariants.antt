-- The invariant: the steps of the first i rows are written.
use mathlib.Core.Path.{◌≡◌}
use Rattle.row_steps.specs.Written.{written}
use Rattle.row_steps.proofs.write_steps.Given as goal

abbrev pub invariant-loop-i : goal.invariant-loop-i
invariant-loop-i l = l.out ≡ written l.m l.width l.i l.initial.out
