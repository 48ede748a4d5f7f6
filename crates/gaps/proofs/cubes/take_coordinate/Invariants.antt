use mathlib.Core.Path.{◌≡◌}
use Prim.Native.Nat.{suc}
use Rattle.net_laws.specs.Point.{digit_row}
use Rattle.gaps.specs.Taken.{Taken}
use Rattle.gaps.proofs.cubes.take_coordinate.Given as goal

abbrev pub invariant-loop-i : goal.invariant-loop-i
invariant-loop-i l =
    (l.row ≡ digit_row l.residues.p l.q (suc l.last) l.i) × Taken (digit_row l.residues.p l.q) l.digits l.last l.i l.basis
