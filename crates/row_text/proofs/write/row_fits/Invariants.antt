-- The invariant: what is left of the room and the bytes of the numbers passed are the room.
use mathlib.Core.Path.{◌≡◌}
use Prim.Native.Nat.{◌+◌}
use lib.ListN.{drop}
use Rattle.row_text.specs.Rows.{row_bytes}
use Rattle.row_text.proofs.write.row_fits.Given as goal

abbrev pub invariant-loop-n : goal.invariant-loop-n
invariant-loop-n l = row_bytes l.row + l.left ≡ l.room + row_bytes (drop l.n-index l.row)
