-- The invariant: what is left of the text, over what stands behind the i numbers written, is the whole text over what stood there at first.
use mathlib.Core.Path.{◌≡◌}
use Prim.Native.Nat.{◌+◌}
use lib.ListN.{length, drop}
use Rattle.definitions.specs.Listing.{row_text}
use Rattle.definitions.specs.Number.{over}
use Rattle.row_text.specs.Rows.{left_text}
use Rattle.row_text.proofs.write.write_row.Given as goal

abbrev pub invariant-loop-i : goal.invariant-loop-i
invariant-loop-i l = record {
  length_left : l.place + length (left_text l.i (drop l.i l.row)) ≡ l.at + length (row_text l.row);
  text_left : over l.place (left_text l.i (drop l.i l.row)) l.out ≡ over l.at (row_text l.row) l.initial.out;
}
