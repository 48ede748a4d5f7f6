-- The invariant: it stands between low and high. The measure is the gap.
use Prim.Native.Nat.{◌-◌, ◌≤◌}
use lib.ListN.{length}
use Rattle.definitions.specs.Ranking.{row_key}
use Rattle.page_laws.specs.Slot.{slot}
use Rattle.page_laws.specs.Rows.{rows_of}
use Rattle.row_slot.proofs.find_slot.Given as goal

abbrev pub invariant-loop-low : goal.invariant-loop-low
invariant-loop-low l =
    (l.low ≤ l.high) × (l.high ≤ l.kept) × (l.low ≤ slot row_key l.row (rows_of (length l.row) l.kept l.out)) × (slot row_key l.row (rows_of (length l.row) l.kept l.out) ≤ l.high)

abbrev pub decreases-loop-low : goal.decreases-loop-low
decreases-loop-low l = l.high - l.low
