-- `row_slot::find_slot` finds the slot by halves. Assumes nothing.
use Prim.Native.Nat.{ℕ, suc, ◌+◌, ◌-◌, ◌*◌, ◌/◌, ◌≤◌, ◌<◌}
use native.Mathlib.Nat.{mul-le-mul_right}
use native.Mathlib.Omega.{arith}
use mathlib.Core.Path.{◌≡◌}
use mathlib.Core.List.{List}
use lib.ListN.{length, take, drop, length-take, length-drop}
use Rattle.definitions.specs.Pages.{before}
use Rattle.definitions.specs.Ranking.{row_key}
use Rattle.page_laws.specs.Rows.{slot_rows, slot_rows_down, slot_rows_up}
use Rattle.row_slot.proofs.find_slot.Goals as goal
use Rattle.row_slot.proofs.find_slot.Goals.{In-loop-low, After-stands_before}

-- The numbers before the row in the middle, and that row.
mid_in : (w low high n : ℕ) → low < high → high ≤ n → (low + (high - low) / 2) * w + w ≤ n * w
mid_in w low high n l h = omega (arith, mul-le-mul_right {m = suc (low + (high - low) / 2)} {n = n} w (omega arith))

-- The row in the middle is as long as the others.
mid_row : (w k : ℕ) (out : List ℕ) → k * w + w ≤ length out → take (k * w + w - k * w) (drop (k * w) out) ≡ take w (drop (k * w) out)
mid_row w k out h = let e : k * w + w - k * w ≡ w = omega arith in rw e

inside : (c : In-loop-low) → let w = length c.args.row.now in
    (c.loop-low.low + (c.loop-low.high - c.loop-low.low) / 2) * w + w ≤ length c.args.out.now
inside c = omega (arith, mid_in (length c.args.row.now) c.loop-low.low c.loop-low.high c.args.kept (omega arith) (omega arith))

pub loop-low-init : goal.loop-low-init
loop-low-init c = (omega arith, omega arith, omega arith, slot_rows row_key _ _ _ _)

pub overflow_mul-from : goal.overflow_mul-from
overflow_mul-from c = omega (arith, inside c)

pub stands_before-requires : goal.stands_before-requires
stands_before-requires c = (c.requires.0, simp (length-take, length-drop) (omega (arith, inside (goal.at.stands_before-requires c).In-loop-low)))

-- How the row stands to the one in the middle.
compared : (c : After-stands_before) → let g = c.args in let w = length g.row.now in
    c.stands_before.result ≡ before (row_key g.row.now) (row_key (take w (drop ((c.loop-low.low + (c.loop-low.high - c.loop-low.low) / 2) * w) g.out.now)))
compared c = rw (mid_row (length c.args.row.now) _ c.args.out.now (inside (goal.at.After-stands_before c).In-loop-low)) at c.stands_before.ensures

pub loop-low-preserved-then-stands_before : goal.loop-low-preserved-then-stands_before
loop-low-preserved-then-stands_before c =
    let g = c.args in
    let t = rw (compared (goal.at.loop-low-preserved-then-stands_before c).After-stands_before) at c.if-stands_before.true in
    (omega arith, omega arith, c.loop-low.invariant.2, slot_rows_down row_key (length g.row.now) g.row.now g.out.now g.kept _ (omega arith) t)

pub loop-low-preserved : goal.loop-low-preserved
loop-low-preserved c =
    let g = c.args in
    let f = rw (compared (goal.at.loop-low-preserved c).After-stands_before) at c.if-stands_before.false in
    let up = slot_rows_up row_key (length g.row.now) g.row.now g.out.now g.kept _ (omega arith) c.requires.2 f in
    (omega arith, omega arith, omega arith, c.loop-low.invariant.3)
