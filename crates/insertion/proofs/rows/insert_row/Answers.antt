-- `rows::insert_row` puts a row in: with room, the rows behind its slot move up; without, the last row falls off, or the row itself does. Assumes
-- nothing.
use mathlib.Core.Path.{◌≡◌}
use mathlib.Core.List.{List}
use Prim.Native.Nat.{ℕ, suc, ◌-◌, ◌*◌, ◌≤◌, min}
use native.Mathlib.Nat.{mul-le-mul_right, le_trans}
use native.Mathlib.Omega.{arith}
use lib.ListN.{length}
use Rattle.definitions.specs.Ranking.{row_key}
use Rattle.page_laws.specs.Rows.{Kept, inserted, spliced, slot_rows, inserted_spliced, inserted_none}
use Rattle.insertion.proofs.RowLaws as laws
use borrow.Author.Rules.{rules}
use Rattle.insertion.proofs.rows.insert_row.Goals as goal
use Rattle.insertion.proofs.rows.insert_row.Goals.{Start}

-- The row that is put in, and how long it is.
abbrev new_row : Start → List ℕ
new_row e = e.args.row.now

abbrev width : Start → ℕ
width e = length (new_row e)

slot_at_most : (e : Start) → e.args.at ≤ e.args.kept
slot_at_most e = let g = e.args in omega (arith, e.requires.at_value, slot_rows row_key (width e) (new_row e) g.out.now g.kept)

rows_fit : (e : Start) (n : ℕ) → n ≤ e.args.capacity → n * width e ≤ length e.args.out.now
rows_fit e n h = le_trans (mul-le-mul_right (width e) h) e.requires.width_in_bounds.1

-- A splice keeps k rows, the new one and q of the others.
kept_rows : (e : Start) (q k : ℕ) {out : List ℕ} → e.args.at ≤ q → k ≡ suc q → k ≡ min e.args.capacity (suc e.args.kept) → q ≤ e.args.capacity
    → out ≡ spliced (e.args.at * width e) (q * width e) (new_row e) e.args.out.now
    → ◌≡◌ {A = Kept} (record { out = out; n = k })
    (inserted row_key (width e) e.args.capacity (new_row e) (record { out = e.args.out.now; n = e.args.kept }))
kept_rows e q k before one most few written =
    let g = e.args in
    inserted_spliced row_key (width e) g.capacity (new_row e) g.out.now g.kept g.at e.requires.at_value q k before one most (rows_fit e q few) written

-- ---- with room
pub overflow_mul-at : goal.overflow_mul-at
overflow_mul-at c =
    let start = (goal.at.overflow_mul-at c).Start in
    omega (arith, rows_fit start c.args.at (omega (arith, slot_at_most start)))

pub overflow_mul-kept : goal.overflow_mul-kept
overflow_mul-kept c = omega (arith, rows_fit (goal.at.overflow_mul-kept c).Start c.args.kept (omega arith))

pub splice-requires : goal.splice-requires
splice-requires c =
    let ordered = mul-le-mul_right (length c.args.row.now) (slot_at_most (goal.at.splice-requires c).Start) in
    let inside = laws.row_in (length c.args.row.now) c.args.kept c.args.capacity c.if-kept-capacity.true in
    search rules

pub returns-then-kept-capacity : goal.returns-then-kept-capacity
returns-then-kept-capacity c =
    let start = (goal.at.returns-then-kept-capacity c).Start in
    let free = c.if-kept-capacity.true in
    kept_rows start c.args.kept _ (slot_at_most start) (omega arith) (omega (arith, free)) (omega arith) c.splice.ensures

-- ---- without
pub overflow_mul-at-then-at-kept : goal.overflow_mul-at-then-at-kept
overflow_mul-at-then-at-kept c = omega (arith, rows_fit (goal.at.overflow_mul-at-then-at-kept c).Start c.args.at (omega arith))

pub overflow_mul-kept-then-at-kept : goal.overflow_mul-kept-then-at-kept
overflow_mul-kept-then-at-kept c = omega (arith, rows_fit (goal.at.overflow_mul-kept-then-at-kept c).Start (c.args.kept - 1) (omega arith))

pub splice-requires-then-at-kept : goal.splice-requires-then-at-kept
splice-requires-then-at-kept c =
    let g = c.args in
    let ordered = mul-le-mul_right {m = g.at} {n = g.kept - 1} (length g.row.now) (omega arith) in
    let inside = laws.row_in (length g.row.now) (g.kept - 1) g.capacity (omega arith) in
    search rules

pub returns-then-at-kept : goal.returns-then-at-kept
returns-then-at-kept c = kept_rows (goal.at.returns-then-at-kept c).Start (c.args.kept - 1) c.args.kept (omega arith) (omega arith) (omega arith) (omega arith) c.splice-then-at-kept.ensures

pub returns-else-at-kept : goal.returns-else-at-kept
returns-else-at-kept c =
    let g = c.args in
    inserted_none row_key (length g.row.now) g.capacity g.row.now g.out.now g.kept g.at c.requires.at_value (omega arith) (omega arith)
