-- `next` fills the slice at the cursor's position: no row means that none is left, and else the last row tells the next position. Assumes nothing.
use mathlib.Core.Path.{◌≡◌, ap}
use Prim.Native.Nat.{ℕ, ◌-◌, ◌*◌, ◌≤◌}
use native.Mathlib.Omega.{arith}
use Rattle.definitions.specs.Ranking.{row_width}
use Rattle.cursor.proofs.NextLaws as laws
use Rattle.cursor.proofs.reading.next.Goals as goal
use Rattle.cursor.proofs.reading.next.Goals.{After-width_of}

abbrev rows : After-width_of → ℕ
rows c = c.fill-served.result.rows

some_row : (c : After-width_of) → 1 ≤ rows c
some_row c = let left = c.if-rows-eq0.false in omega (arith, left)

abbrev place : After-width_of → ℕ
place c = (rows c - 1) * c.width_of.result

place_is : (c : After-width_of) → place c ≡ (rows c - 1) * row_width c.args.at.list
place_is c = ap (λ (w : ℕ). (rows c - 1) * w) c.width_of.ensures

pub returns-then-rows-eq0 : goal.returns-then-rows-eq0
returns-then-rows-eq0 c = laws.handed_none c.args.at c.requires.0 c.requires.1 c.fill-served.ensures c.if-rows-eq0.true

pub overflow_mul-rows : goal.overflow_mul-rows
overflow_mul-rows c = omega (arith, laws.last_inside c.args.at c.requires.0 c.requires.1 c.fill-served.ensures (some_row c) (place c) (place_is c))

pub after_row-requires : goal.after_row-requires
after_row-requires c = laws.last_inside c.args.at c.requires.0 c.requires.1 c.fill-served.ensures (some_row c) (place c) (place_is c)

pub returns : goal.returns
returns c =
    let known = (goal.at.returns c).After-width_of in
    laws.handed_some c.args.at c.requires.0 c.requires.1 c.fill-served.ensures (some_row known) (place_is known) c.after_row.ensures
