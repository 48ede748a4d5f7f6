-- `rank::is_high` compares with the last row kept, where there is no room left. Assumes nothing.
use mathlib.Core.Path.{◌≡◌}
use Prim.Native.Nat.{◌+◌, ◌-◌, ◌*◌, ◌≤◌}
use native.Mathlib.Omega.{arith}
use lib.Dec.{eqb}
use lib.ListN.{length, length-take, length-drop}
use borrow.Author.Tests.{eq-eqb, ne_eqb}
use Rattle.row_order.specs.Ranks.{ranks_of}
use Rattle.search.specs.Frame.{width_of}
use Rattle.search.proofs.RankLaws as laws
use Rattle.search.proofs.rank.is_high.Goals as goal
use Rattle.search.proofs.rank.is_high.Goals.{After-width_of}

full : (c : After-width_of) → c.args.t.kept ≡ c.args.f.now.capacity
full c = c.if-t-f.false

width : (c : After-width_of) → c.width_of.result ≡ width_of c.args.f.now
width c = c.width_of.ensures

last_row_lem : (c : After-width_of) → (c.args.t.kept - 1) * c.width_of.result + c.width_of.result ≡ c.args.t.kept * c.width_of.result
last_row_lem c = laws.last_row_lem c.args.t.kept c.width_of.result (omega (arith, full c, c.requires.2))

fits : (c : After-width_of) → c.args.t.kept * c.width_of.result ≤ length c.args.out.now
fits c = laws.rows_fit (full c) (width c) c.requires.3

-- The numbers of the last row that are compared.
inside : (c : After-width_of) → (c.args.t.kept - 1) * c.width_of.result + length c.args.row.now ≤ length c.args.out.now
inside c = omega (arith, last_row_lem c, fits c, width c, c.requires.1)

pub returns-then-t-f : goal.returns-then-t-f
returns-then-t-f c = laws.both_no (eqb c.args.t.kept c.args.f.now.capacity) _ (ne_eqb _ _ c.if-t-f.true)

pub overflow_mul-from : goal.overflow_mul-from
overflow_mul-from c = omega (arith, inside (goal.at.overflow_mul-from c).After-width_of)

pub ranks_before-requires : goal.ranks_before-requires
ranks_before-requires c =
    let known = (goal.at.ranks_before-requires c).After-width_of in
    (simp (length-take, length-drop) (omega (arith, inside known, c.requires.0)), c.requires.0)

pub returns : goal.returns
unfolding ranks_of
returns c =
    let known = (goal.at.returns c).After-width_of in
    let as_long : (c.args.t.kept - 1) * c.width_of.result + length c.args.row.now - (c.args.t.kept - 1) * c.width_of.result ≡ length c.args.row.now = omega arith in
    laws.both_yes (eqb c.args.t.kept c.args.f.now.capacity) (eq-eqb _ _ (full known)) (rw (as_long, width known) at c.ranks_before.ensures)
