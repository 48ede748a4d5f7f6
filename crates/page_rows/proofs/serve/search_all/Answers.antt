-- `serve::search_all` walks the tree from its root: what it has then found are the rows above the cut, without their steps, which are then written.
-- Assumes nothing.
use mathlib.Core.Path.{◌≡◌, ap}
use Prim.Native.Nat.{ℕ, ◌/◌}
use native.Mathlib.Omega.{arith}
use lib.ListN.{length}
use Rattle.definitions.specs.Ranking.{row_width}
use Rattle.page_rows.proofs.SearchLaws as laws
use Rattle.page_rows.proofs.serve.search_all.Goals as goal
use Rattle.page_rows.proofs.serve.search_all.Goals.{After-width_of-width}

-- How many rows fit.
abbrev capacity : After-width_of-width → ℕ
capacity c = length c.args.out.now / c.width_of-width.result

capacity_is : (c : After-width_of-width) → capacity c ≡ length c.args.out.now / row_width c.args.list
capacity_is c = ap (λ (w : ℕ). length c.args.out.now / w) c.width_of-width.ensures

-- ---- the rows found have their steps written
width : (c : After-width_of-width) → c.width_of-width.result ≡ row_width c.args.list
width c = c.width_of-width.ensures

pub visit-found-requires : goal.visit-found-requires
visit-found-requires c =
    let known = (goal.at.visit-found-requires c).After-width_of-width in
    let g = c.args in
    let out = g.out.now in
    laws.ready g.list g.last out (capacity known) c.requires.0 c.requires.1
    (laws.fitting_some g.list out (capacity_is known) c.requires.2) (laws.fitting_room g.list out (capacity_is known))

pub write_steps-requires : goal.write_steps-requires
write_steps-requires c =
    let known = (goal.at.write_steps-requires c).After-width_of-width in
    let g = c.args in
    let out = g.out.now in
    let cap = capacity known in
    let made = c.visit-found.ensures in
    let fit = laws.kept_fit g.list g.last out cap c.requires.0 made (laws.fitting_room g.list out (capacity_is known)) in
    let due = laws.kept_have_steps g.list g.last out cap c.requires.0 made in
    record { lawful_degree = rw (width known) ((c.requires.0.degree, omega (arith, c.requires.0.top.low), fit)); have_steps = rw (width known) (due) }

pub returns : goal.returns
returns c =
    let known = (goal.at.returns c).After-width_of-width in
    let g = c.args in
    laws.searched g.list g.last g.out.now (capacity known) c.requires.0 c.visit-found.ensures (capacity_is known)
    (rw (width known) at c.write_steps.ensures)
