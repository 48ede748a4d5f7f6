-- `page` refuses by the first situation of the request that applies, and else fills the slice at its position. Assumes nothing.
use Rattle.std.specs.Prelude.{Ok}
use mathlib.Core.Path.{◌≡◌, sym, ◌∙◌}
use mathlib.Core.Bool.{true}
use native.Mathlib.Omega.{arith}
use borrow.Author.Tests.{not-false, not-true}
use Rattle.std.proofs.lemmas.Result.{err_from_is_err_and}
use Rattle.definitions.specs.Calls.{selection_of}
use Rattle.definitions.specs.Generator.{lawful_degree, lawful_floor}
use Rattle.definitions.specs.Ranking.{lawful_top}
use Rattle.number_laws.specs.Bounds.{lawful_degree_is, lawful_top_is}
use Rattle.search.specs.Frame.{LawfulList}
use Rattle.ranking.specs.Positions.{position_verdict}
use Rattle.ranking.proofs.PageLaws as laws
use Rattle.ranking.proofs.PositionLaws.{position_decides, position_passes, position_listed}
use Rattle.ranking.proofs.page.Goals as goal
use Rattle.ranking.proofs.page.Goals.{Else-not-is_lawful_floor, Else-not-is_lawful_top, In_ok-check_position}

degree_lawful : (c : Else-not-is_lawful_top) → lawful_degree c.args.request.degree ≡ true
degree_lawful c = sym c.is_lawful_degree.ensures ∙ not-false _ c.if-not-is_lawful_degree.false-raw

top_lawful : (c : Else-not-is_lawful_top) → lawful_top c.args.request.top ≡ true
top_lawful c = sym c.is_lawful_top.ensures ∙ not-false _ c.if-not-is_lawful_top.false-raw

floor_lawful : (c : Else-not-is_lawful_floor) → lawful_floor c.args.request.floor ≡ true
floor_lawful c = sym c.is_lawful_floor.ensures ∙ not-false _ c.if-not-is_lawful_floor.false-raw

list_lawful : (c : Else-not-is_lawful_floor) → LawfulList (selection_of c.args.request)
list_lawful c =
    let known = (goal.at.Else-not-is_lawful_floor c).Else-not-is_lawful_top in
    record { degree = (lawful_degree_is _).0 (degree_lawful known); top = (lawful_top_is _).0 (top_lawful known) }

passed : (c : In_ok-check_position) → let r = c.args.request in position_verdict r.degree r.floor r.position ≡ Ok tt
passed c = sym c.check_position.ensures ∙ c.in_ok-check_position.was

-- ---- the returns
pub returns-then-not-is_lawful_degree : goal.returns-then-not-is_lawful_degree
returns-then-not-is_lawful_degree c =
    let g = c.args in
    let all = laws.wrong_degree g.request g.out.now (sym c.is_lawful_degree.ensures ∙ not-true _ c.if-not-is_lawful_degree.true-raw) in record { answer = all.0; slice = all.1 }

pub returns-then-not-is_lawful_top : goal.returns-then-not-is_lawful_top
returns-then-not-is_lawful_top c =
    let g = c.args in
    let degree = sym c.is_lawful_degree.ensures ∙ not-false _ c.if-not-is_lawful_degree.false-raw in
    let all = laws.wrong_top g.request g.out.now degree (sym c.is_lawful_top.ensures ∙ not-true _ c.if-not-is_lawful_top.true-raw) in record { answer = all.0; slice = all.1 }

pub returns-then-not-is_lawful_floor : goal.returns-then-not-is_lawful_floor
returns-then-not-is_lawful_floor c =
    let known = (goal.at.returns-then-not-is_lawful_floor c).Else-not-is_lawful_top in
    let g = c.args in
    let all = laws.wrong_floor g.request g.out.now (degree_lawful known) (top_lawful known) (sym c.is_lawful_floor.ensures ∙ not-true _ c.if-not-is_lawful_floor.true-raw) in record { answer = all.0; slice = all.1 }

pub check_position-requires : goal.check_position-requires
check_position-requires c = (list_lawful c).degree

pub returns-then-out-width_of : goal.returns-then-out-width_of
returns-then-out-width_of c =
    let known = (goal.at.returns-then-out-width_of c).Else-not-is_lawful_top in
    let g = c.args in
    let none = position_passes g.request.degree g.request.floor g.request.position (passed (goal.at.returns-then-out-width_of c).In_ok-check_position) in
    let all = laws.short_slice g.request g.out.now (degree_lawful known) (top_lawful known) (floor_lawful (goal.at.returns-then-out-width_of c).Else-not-is_lawful_floor) none (omega (arith, c.width_of.ensures)) in record { answer = all.0; slice = all.1 }

pub fill-requires : goal.fill-requires
fill-requires c =
    let r = c.args.request in
    (list_lawful (goal.at.fill-requires c).Else-not-is_lawful_floor, position_listed (selection_of r) r.position (passed (goal.at.fill-requires c).In_ok-check_position), omega (arith, c.width_of.ensures))

pub returns-in_err-check_position : goal.returns-in_err-check_position
returns-in_err-check_position c =
    let p = err_from_is_err_and c.from_residual.result c.from_residual.ensures.1 in
    let known = (goal.at.returns-in_err-check_position c).Else-not-is_lawful_top in
    let g = c.args in
    let verdict = sym c.check_position.ensures ∙ c.in_err-check_position.was in
    let all = laws.wrong_position g.request g.out.now (degree_lawful known) (top_lawful known) (floor_lawful (goal.at.returns-in_err-check_position c).Else-not-is_lawful_floor)
    (position_decides g.request.degree g.request.floor g.request.position verdict) in rw (p.1, p.2) (record { answer = all.0; slice = all.1 })

pub returns : goal.returns
returns c =
    let known = (goal.at.returns c).Else-not-is_lawful_top in
    let g = c.args in
    let none = position_passes g.request.degree g.request.floor g.request.position (passed (goal.at.returns c).In_ok-check_position) in
    let all = laws.page_filled g.request g.out.now (degree_lawful known) (top_lawful known) (floor_lawful (goal.at.returns c).Else-not-is_lawful_floor) none
    (omega (arith, c.width_of.ensures)) c.fill.ensures in record { answer = all.0; slice = all.1 }
