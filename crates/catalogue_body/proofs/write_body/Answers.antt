-- `write_body` writes portion after portion, each behind those before. Assumes nothing.
use mathlib.Core.Path.{◌≡◌, refl, ◌∙◌}
use Prim.Native.Nat.{◌+◌, ◌*◌, ◌≤◌}
use native.Mathlib.Omega.{arith}
use borrow.Author.Tests.{not-false, not-true}
use lib.ListN.{length}
use Rattle.definitions.specs.Ranking.{row_width}
use Rattle.cursor.specs.Turns.{turn_falls, rows_fit, slice_kept}
use Rattle.catalogue_body.proofs.BodyLaws as laws
use Rattle.catalogue_body.proofs.write_body.Goals as goal
use Rattle.catalogue_body.proofs.write_body.Goals.{After-next-portion, At-loop-list}

size_is : (c : At-loop-list) → c.row_size-size.result ≡ laws.size_of c.args.list
size_is c = c.row_size-size.ensures

-- The portion's bytes fit behind those written.
behind_fits : (c : After-next-portion) → let size = laws.size_of c.args.list in
    c.args.at + c.loop-list.done * size + c.next-portion.result.rows * size ≤ length c.args.file.now
behind_fits c =
    laws.both_fit c.args.list c.requires.lawful_list c.args.file.now c.args.at c.requires.gaps_in_bounds c.loop-list.invariant.0 c.next-portion.ensures

room : (c : At-loop-list) → row_width c.loop-list.here.list ≤ length c.loop-list.rows
room c = rw c.loop-list.invariant.0.reads.list (omega (arith, c.loop-list.invariant.1, c.requires.list_in_bounds))

-- The rows stand in the slice.
fits : (c : After-next-portion) → c.next-portion.result.rows * row_width c.args.list ≤ length c.next-portion.new.out
fits c =
    let u = c.loop-list.invariant.0 in
    let h = c.next-portion.ensures in
    rw (← u.reads.list) (omega (arith, rows_fit h, slice_kept h u.reads.on_list))

pub loop-list-init : goal.loop-list-init
loop-list-init c = (rw c.start-here.ensures (laws.underway_start c.args.list c.args.file.now c.args.at c.requires.lawful_list), refl)

pub next-portion-requires : goal.next-portion-requires
next-portion-requires c =
    let u = c.loop-list.invariant.0 in
    (u.reads.on_list, room (goal.at.next-portion-requires c).At-loop-list)

pub overflow_mul-done : goal.overflow_mul-done
overflow_mul-done c =
    let known = c.well_formed in
    rw (size_is (goal.at.overflow_mul-done c).At-loop-list) (omega (arith, behind_fits (goal.at.overflow_mul-done c).After-next-portion))

pub overflow_add-at : goal.overflow_add-at
overflow_add-at c =
    let known = c.well_formed in
    rw (size_is (goal.at.overflow_add-at c).At-loop-list) (omega (arith, behind_fits (goal.at.overflow_add-at c).After-next-portion))

pub write_rows-requires : goal.write_rows-requires
write_rows-requires c =
    let u = c.loop-list.invariant.0 in
    let lawful = c.requires.lawful_list in
    record {
      lawful_degree = (lawful.degree, lawful.top);
      list_in_bounds = fits (goal.at.write_rows-requires c).After-next-portion;
      lawful_rows = laws.handed_lawful c.args.list lawful c.args.file.now c.args.at c.requires.gaps_in_bounds u c.next-portion.ensures;
      gaps_in_bounds =
          rw (size_is (goal.at.write_rows-requires c).At-loop-list)
          (laws.portion_fits c.args.list lawful c.args.file.now c.args.at c.requires.gaps_in_bounds u c.next-portion.ensures);
    }

pub overflow_add-done : goal.overflow_add-done
overflow_add-done c = omega (arith, laws.count_fits c.args.list c.requires.lawful_list c.args.file.now c.args.at c.requires.gaps_in_bounds c.loop-list.invariant.0 c.next-portion.ensures)

pub returns-then-not-portion : goal.returns-then-not-portion
returns-then-not-portion c =
    let a = c.args in
    let lawful = c.requires.lawful_list in
    let wrote = rw (size_is (goal.at.returns-then-not-portion c).At-loop-list) at c.write_rows.ensures in
    let all = laws.underway_next a.list lawful a.file.now a.at c.requires.gaps_in_bounds c.loop-list.invariant.0 c.next-portion.ensures wrote in
    let ended = not-true _ c.if-not-portion.true in
    record {
      value = laws.all_counted a.list lawful a.file.now a.at c.requires.gaps_in_bounds all ended;
      file_after = laws.all_written a.list lawful a.file.now a.at c.requires.gaps_in_bounds all ended;
    }

pub loop-list-smaller : goal.loop-list-smaller
loop-list-smaller c =
    rw (not-false _ c.if-not-portion.false) at (turn_falls c.next-portion.ensures (room (goal.at.loop-list-smaller c).At-loop-list))

pub loop-list-preserved : goal.loop-list-preserved
loop-list-preserved c =
    let u = c.loop-list.invariant.0 in
    let wrote = rw (size_is (goal.at.loop-list-preserved c).At-loop-list) at c.write_rows.ensures in (
      rw (not-false _ c.if-not-portion.false) at
          (laws.underway_next c.args.list c.requires.lawful_list c.args.file.now c.args.at c.requires.gaps_in_bounds u c.next-portion.ensures wrote),
      slice_kept c.next-portion.ensures u.reads.on_list ∙ c.loop-list.invariant.1,
    )
