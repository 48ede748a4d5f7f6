-- `Search::search_ranges` and `search_below` meet their contracts: each way through them is a turn of the search over ranges. Assumes nothing.
use Rattle.std.proofs.Common.{◌≡◌, List, ℕ, ◌+◌, ◌<◌, ◌≤◌, ◌∙◌, arith}
use Rattle.least_weight.specs.Places.{SearchedAt}
use Rattle.least_weight.proofs.RoomLaws.{deep, room_below}
use Rattle.least_weight.proofs.TurnLaws.{path_left, path_kept, below_one, below_stop, below_deep, searched_closed, searched_behind}
use Rattle.least_weight.proofs.ranges.Search.+search_below_search_ranges.Goals as goal
use Rattle.least_weight.proofs.ranges.Search.+search_below_search_ranges.Goals.{search_ranges-then-at+else-at-self-2, search_ranges-else-at+else-at-self}

-- ---- `search_below`
pub search_below-returns-then-at-eq1 : goal.search_below-returns-then-at-eq1
search_below-returns-then-at-eq1 t c = below_one c.if-at-eq1.true

pub search_below-returns-then-low-self : goal.search_below-returns-then-low-self
search_below-returns-then-low-self t c = below_stop c.if-low-self.true

-- coordinates below are gone through
pub search_below-search_ranges-requires : goal.search_below-search_ranges-requires
search_below-search_ranges-requires t c =
    let l = c.requires.leaving in
    let two : 2 ≤ c.args.at.coordinate = omega (arith, l.numbers.coordinate_low) in
    let on : c.args.at.counted + c.args.at.from + c.args.self.now.bound < c.args.at.least = omega arith in
    let d = deep l two on in
    let end = c.width.ensures in
    (omega (arith, c.decreases, d), (path_left (omega (arith, d)) (omega (arith, d)) c.requires.path, room_below l two on end.0 end.1))

pub search_below-returns : goal.search_below-returns
search_below-returns t c =
    let l = c.requires.leaving in
    let two : 2 ≤ c.args.at.coordinate = omega (arith, l.numbers.coordinate_low) in
    let on : c.args.at.counted + c.args.at.from + c.args.self.now.bound < c.args.at.least = omega arith in
    let d = deep l two on in
    below_deep (omega (arith, d)) (omega (arith, d)) c.search_ranges.ensures

-- ---- `search_ranges`
pub search_ranges-returns-then-at-self-2 : goal.search_ranges-returns-then-at-self-2
search_ranges-returns-then-at-self-2 t c =
    let on = c.rows.invariant in
    let full : c.search_below.result ≤ c.rows.at.counted + c.rows.at.digits + c.args.self.now.bound = omega arith in
    on.on _ _ (searched_closed on.room.numbers.coordinate_low full c.search_below.ensures)

pub search_ranges-take_row-at-requires-clause-path : goal.search_ranges-take_row-at-requires-clause-path
search_ranges-take_row-at-requires-clause-path t c =
    elim c.if-at.branch [
      | search_ranges-then-at+else-at-self-2 w ↦ rw (w.basis-is, w.at-is) (path_kept w.search_below.ensures.kept c.rows.invariant.path)
      | search_ranges-else-at+else-at-self w ↦ rw (w.basis-is, w.at-is) c.rows.invariant.path
    ]

pub search_ranges-rows-preserved : goal.search_ranges-rows-preserved
search_ranges-rows-preserved t c =
    let a = c.args in
    let here = c.rows.invariant in
    let next = c.take_row-at.ensures.reached in
    let ahead : (c.if-at.at.coordinate ≡ a.at.coordinate) × ((end : List ℕ) (r : ℕ) → SearchedAt a.self.now.table.now a.self.now.degree a.self.now.bound c.if-at.at c.if-at.basis end r → SearchedAt a.self.now.table.now a.self.now.degree a.self.now.bound a.at a.basis.now end r) =
    elim c.if-at.branch [
      | search_ranges-then-at+else-at-self-2 w ↦ (
        rw w.at-is here.coordinate,
        λ end r found. here.on end r (searched_behind here.room.numbers.coordinate_low w.search_below.ensures (rw (w.basis-is, w.at-is) at found)),
      )
      | search_ranges-else-at+else-at-self w ↦ (rw w.at-is here.coordinate, λ end r found. here.on end r (rw (w.basis-is, w.at-is) at found))
    ] in
    record { coordinate = next.coordinate ∙ ahead.0; path = next.path; room = next.room; on = λ end r found. ahead.1 end r (next.on end r found) }
