-- `Search::take_row` meets its contract: the row is packed, reduced, scanned and kept. Assumes nothing.
use Rattle.std.proofs.Common.{refl, arith}
use Rattle.relations.specs.Slots.{Reduced}
use Rattle.least_weight.proofs.RoomLaws.{taking, room_next}
use Rattle.least_weight.proofs.TurnLaws.{row_at, row_apart, row_leads, path_taken, searched_taken}
use Rattle.least_weight.proofs.ranges.Search.take_row.Goals as goal
use Rattle.least_weight.proofs.ranges.Search.take_row.Goals.{After-reduce-v}

reduced : (c : After-reduce-v)
    → let a = c.args.at in
    Reduced c.args.basis.now a.mask (row_at c.args.self.now.table.now a.coordinate a.digits a.taken) c.reduce-v.result
reduced c = rw c.from.ensures at c.reduce-v.ensures

pub reduce-v-requires-clause-apart : goal.reduce-v-requires-clause-apart
reduce-v-requires-clause-apart c = rw c.from.ensures (row_apart (taking c.requires.room c.requires.digits_lt_to.1) c.requires.path)

pub overflow_sub-place : goal.overflow_sub-place
overflow_sub-place c =
    let t = taking c.requires.room c.requires.digits_lt_to.1 in
    let leads = row_leads t c.requires.path (reduced (goal.at.overflow_sub-place c).After-reduce-v) in
    omega (arith, leads.zeros)

pub returns-clause-reached : goal.returns-clause-reached
returns-clause-reached c =
    let pre = c.requires in
    let t = taking pre.room pre.digits_lt_to.1 in
    let by = reduced (goal.at.returns-clause-reached c).After-reduce-v in
    record {
      coordinate = refl;
      path = path_taken t pre.path by;
      room = room_next pre.room c.scan-found.ensures.less pre.digits_lt_to.0 pre.digits_lt_to.1;
      on = λ end r found. searched_taken t pre.path by c.scan-found.ensures found;
    }
