-- `offer::keep_row` finds the row's slot among the rows kept, and puts it in there. Assumes nothing.
use native.Mathlib.Nat.{mul-le-mul_right, le_trans}
use native.Mathlib.Omega.{arith}
use Rattle.search.specs.Frame.{width_of}
use Rattle.search.proofs.offer.keep_row.Goals as goal

pub find_slot-at-requires : goal.find_slot-at-requires
find_slot-at-requires c =
    let k = c.requires.0 in
    let fit = le_trans (mul-le-mul_right (width_of c.args.f.now) k.few) k.room in
    rw c.requires.1 (omega (arith, k.lawful.top.low), fit, k.order)

pub insert_row-requires : goal.insert_row-requires
insert_row-requires c =
    let k = c.requires.0 in
    record { width_in_bounds = rw c.requires.1 (k.few, k.room); at_value = c.find_slot-at.ensures }

pub returns : goal.returns
returns c = rw c.requires.1 at c.insert_row.ensures
