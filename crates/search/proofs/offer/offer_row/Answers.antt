-- `offer::offer_row` goes by where the key stands; where that is open, Δ is written before the row is offered. Assumes nothing.
use Rattle.std.proofs.Common.{refl, arith, length-take}
use Rattle.search.specs.Frame.{width_most, state_of}
use Rattle.search.proofs.OfferLaws as laws
use Rattle.search.proofs.offer.offer_row.Goals as goal

pub weigh-requires : goal.weigh-requires
weigh-requires c =
    let pre = c.requires in
    record { searching = pre.searching; well_formed = pre.well_formed; q_value = pre.q_value; row_len = refl }

pub overflow_add-result : goal.overflow_add-result
overflow_add-result c = omega (arith, c.requires.searching.few)

pub write_delta-requires : goal.write_delta-requires
write_delta-requires c =
    let a = c.args in
    let valued = laws.open_valued a.f.now (state_of a.out.now a.t) a.p a.q c.weigh.new.row c.in-Open.ensures refl in
    record { lawful_list = c.requires.searching.framed.lawful; well_formed = c.requires.well_formed; valued = valued }

pub offer_known-requires : goal.offer_known-requires
offer_known-requires c =
    let most = width_most c.requires.searching.framed.lawful in
    (c.requires.searching, simp length-take (omega (arith, c.width_of.ensures, c.write_delta.ensures.sized)))

pub returns-in-Low : goal.returns-in-Low
returns-in-Low c = let a = c.args in laws.low_offered a.f.now (state_of a.out.now a.t) a.p a.q c.weigh.new.row c.in-Low.ensures refl

pub returns-in-High : goal.returns-in-High
returns-in-High c = let a = c.args in laws.high_offered a.f.now (state_of a.out.now a.t) a.p a.q c.weigh.new.row c.in-High.ensures refl

pub returns-in-Open : goal.returns-in-Open
returns-in-Open c = rw (c.width_of.ensures, c.write_delta.ensures.is) at c.offer_known.ensures
