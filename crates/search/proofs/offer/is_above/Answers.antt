-- `offer::is_above` compares with the row that the page begins after, where there is one. Assumes nothing.
use Rattle.std.proofs.Common.{arith, length-take}
use Rattle.search.proofs.OfferLaws as laws
use Rattle.search.proofs.offer.is_above.Goals as goal

pub stands_after-requires : goal.stands_after-requires
stands_after-requires c =
    let lent = rw c.in-Some.is at c.requires.0.lent in
    let low = c.requires.0.lawful.top.low in
    (simp length-take (omega arith), simp length-take (omega arith))

pub returns-in-None : goal.returns-in-None
returns-in-None c = laws.above_open c.args.f.now _ c.in-None.is

pub returns-in-Some : goal.returns-in-Some
returns-in-Some c = laws.above_last c.args.f.now _ c.in-Some.is c.requires.1 c.stands_after.ensures
