-- `rank::is_low` compares with the row that the page begins after, where there is one. Assumes nothing.
use Rattle.std.proofs.Common.{refl, arith, length-take}
use Rattle.search.proofs.rank.is_low.Goals as goal

pub ranks_before-requires : goal.ranks_before-requires
ranks_before-requires c =
    let lent = rw c.in-Some.is at c.requires.0.lent in
    (c.requires.1, simp length-take (omega arith))

pub returns-in-None : goal.returns-in-None
returns-in-None c = rw c.in-None.is refl

pub returns-in-Some : goal.returns-in-Some
returns-in-Some c = rw c.in-Some.is c.ranks_before.ensures
