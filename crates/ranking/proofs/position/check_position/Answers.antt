-- `position::check_position` passes the start, and refuses a position after a pair as judging refuses the pair. Assumes nothing.
use Rattle.ranking.proofs.PositionLaws as laws
use Rattle.ranking.proofs.position.check_position.Goals as goal

pub returns-in-Start : goal.returns-in-Start
returns-in-Start c =
    let a = c.args in laws.start_passes a.degree a.floor c.in-Start.is

pub returns-in-After : goal.returns-in-After
returns-in-After c =
    let a = c.args in
    laws.pair_decides a.degree a.floor c.in-After.is c.check_pair.ensures
