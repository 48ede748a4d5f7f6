-- `ranges::width` meets its contract: a part, rounded up, is no more than the whole. Assumes nothing.
use native.Mathlib.Omega.{arith}
use Rattle.least_weight.proofs.RoomLaws.{width_low}
use Rattle.least_weight.proofs.ranges.width.Goals as goal

pub returns : goal.returns
returns c =
    let l = width_low c.args.spare c.args.coordinate (omega arith) in (omega arith, λ b. l)
