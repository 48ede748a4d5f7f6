-- `sums::scan` meets its contract: v is below the limit, and the mask is cut off there, or nothing is met. Assumes nothing.
use Prim.Native.Nat.{◌<◌}
use native.Mathlib.Omega.{arith}
use Rattle.relations.proofs.SumLaws.{limit, scanning_few, scanning_many}
use Rattle.relations.proofs.sums.scan.Goals as goal

pub returns-then-v-limit : goal.returns-then-v-limit
returns-then-v-limit c =
    let a = c.args in
    let found = c.lightest_sum in
    let low : a.v < limit a.digits = omega arith in
    scanning_few a.starts a.v a.mask a.digits a.basis.now a.least found.result (omega arith) low found.ensures

pub returns : goal.returns
returns c =
    let a = c.args in
    scanning_many a.starts a.v a.mask a.digits a.basis.now a.least a.least (omega arith) (omega arith) (omega arith)
