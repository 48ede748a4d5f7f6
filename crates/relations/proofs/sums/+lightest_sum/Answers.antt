-- `sums::lightest_sum` meets its contract: nothing is chosen, or the sums without the mask's leading vector are gone through and then those with it.
-- The mask falls with every call. Assumes nothing.
use Prim.Native.Nat.{ℕ, ◌<◌}
use native.Mathlib.Omega.{arith}
use Rattle.relations.proofs.SumLaws.{rest, rest_less, summed_more, summed_one}
use Rattle.relations.proofs.sums.+lightest_sum.Goals as goal
use Rattle.relations.proofs.sums.+lightest_sum.Goals.{Else-mask-eq0}

less : (t : ℕ) → (c : Else-mask-eq0 t) → rest c.args.mask < c.args.mask
less t c = rest_less c.args.mask (omega arith) (omega arith)

pub returns-then-mask-eq0 : goal.returns-then-mask-eq0
returns-then-mask-eq0 t c =
    let a = c.args in
    summed_one a.starts a.x a.mask a.basis.now a.least c.weight_of.result c.min.result (omega arith) c.weight_of.ensures c.min.ensures

pub lightest_sum-found-requires : goal.lightest_sum-found-requires
lightest_sum-found-requires t c = (omega (arith, less t c), c.requires)

pub lightest_sum-requires : goal.lightest_sum-requires
lightest_sum-requires t c = (omega (arith, less t (goal.at.lightest_sum-requires t c).Else-mask-eq0), c.requires)

pub returns : goal.returns
returns t c =
    let a = c.args in
    summed_more a.mask (omega arith) (omega arith) a.starts a.x a.basis.now a.least c.lightest_sum-found.result
    c.lightest_sum.result c.lightest_sum-found.ensures c.lightest_sum.ensures
