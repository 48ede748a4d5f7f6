-- `rank::write_delta` writes Δ behind t(T); where the list has none the row ends there. Assumes nothing.
use native.Mathlib.Omega.{arith}
use Rattle.search.proofs.RowLaws.{valued_whole, delta_written}
use Rattle.search.proofs.rank.write_delta.Goals as goal

pub resolution_gaps-requires : goal.resolution_gaps-requires
resolution_gaps-requires c = record { lawful_degree = c.requires.lawful_list.degree; well_formed = c.requires.well_formed }

pub bounds-row-values_end : goal.bounds-row-values_end
bounds-row-values_end c = omega (arith, c.values_end.ensures, c.requires.valued.sized, c.requires.lawful_list.top.high)

pub returns-then-list : goal.returns-then-list
returns-then-list c =
    let a = c.args in
    rw c.values_end.ensures
    (delta_written a.list a.p a.q c.requires.lawful_list c.requires.valued c.if-list.true c.resolution_gaps.ensures)

pub returns-else-list : goal.returns-else-list
returns-else-list c =
    let a = c.args in
    valued_whole a.list a.p a.q c.requires.lawful_list c.requires.valued c.if-list.false
