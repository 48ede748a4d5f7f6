-- `sum::resolution_gaps` meets its contract: before each turn `gaps` is the sum of the gaps of fewer digits; each such sum fits a byte.
-- Assumes nothing.
use mathlib.Core.Path.{◌≡◌, refl, sym, ◌∙◌}
use Prim.Native.Nat.{◌+◌, ◌-◌, ◌/◌}
use native.Mathlib.Nat.{add-sub_cancel}
use native.Mathlib.Omega.{arith}
use Rattle.definitions.specs.Number.{sum}
use Rattle.gap_laws.specs.Resolution.{dimension_gap, dimensions_most, gaps_by_half, gaps_so_far, gaps_fit_byte}
use Rattle.gaps.proofs.TakenLaws.{gap_more}
use Rattle.gaps.proofs.sum.resolution_gaps.Goals as goal
use Rattle.gaps.proofs.sum.resolution_gaps.Goals.{After-dimensions}

sum_is : (c : After-dimensions)
    → let a = c.args in
    let l = c.loop-digits in
    l.gaps + (a.degree / l.digits - c.dimensions.result) ≡ sum l.digits (dimension_gap a.degree a.p a.q)
sum_is c =
    let l = c.loop-digits in
    gap_more _ _ _ l.digits l.gaps c.dimensions.result (omega arith) l.invariant c.dimensions.ensures

-- ---- the goals
pub loop-digits-init : goal.loop-digits-init
unfolding sum
loop-digits-init c = refl

pub overflow_sub-gaps : goal.overflow_sub-gaps
overflow_sub-gaps c =
    let a = c.args in
    omega (arith, dimensions_most a.degree a.p c.requires.well_formed.degree_p a.q c.loop-digits.digits (omega arith), c.dimensions.ensures)

pub overflow_add-gaps : goal.overflow_add-gaps
overflow_add-gaps c =
    let a = c.args in
    let pre = c.requires in
    omega (
      arith,
      sum_is c,
      gaps_so_far a.degree a.p pre.well_formed.degree_p a.q c.loop-digits.digits (omega arith),
      gaps_fit_byte a.degree a.p a.q (omega (arith, pre.lawful_degree.high)),
    )

pub loop-digits-preserved : goal.loop-digits-preserved
loop-digits-preserved c = rw add-sub_cancel (sum_is (goal.at.loop-digits-preserved c).After-dimensions)

pub returns-2 : goal.returns-2
returns-2 c =
    let a = c.args in
    let all : c.loop-digits.digits ≡ a.degree / 2 = omega arith in
    sum_is (goal.at.returns-2 c).After-dimensions ∙ rw all (sym (gaps_by_half a.degree a.p c.requires.well_formed.degree_p a.q))
