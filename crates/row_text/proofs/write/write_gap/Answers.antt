-- `row_text::write::write_gap` writes a space before every number but the first. Assumes nothing.
use mathlib.Core.Path.{◌≡◌, refl, sym, ap}
use native.Mathlib.Nat.{add-zero}
use native.Mathlib.Omega.{arith}
use lib.ListN.{length}
use Rattle.definitions.specs.Listing.{space}
use Rattle.slice_laws.specs.Over.{over_one, over_nothing}
use Rattle.row_text.specs.Rows.{gap_first, gap_other}
use Rattle.row_text.proofs.write.write_gap.Goals as goal

pub returns-then-i-eq0 : goal.returns-then-i-eq0
returns-then-i-eq0 c =
    let a = c.args in
    let first : a.i ≡ 0 = omega arith in
    record { value = rw (gap_first first) (sym (add-zero a.at)); out_after = rw (gap_first first) (sym (over_nothing a.at a.out.now)) }

pub bounds-out-at : goal.bounds-out-at
bounds-out-at c = omega (arith, ap length (gap_other c.args.i c.if-i-eq0.false))

pub returns : goal.returns
returns c =
    let a = c.args in
    let gap = gap_other a.i c.if-i-eq0.false in
    record { value = rw gap (refl); out_after = rw gap (over_one a.at space a.out.now (omega (arith, ap length gap))) }
