-- `listing_rows::taking::take_rows` lends the cursor the part of the slice that so many rows fill. Assumes nothing.
use mathlib.Core.Path.{◌≡◌, sym, ap, refl}
use Prim.Native.Nat.{ℕ, ◌*◌, ◌≤◌}
use native.Mathlib.Nat.{mul-le-mul_right}
use native.Mathlib.Omega.{arith}
use lib.Seq.{length-take-le}
use Rattle.definitions.specs.Ranking.{row_width}
use Rattle.listing_rows.proofs.TakeRows.{handed_within}
use Rattle.listing_rows.proofs.taking.take_rows.Goals as goal

pub slice_bounds-next-end-2 : goal.slice_bounds-next-end-2
slice_bounds-next-end-2 c =
    let a = c.args in sym (length-take-le (a.most * a.width) a.rows.now c.requires.width_in_bounds)

pub next-requires : goal.next-requires
next-requires c =
    let a = c.args in
    let one : 1 * a.width ≤ a.most * a.width = mul-le-mul_right a.width c.requires.le_most in
    let wide : a.width ≡ row_width a.from.list = c.requires.width_value in
    (c.requires.on_list, rw (length-take-le (a.most * a.width) a.rows.now c.requires.width_in_bounds) (omega arith))

pub returns : goal.returns
returns c =
    let a = c.args in
    let place : a.most * a.width ≡ a.most * row_width a.from.list = ap (λ (w : ℕ). a.most * w) c.requires.width_value in
    handed_within a.from a.most c.requires.on_list place (omega (arith, c.requires.width_in_bounds)) c.next.ensures refl
