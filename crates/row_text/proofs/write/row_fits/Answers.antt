-- `row_text::write::row_fits` tests that a row's text fits. Assumes nothing.
use mathlib.Core.Path.{sym, ap}
use Prim.Native.Nat.{ℕ, ◌≤◌, ◌<◌}
use native.Mathlib.Omega.{arith}
use lib.Dec.{leb}
use lib.ListN.{length, get_or}
use Rattle.std.proofs.Common.{rules}
use borrow.Author.Tests.{le-leb, lt-leb}
use Rattle.definitions.specs.Listing.{row_text}
use Rattle.decimal_text.specs.Decimal.{decimal_short}
use Rattle.row_text.specs.Rows.{bytes_turn, bytes_end, row_none, row_some}
use Rattle.row_text.proofs.write.row_fits.Goals as goal

pub returns-then-is_empty : goal.returns-then-is_empty
returns-then-is_empty c =
    let a = c.args in ap (λ (n : ℕ). leb n a.room) (sym (row_none a.row.now (search rules)))

pub overflow_add-k : goal.overflow_add-k
overflow_add-k c =
    let i = c.loop-n.n-index in
    let row = c.args.row.now in
    omega (arith, c.digits-k.ensures, decimal_short (get_or row i 0), c.type_inv.row i)

pub returns-then-left-k : goal.returns-then-left-k
returns-then-left-k c =
    let now' = c.loop-n in
    let row = c.args.row.now in
    let whole = row_some row (search rules) in
    let more = bytes_turn row now'.n-index c.loop-n-test.true in
    let short : c.args.room < length (row_text row) = omega (arith, c.digits-k.ensures) in
    sym (lt-leb _ _ short)

pub loop-n-preserved : goal.loop-n-preserved
loop-n-preserved c =
    let now' = c.loop-n in
    omega (arith, c.digits-k.ensures, bytes_turn c.args.row.now now'.n-index c.loop-n-test.true)

pub returns : goal.returns
returns c =
    let row = c.args.row.now in
    let whole = row_some row (search rules) in
    let none = bytes_end row c.loop-n.n-index c.loop-n-test.false in
    let room : length (row_text row) ≤ c.args.room = omega arith in
    sym (le-leb _ _ room)
