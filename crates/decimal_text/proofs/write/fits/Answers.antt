-- `decimal_text::write::fits` tests that n bytes fit behind a place. Assumes nothing.
use mathlib.Core.Path.{◌∙◌, sym}
use Prim.Native.Nat.{◌+◌, ◌<◌}
use native.Mathlib.Omega.{arith}
use borrow.Author.Tests.{lt-leb}
use lib.ListN.{length}
use Rattle.slice_laws.proofs.Placing.{room_test}
use Rattle.decimal_text.proofs.write.fits.Goals as goal

pub returns-then-at-out : goal.returns-then-at-out
returns-then-at-out c = room_test c.args.at c.args.n (length c.args.out.now) c.if-at-out.true

pub returns-else-at-out : goal.returns-else-at-out
returns-else-at-out c =
    let a = c.args in
    let short : length a.out.now < a.at + a.n = omega arith in
    lt-leb _ _ c.if-at-out.false ∙ sym (lt-leb _ _ short)
