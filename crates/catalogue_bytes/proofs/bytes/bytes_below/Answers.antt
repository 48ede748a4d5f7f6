-- `catalogue_bytes::bytes::bytes_below` meets its contract: one byte that fails decides. Assumes nothing.
use Rattle.std.proofs.Common.{sym, ℕ, ◌+◌, ltb, arith}
use borrow.Author.Tests.{lt-ltb, le-ltb}
use Rattle.definitions.specs.Catalogue.{byte_at}
use Rattle.number_laws.specs.Every.{every_more, every_none, every_fails}
use Rattle.catalogue_bytes.proofs.bytes.bytes_below.Goals as goal

pub loop-k-init : goal.loop-k-init
loop-k-init c = every_none 0 _ (omega arith)

pub returns-then-byte-bound : goal.returns-then-byte-bound
returns-then-byte-bound c =
    let a = c.args in
    let k = c.loop-k.k in
    sym (every_fails a.n (λ (i : ℕ). ltb (byte_at a.s.now (a.at + i)) a.bound) k (omega arith) (le-ltb (byte_at a.s.now (a.at + k)) _ (omega (arith, c.byte.ensures.0))))

pub loop-k-preserved : goal.loop-k-preserved
loop-k-preserved c =
    let a = c.args in
    let k = c.loop-k.k in
    every_more k (λ (i : ℕ). ltb (byte_at a.s.now (a.at + i)) a.bound) c.loop-k.invariant (lt-ltb (byte_at a.s.now (a.at + k)) _ (omega (arith, c.byte.ensures.0)))
