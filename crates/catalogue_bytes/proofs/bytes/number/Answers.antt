-- `catalogue_bytes::bytes::number` meets its contract. Assumes nothing.
use Rattle.std.proofs.Common.{◌≡◌, ℕ, ◌+◌, ◌*◌, sym, ap, ap₂, ◌∙◌, arith}
use Rattle.definitions.specs.Catalogue.{byte_at}
use Rattle.catalogue_laws.specs.Form.{number_none, number_more, number_below, number_room}
use Rattle.catalogue_bytes.proofs.bytes.number.Goals as goal
use Rattle.catalogue_bytes.proofs.bytes.number.Goals.{After-byte}

-- The byte of this turn is the one at k.
byte_is : (c : After-byte) → c.byte.result ≡ byte_at c.args.s.now (c.args.at + c.loop-k.k)
byte_is c = c.byte.ensures.0 ∙ ap (byte_at c.args.s.now) (omega arith)

pub loop-k-init : goal.loop-k-init
loop-k-init c = (sym (number_none _ _), omega arith)

pub overflow_mul-n : goal.overflow_mul-n
overflow_mul-n c =
    let l = c.loop-k in
    let room = number_room l.n 0 l.k l.invariant.1 (omega arith) (omega arith) in
    omega arith

pub overflow_add-n : goal.overflow_add-n
overflow_add-n c =
    let l = c.loop-k in
    let room = number_room l.n c.byte.result l.k l.invariant.1 c.byte.ensures.1 (omega arith) in
    omega arith

pub loop-k-preserved : goal.loop-k-preserved
loop-k-preserved c =
    let a = c.args in
    let l = c.loop-k in (
      ap₂ (λ (n b : ℕ). n * 256 + b) l.invariant.0 (byte_is c) ∙ sym (number_more l.k a.s.now a.at),
      number_below l.n c.byte.result l.k l.invariant.1 c.byte.ensures.1,
    )
