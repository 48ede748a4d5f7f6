-- `decimal_text::write::write_decimal` writes the digits that std prints. Assumes nothing.
use Rattle.std.proofs.Common.{◌≡◌, ◌∙◌, ap, length, arith}
use Rattle.definitions.specs.Listing.{decimal}
use Rattle.decimal_text.specs.Decimal.{printed}
use Rattle.decimal_text.proofs.write.write_decimal.Goals as goal

pub write_text-requires : goal.write_text-requires
write_text-requires c =
    let text : c.as_bytes.result.now ≡ decimal c.args.n = c.as_bytes.ensures.value ∙ c.format.ensures.text ∙ printed c.args.n c.ranges.n.fits in
    rw text c.requires

pub returns : goal.returns
returns c =
    let text : c.as_bytes.result.now ≡ decimal c.args.n = c.as_bytes.ensures.value ∙ c.format.ensures.text ∙ printed c.args.n c.ranges.n.fits in
    record { value = omega (arith, ap length text, c.write_text.ensures.value); out_after = rw text at c.write_text.ensures.out_after }
