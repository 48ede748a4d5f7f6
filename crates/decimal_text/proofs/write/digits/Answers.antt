-- `decimal_text::write::digits` counts the digits of n. Assumes nothing.
use Rattle.std.proofs.Common.{ap, ◌∙◌, length}
use Rattle.decimal_text.specs.Decimal.{printed}
use Rattle.decimal_text.proofs.write.digits.Goals as goal

pub returns : goal.returns
returns c = ap length (c.format.ensures.text ∙ printed c.args.n c.ranges.n.fits)
