-- `catalogue_line::refuse` puts the line of a refusal at the front of a buffer that it fits. Assumes nothing.
use mathlib.Core.Path.{ap}
use native.Mathlib.Omega.{arith}
use Prim.Native.Nat.{ℕ}
use Rattle.definitions.specs.Listing.{refused_text}
use Rattle.slice_laws.proofs.Placing.{put_front}
use Rattle.list_lines.specs.Texts.{refused_short}
use Rattle.catalogue_line.proofs.refuse.Goals as goal

pub returns : goal.returns
returns c =
    let number = c.args.number in
    let line = put_front (refused_text number) c.args.text.now (omega (arith, refused_short number (omega (arith, c.ranges.number)), c.requires))
    c.put_refused-bytes.ensures.value c.put_refused-bytes.ensures.out_after in
    record { value = ap (λ (n : ℕ). record { file = 0; text = n }) line.0; text_after = line.1 }
