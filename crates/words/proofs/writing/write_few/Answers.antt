-- `words::writing::write_few` meets its contract. Assumes nothing.
use native.Mathlib.Omega.{arith}
use Rattle.words.proofs.WritingLaws.{writing_start, writing_more, writing_done}
use Rattle.words.proofs.writing.write_few.Goals as goal

pub loop-word-init : goal.loop-word-init
loop-word-init c = (writing_start c.state_at-y.ensures.0, c.state_at-y.ensures.1)

pub loop-word-preserved : goal.loop-word-preserved
loop-word-preserved c =
    let is = c.modulo-residues.ensures in
    let next = c.product-y.ensures in (
      writing_more c.loop-word.invariant.0 (omega arith) c.word_of.ensures (rw is.0 at next.0),
      rw is.1 at next.1,
    )

pub returns : goal.returns
returns c = writing_done c.loop-word.invariant.0 (omega arith)
