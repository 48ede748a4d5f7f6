-- `decimal_text::write::write_text` writes a text over what stood at the place. Assumes nothing.
use Rattle.std.proofs.Common.{◌≡◌, sym, append_assoc, List, ℕ, ◌+◌, ◌-◌, length, take, drop, drop-drop, arith}
use Rattle.definitions.specs.Number.{over}
use Rattle.slice_laws.specs.Over.{over_def}
use borrow.Rule.Slice.PartMut.{put_mid}
use Rattle.decimal_text.proofs.write.write_text.Goals as goal

copied : (at : ℕ) (text out : List ℕ) → put_mid at (at + length text - at) out text ≡ over at text out
copied at text out =
    let k : at + length text - at ≡ length text = omega arith in
    rw (k, over_def at text out, drop-drop (length text) at out) (sym (append_assoc (take at out) text (drop (at + length text) out)))

pub returns-clause-out_after : goal.returns-clause-out_after
returns-clause-out_after c =
    let a = c.args in
    rw c.copy_from_slice.ensures.after (copied a.at a.text.now a.out.now)
