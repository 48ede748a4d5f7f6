-- `text::lines::put_texts` has written the texts before the index. Assumes nothing.
use Rattle.std.proofs.Common.{◌≡◌, ◌+◌, length, take, flat_map}
use Rattle.definitions.specs.Number.{over}
use Rattle.text.proofs.lines.put_texts.Given as goal

abbrev pub invariant-loop-text : goal.invariant-loop-text
invariant-loop-text l = record {
  length_so_far : l.end ≡ l.at + length (flat_map (λ text. text.now) (take l.text-index l.texts));
  written : l.out ≡ over l.at (flat_map (λ text. text.now) (take l.text-index l.texts)) l.initial.out;
}
