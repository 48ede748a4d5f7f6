-- `text::lines::put_long_line` puts two words with their numbers, and an ending. Assumes nothing.
use Rattle.std.proofs.Common.{◌≡◌, ◌∙◌, List, [], ◌++◌, ℕ, append_assoc, append-nil}
use Rattle.definitions.specs.Listing.{decimal}
use Rattle.decimal_text.specs.Decimal.{printed}
use Rattle.text.specs.Lines.{long_line}
use Rattle.text.proofs.lines.put_long_line.Goals as goal

joined : (word : List ℕ) {first : List ℕ} (n : ℕ) (other : List ℕ) {second : List ℕ} (k : ℕ) (ending : List ℕ) → first ≡ decimal n → second ≡ decimal k
    → word ++ (first ++ (other ++ (second ++ (ending ++ [])))) ≡ long_line word n other k ending
joined word n other k ending e f = rw (e, f) (simp (append_assoc, append-nil))

pub returns : goal.returns
returns c =
    let a = c.args in
    let e = joined a.word.now a.n a.other.now a.k a.ending.now (c.as_bytes-first.ensures.value ∙ c.format.ensures.text ∙ printed a.n c.ranges.n.fits)
    (c.as_bytes-second.ensures.value ∙ c.format-2.ensures.text ∙ printed a.k c.ranges.k.fits) in
    record { value = rw e at c.put_texts.ensures.value; out_after = rw e at c.put_texts.ensures.out_after }
