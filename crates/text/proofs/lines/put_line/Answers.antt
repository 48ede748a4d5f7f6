-- `text::lines::put_line` puts a word, a number and a newline. Assumes nothing.
use Rattle.std.proofs.Common.{◌≡◌, sym, ◌∙◌, List, [], ◌∷◌, ◌++◌, ℕ, append_assoc}
use Rattle.definitions.specs.Listing.{decimal, newline}
use Rattle.decimal_text.specs.Decimal.{printed}
use Rattle.text.specs.Lines.{short_line}
use Rattle.text.proofs.lines.put_line.Goals as goal

joined : (word : List ℕ) {number : List ℕ} (n : ℕ) → number ≡ decimal n → word ++ (number ++ (newline ∷ [])) ≡ short_line word n
joined word n e = rw e (sym (append_assoc word (decimal n) (newline ∷ [])))

pub returns : goal.returns
returns c =
    let a = c.args in
    let e = joined a.word.now a.n (c.as_bytes-number.ensures.value ∙ c.format.ensures.text ∙ printed a.n c.ranges.n.fits) in
    record { value = rw e at c.put_texts.ensures.value; out_after = rw e at c.put_texts.ensures.out_after }
