-- Each line of the listing round its pages is a line of words and numbers; how long the line of a refusal is. Assumes nothing.
use Rattle.std.specs.Prelude.{◌≡◌, refl, [], ◌∷◌, ℕ, ◌+◌, ◌^◌, ◌≤◌, ◌<◌, length}
use Rattle.std.proofs.Common.{ap, ◌∙◌, arith}
use Rattle.definitions.specs.Number.{numbers}
use Rattle.definitions.specs.Listing.{newline, decimal, header_text, total_text, refused_text, letters}
use Rattle.decimal_text.specs.Decimal.{ten_digits}
use Rattle.text.specs.Lines.{short_line, long_line, line_length}

pub header_line : (m top : ℕ) → header_text m top ≡ long_line (letters "degree ") m (letters " top ") top (newline ∷ [])
unfolding header_text
header_line m top = refl

pub total_line : (rows : ℕ) → total_text rows ≡ short_line (letters "total ") rows
unfolding total_text
total_line rows = refl

pub refused_line : (number : ℕ) → refused_text number ≡ short_line (letters "refused ") number
unfolding refused_text
refused_line number = refl

pub refused_length : (number : ℕ) → length (refused_text number) ≡ 8 + length (decimal number) + 1
unfolding numbers
refused_length number = ap length (refused_line number) ∙ line_length (letters "refused ") number

-- The most bytes of the line of a refusal, whose number has at most ten digits.
abbrev pub refused_room : ℕ
refused_room = 19

pub refused_short : (number : ℕ) → number < 2 ^ 32 → length (refused_text number) ≤ refused_room
refused_short number h = omega (arith, refused_length number, ten_digits number h)
