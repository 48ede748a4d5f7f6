-- The line of both t-values by its parts. Assumes nothing.
use Rattle.std.specs.Prelude.{◌≡◌, refl, [], ◌∷◌, ℕ}
use Rattle.definitions.specs.Listing.{newline, letters}
use Rattle.definitions.specs.Recount.{both_text}
use Rattle.text.specs.Lines.{long_line}

pub both_line : (quick count : ℕ) → both_text quick count ≡ long_line (letters "quick ") quick (letters " count ") count (newline ∷ [])
unfolding both_text
both_line quick count = refl
