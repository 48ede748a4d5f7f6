-- The line below a page is a line of words and numbers. Assumes nothing.
use Rattle.std.specs.Prelude.{◌≡◌, Bool, cond, List, [], ◌∷◌, ◌++◌, ℕ}
use Rattle.std.proofs.Common.{append_assoc}
use Rattle.definitions.specs.Listing.{decimal, newline, page_text, letters}
use Rattle.text.specs.Lines.{long_line}

-- The line of a page with its ending, which has at most six letters.
abbrev pub most_ending : ℕ
most_ending = 6

abbrev pub page_line : ℕ → ℕ → List ℕ → List ℕ
page_line number rows ending = long_line (letters "page ") number (letters " rows ") rows ending

pub page_line_lem : (number rows : ℕ) (further : Bool)
    → page_text number rows further ≡ page_line number rows (cond further (letters " more") (letters " end") ++ newline ∷ [])
unfolding page_text
page_line_lem number rows further =
    append_assoc (letters "page " ++ decimal number ++ letters " rows " ++ decimal rows) (cond further (letters " more") (letters " end")) (newline ∷ [])
