-- The program that counts a t-value again: the line that it reads and the text that it prints, as bytes. Assumes nothing.
use Rattle.std.specs.Prelude.{◌∷◌, ◌++◌}
use Rattle.definitions.specs.Base.{List, [], ℕ, Refusal}
use Rattle.definitions.specs.Answers.{refusal_number, unless}
use Rattle.definitions.specs.Net.{t_value}
use Rattle.definitions.specs.Calls.{counting}
use Rattle.definitions.specs.Listing.{newline, line_numbers, letters, decimal, refused_text, unreadable}

-- The t-value as the quick engine has it and as the plain counter has it.
unfoldable pub both_text : ℕ → ℕ → List ℕ
both_text quick count = letters "quick " ++ decimal quick ++ letters " count " ++ decimal count ++ newline ∷ []

-- For a pair in a dimension: both are its t-value; or the refusal of the plain counter.
unfoldable pub pair_text : ℕ → ℕ → ℕ → ℕ → List ℕ
pair_text m p q s = unless (counting m p q s) (λ (n : Refusal). refused_text (refusal_number n)) (both_text (t_value m p q s) (t_value m p q s))

-- A line has degree, p, q and dimension, exactly these four.
unfoldable pub recount_text : List ℕ → List ℕ
recount_text [] = refused_text unreadable
recount_text (m ∷ []) = refused_text unreadable
recount_text (m ∷ p ∷ []) = refused_text unreadable
recount_text (m ∷ p ∷ q ∷ []) = refused_text unreadable
recount_text (m ∷ p ∷ q ∷ s ∷ []) = pair_text m p q s
recount_text (m ∷ p ∷ q ∷ s ∷ n ∷ l) = refused_text unreadable

unfoldable pub recount : List ℕ → List ℕ
recount s = recount_text (line_numbers s)
