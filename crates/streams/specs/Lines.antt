-- What is taken from a reader whose bytes are known. Assumes nothing.
use Rattle.std.specs.Prelude.{◌≡◌, ◌≢◌, ◌⊎◌, ℕ, List, [], ◌∷◌, ◌++◌, length, decimal, All, Option, None, Some}
use Rattle.std.specs.Io.KnownBytes.{Consumes, IsAtEnd}

-- The first byte that was left, or that none was.
abbrev pub IsNext : Option (List ℕ) → Option (List ℕ) → Option ℕ → Type 0
IsNext old new (Some b) = Consumes old new (b ∷ [])
IsNext old new None = Consumes old new [] × IsAtEnd new

-- Bytes without a newline are taken: a line, with its newline and nothing behind it; or all that was left; or as much as there is room for.
abbrev pub TakesLine : Option (List ℕ) → Option (List ℕ) → List ℕ → ℕ → Type 0
TakesLine old new line room =
    All (λ b. b ≢ 10) line
    × (Consumes old new (line ++ 10 ∷ []) ⊎ Consumes old new line × IsAtEnd new ⊎ Consumes old new line × (length line ≡ room))

-- A number behind a space.
abbrev pub spaced : ℕ → List ℕ
spaced n = 32 ∷ decimal n
