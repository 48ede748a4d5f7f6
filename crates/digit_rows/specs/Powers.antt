-- The powers of q modulo p in an array, each the first digit row of its coordinate.
-- Assumes nothing.
use Rattle.std.specs.Prelude.{◌≡◌, List, ℕ, ◌<◌, get_or}
use Rattle.net_laws.specs.Point.{digit_row}

abbrev pub Residues : ℕ → List ℕ → Type 0
Residues lead xs = (i : ℕ) → get_or xs i 0 < lead

-- The first n powers of q modulo p, each the first digit row of its coordinate.
abbrev pub FirstPowers : ℕ → ℕ → ℕ → List ℕ → Type 0
FirstPowers q p n xs = (i : ℕ) → i < n → get_or xs i 0 ≡ digit_row p q i 0

-- The first n powers of q modulo p, whose leading term is `lead`, among residues.
pub record PowersOf (q p lead n : ℕ) (xs : List ℕ) : Type 0 where
  pub powers : FirstPowers q p n xs
  pub residues : Residues lead xs
