-- Digit rows in a table: row i of coordinate j stands at j times the largest degree and i.
-- Assumes nothing.
use Rattle.std.specs.Prelude.{◌≡◌, List, ℕ, ◌+◌, ◌*◌, ◌≤◌, ◌<◌, get_or, length}
use Rattle.definitions.specs.Generator.{largest_degree}
use Rattle.definitions.specs.Ranking.{largest_top}
use Rattle.polynomial.specs.Modulus.{Modulus}
use Rattle.net_laws.specs.Point.{digit_row}
use Rattle.digit_rows.specs.Powers.{Residues}

abbrev pub table_room : ℕ
table_room = largest_top * largest_degree

-- The first m rows of the coordinates 1 to c are those of G.
abbrev pub Rows : (ℕ → ℕ → ℕ) → List ℕ → ℕ → ℕ → Type 0
Rows G xs m c = (j i : ℕ) → 1 ≤ j → j ≤ c → i < m → get_or xs (j * largest_degree + i) 0 ≡ G j i

-- A coordinate behind 0, of rows of a degree that the table has room for.
pub record OneOf (m c : ℕ) : Type 0 where
  pub some : 1 ≤ m
  pub high : m ≤ largest_degree
  pub behind : 1 ≤ c
  pub one_of : c < largest_top

-- The table has the first row of each coordinate before n, and all m of each but coordinate 0, among residues modulo p, whose leading term is `lead`.
pub record Tabled (p q lead m n : ℕ) (xs : List ℕ) : Type 0 where
  pub sized : length xs ≡ table_room
  pub firsts : (j : ℕ) → j < n → get_or xs (j * largest_degree) 0 ≡ digit_row p q j 0
  pub rows : (j i : ℕ) → 1 ≤ j → j < n → i < m → get_or xs (j * largest_degree + i) 0 ≡ digit_row p q j i
  pub residues : Residues lead xs

-- That of coordinate 0 alone, for any pair.
pub record Begun (xs : List ℕ) : Type 0 where
  pub table : {p lead : ℕ} → Modulus p lead → (q m : ℕ) → Tabled p q lead m 1 xs
