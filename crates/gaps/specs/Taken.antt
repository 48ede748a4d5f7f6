-- The digit rows that are taken so far, one coordinate after the other, and whether those of one coordinate more are free with them.
-- Assumes nothing.
use Rattle.std.specs.Prelude.{◌≡◌, Bool, true, false, List, ◌++◌, ℕ, suc, ◌+◌, ◌*◌, length}
use Rattle.net_laws.specs.Reduction.{basis}
use Rattle.net_laws.specs.Cell.{Free}
use Rattle.net_laws.specs.Share.{first_rows}
use Rattle.gap_laws.specs.Cubes.{cube_rows}
use Rattle.digit_rows.specs.Basis.{basis_room, newest}

-- The first l rows of the coordinates up to `last`, and i of the next one, are free together, and b begins with their vectors.
pub record Taken (G : ℕ → ℕ → ℕ) (l last i : ℕ) (b : List ℕ) : Type 0 where
  pub sized : length b ≡ basis_room
  pub vectors : newest b (last * l + i) ≡ basis (first_rows (G (suc last)) i ++ cube_rows G l last)
  pub free : Free l (first_rows (G (suc last)) i ++ cube_rows G l last)

-- Whether all rows of the next coordinate are taken: if so, b has them, and if not, they are not free.
pub record Tried (G : ℕ → ℕ → ℕ) (l last : ℕ) (b : List ℕ) (all : Bool) : Type 0 where
  pub taken : all ≡ true → Taken G l (suc last) 0 b
  pub not_free : all ≡ false → Free l (cube_rows G l (suc last)) → ⊥
