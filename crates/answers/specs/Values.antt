-- The values of an answer one by one, as structs for C have them. Assumes nothing.
use Rattle.std.specs.Prelude.{List, ℕ, get_or}

-- Value i of an answer's values; 0 where there is none.
abbrev pub value : List ℕ → ℕ → ℕ
value values i = get_or values i 0
