-- The bytes of an entry, by its numbers: those of a list's entry are given by the list's degree, T, kind and row count. Assumes nothing.
use Rattle.std.specs.Prelude.{◌≡◌, refl, List, ◌∷◌, ◌++◌, ℕ, length}
use Rattle.definitions.specs.declared.Selection.{Selection}
use Rattle.definitions.specs.Ranking.{ranked}
use Rattle.definitions.specs.Catalogue.{count_size, offset_size, marked_top}
use Rattle.definitions.specs.Writing.{bytes_of, entry_bytes, ranked_list}

unfoldable pub entry_fields : Selection → ℕ → ℕ → List ℕ
entry_fields l rows offset = l.degree ∷ marked_top l.top l.gaps ∷ bytes_of (count_size l.degree) rows ++ bytes_of offset_size offset

pub entry_fields_lem : (l : Selection) (offset : ℕ) → entry_fields l (length (ranked l)) offset ≡ entry_bytes (ranked_list l) offset
unfolding entry_fields entry_bytes ranked_list
entry_fields_lem l offset = refl
