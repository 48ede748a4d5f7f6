-- Where a degree's body lies in a catalogue, for C, which gets no part of a slice but a place and numbers.
-- They are those of a lookup, and give the very part that a lookup gives, as both are read off where the body lies. Assumes nothing.
use Rattle.std.specs.Prelude.{◌≡◌, refl, List, ℕ, ◌+◌, ◌*◌, ◌≤◌, length, take, drop, Result, Ok, Err}
use Rattle.std.proofs.Common.{arith}
use Rattle.definitions.specs.Answers.{lookup_values}
use Rattle.definitions.specs.Catalogue.{lookup_numbers, lookup_part}
use Rattle.catalogue_seek.specs.declared.BodyPlace.{BodyPlace}
use Rattle.definitions.specs.declared.Refusal.{Refusal}
use Rattle.catalogue_seek.specs.Seek as seek
use Rattle.answers.specs.Values.{value}
use Rattle.catalogue_results.specs.Results.{body_result}
use Rattle.catalogue_results.specs.declared.FenyurkaBody.{FenyurkaBody}

-- What C is answered: the struct of where the body lies.
abbrev pub located : List ℕ → ℕ → FenyurkaBody
located s m = body_result (seek.locating s m)

-- The refusal, T, the kind and the row count are those of a lookup.
pub record SameLookup (values : List ℕ) (b : FenyurkaBody) : Type 0 where
  pub refusal : b.refusal ≡ value values 0
  pub top : b.top ≡ value values 1
  pub gaps : b.gaps ≡ value values 2
  pub rows : b.rows ≡ value values 3

-- The part of the file that C takes lies within it, is the part that a lookup gives, and has room for the rows.
pub record BodyPart (s part : List ℕ) (b : FenyurkaBody) : Type 0 where
  pub within : b.offset + b.length ≤ length s
  pub same : part ≡ take b.length (drop b.offset s)
  pub whole : b.length ≡ b.rows * b.row_size

module _ (s : List ℕ) (m : ℕ) where
  pub located_values : SameLookup (lookup_values (lookup_numbers s m)) (located s m)
  located_values = rw (← seek.located_numbers s m) (go (seek.locating s m))
    where
      go : (k : Result BodyPlace Refusal) → SameLookup (lookup_values (seek.numbers_of k)) (body_result k)
      go (Ok b) = record { refusal = refl; top = refl; gaps = refl; rows = refl }
      go (Err r) = record { refusal = refl; top = refl; gaps = refl; rows = refl }

  pub located_part : BodyPart s (lookup_part s m) (located s m)
  located_part = rw (← seek.located_part s m) (go (seek.locating s m) refl)
    where
      go : (k : Result BodyPlace Refusal) → seek.locating s m ≡ k → BodyPart s (seek.part_of s k) (body_result k)
      go (Ok b) at =
          let lawful = seek.located_lawful s m b at in
          record { within = lawful.within; same = refl; whole = lawful.size_is }
      go (Err r) at = record { within = omega arith; same = refl; whole = refl }
