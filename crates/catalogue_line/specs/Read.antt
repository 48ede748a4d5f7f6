-- The numbers of a line, read over the front of an array that holds as many as are read at most: they are the array's first numbers, and what is
-- written for the line is what is written for these. Assumes nothing.
use Rattle.std.specs.Prelude.{◌≡◌, refl, List, [], ℕ, suc, ◌*◌, ◌≤◌, ◌<◌, length, take, drop}
use Rattle.std.proofs.Common.{arith, drop_of_length-le, take_at, length-take-le}
use Rattle.definitions.specs.Number.{over}
use Rattle.definitions.specs.Catalogue.{most_entries}
use Rattle.definitions.specs.Listing.{refused_text, unreadable, line_of, words_of}
use Rattle.definitions.specs.Writing.{file_numbers}
use Rattle.slice_laws.specs.Over.{over_front, length_over}
use Rattle.line.specs.Numbers.{numbers_few, numbers_within_lem}
use Rattle.catalogue_line.specs.declared.Output.{Output}
use Rattle.catalogue_line.specs.Written.{Outputs, outputs_none}

-- The floor, and a degree and T for each lawful degree.
abbrev pub most_numbers : ℕ
most_numbers = suc (2 * most_entries)

read_few : (s : List ℕ) → length (file_numbers s) ≤ most_numbers
read_few s = rw (← numbers_within_lem most_numbers s) (numbers_few most_numbers (words_of (line_of s)))

module _ (s out : List ℕ) (long : length out ≡ most_numbers) {n : ℕ} {numbers : List ℕ}
    (count : n ≡ length (file_numbers s)) (stored : numbers ≡ over 0 (file_numbers s) out) where
  pub read_within : n ≤ length numbers
  read_within = rw (stored, length_over 0 (file_numbers s) out (omega (arith, read_few s))) (omega (arith, read_few s))

  pub read_first : take n numbers ≡ file_numbers s
  read_first = rw (count, stored, over_front (file_numbers s) out) (take_at (file_numbers s) (drop (length (file_numbers s)) out) (length (file_numbers s)) refl)

  pub read_some : (n ≡ 0 → ⊥) → 0 < length (take n numbers)
  read_some some = let h : ¬ (n ≡ 0) = some in rw (length-take-le n numbers read_within) (omega arith)

  -- Where none is read.
  pub outputs_unread : n ≡ 0 → (file text : List ℕ) {r : Output} {text' : List ℕ} → r ≡ record { file = 0; text = length (refused_text unreadable) }
      → text' ≡ over 0 (refused_text unreadable) text → Outputs (file_numbers s) file text r file text'
  outputs_unread none file text x z =
      let empty : file_numbers s ≡ [] = drop_of_length-le (file_numbers s) {i = 0} (omega arith) in
      rw empty (outputs_none file text x z)
