-- The entries of a slice, by their numbers: there are half as many, rounded up, and the entry at k has the numbers at 2k and 2k + 1. By recursion
-- over the slice, two numbers at a time. Assumes nothing.
use Rattle.std.specs.Prelude.{◌≡◌, length, get_or}
use Rattle.std.proofs.Math.Path.{refl}
use mathlib.Core.List.{List, [], ◌∷◌}
use Prim.Native.Nat.{ℕ, zero, suc, ◌+◌, ◌*◌, ◌/◌, ◌%◌, ◌<◌}
use Rattle.std.proofs.Math.Numerals.{unary_clauses}
use Rattle.std.proofs.Common.{arith}
use Rattle.definitions.specs.declared.Selection.{Selection}
use Rattle.definitions.specs.Catalogue.{top_of, gaps_of}
use Rattle.definitions.specs.Writing.{entries_of}
use Rattle.writing_laws.specs.RankedFile.{no_entry}

-- The entry at k.
abbrev pub entry_in : ℕ → List ℕ → ℕ → Selection
entry_in floor e k = get_or (entries_of floor e) k no_entry

module _ (floor : ℕ) where
  pub entries_length : (e : List ℕ) → length (entries_of floor e) ≡ length e / 2 + length e % 2
  unfolding entries_of
  entries_length [] = refl
  entries_length (m ∷ []) = refl
  entries_length (m ∷ top ∷ e) = omega (arith, entries_length e)

  -- So the degree of an entry is there.
  pub entry_within : (e : List ℕ) (k : ℕ) → k < length (entries_of floor e) → 2 * k < length e
  entry_within e k h = omega (arith, entries_length e, h)

  pub entry_is : (e : List ℕ) (k : ℕ) → k < length (entries_of floor e)
      → let n = get_or e (2 * k + 1) 0 in
      entry_in floor e k ≡ record { degree = get_or e (2 * k) 0; top = top_of n; floor = floor; gaps = gaps_of n }
  unfolding entries_of
  entry_is [] k h = absurd (omega arith)
  entry_is (m ∷ []) zero h = refl
  entry_is (m ∷ []) (suc k) h = absurd (omega arith)
  entry_is (m ∷ n ∷ e) zero h = refl
  entry_is (m ∷ n ∷ e) (suc k) h =
      let rest = entry_is e k (omega arith) in
      simp unary_clauses (simp unary_clauses at rest)
