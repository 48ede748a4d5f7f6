-- The bytes of an entry, written over a buffer: the degree and T with the kind are stored, the row count is written behind them, and the offset behind that.
-- Assumes nothing.
use mathlib.Core.Path.{◌≡◌, refl, ap, ◌∙◌}
use mathlib.Core.List.{List, [], ◌∷◌, ◌++◌}
use Prim.Native.Nat.{ℕ, ◌+◌, ◌≤◌}
use native.Mathlib.Omega.{arith}
use lib.ListN.{length, set}
use Rattle.definitions.specs.declared.Selection.{Selection}
use Rattle.definitions.specs.Number.{over}
use Rattle.definitions.specs.Catalogue.{count_size, offset_size, entry_size, marked_top}
use Rattle.definitions.specs.Writing.{bytes_of}
use Rattle.slice_laws.specs.Over.{over_one, over_behind, over_then}
use Rattle.catalogue_laws.specs.Sizes.{entry_size_is}
use Rattle.catalogue_laws.specs.Bytes.{bytes_length}
use Rattle.catalogue_fields.specs.Entry.{entry_fields}

module _ (l : Selection) (rows offset at : ℕ) (file : List ℕ) (fits : at + entry_size l.degree ≤ length file)
    {w : ℕ} (sized : w ≡ count_size l.degree) where
  -- The degree, and T with the kind.
  abbrev mark : ℕ
  mark = marked_top l.top l.gaps

  abbrev front : List ℕ
  front = l.degree ∷ mark ∷ []

  pub entry_room : at + 2 + w + offset_size ≤ length file
  entry_room = omega (arith, entry_size_is l.degree)

  front_stored : set (set file at l.degree) (at + 1) mark ≡ over at front file
  front_stored = rw (over_one at l.degree file (omega (arith, entry_room))) (over_behind at (l.degree ∷ []) mark file (omega (arith, entry_room)))

  pub entry_written : {stored : ℕ} {counted exit : List ℕ} → stored ≡ mark
      → counted ≡ over (at + 2) (bytes_of w rows) (set (set file at l.degree) (at + 1) stored)
      → exit ≡ over (at + 2 + w) (bytes_of offset_size offset) counted → exit ≡ over at (entry_fields l rows offset) file
  unfolding entry_fields
  entry_written stored_is e f =
      let count_long = bytes_length w rows in
      let offset-long = bytes_length offset_size offset in
      let first = rw stored_is at e in
      let counted_is = (over_then at front (bytes_of w rows) file (omega (arith, entry_room)) refl front_stored refl first).1 in
      let whole = (over_then at (front ++ bytes_of w rows) (bytes_of offset_size offset) file (omega (arith, entry_room)) (omega arith) counted_is refl f).1 in
      whole ∙ ap (λ (n : ℕ). over at (front ++ bytes_of n rows ++ bytes_of offset_size offset) file) sized
