-- A part made of its text and of what is left behind it; a part that is one line. Assumes nothing.
use mathlib.Core.Path.{◌≡◌, sym}
use mathlib.Core.List.{List, []}
use Prim.Native.Nat.{ℕ}
use lib.ListN.{length}
use Rattle.definitions.specs.Number.{over}
use Rattle.slice_laws.specs.Over.{over_nothing}
use Rattle.listing_start.specs.declared.Printing.{Printing}
use Rattle.listing_parts.specs.Parts.{part_rows, part_text, behind_part, goes_on, next_part, rows_that_fit, part_at, rows_after, text_after}
use Rattle.listing_parts.specs.declared.parts.Part.{Part}

pub part_is : (k : ℕ) (at : Printing) {bytes : ℕ} {next : Printing} → bytes ≡ length (part_text k at) → next ≡ behind_part k at
    → ◌≡◌ {A = Part} (record { bytes = bytes; more = goes_on next; next = next }) (next_part k at)
part_is k at e f = λ i. record { bytes = e i; more = goes_on (f i); next = f i }

-- A part that is one line, or nothing: the slice of numbers stays.
module _ (at : Printing) (s text : List ℕ) where
  pub line_part : {bytes : ℕ} {next : Printing} {exit : List ℕ} → part_rows (rows_that_fit at s text) at ≡ [] → bytes ≡ length (part_text (rows_that_fit at s text) at)
      → next ≡ behind_part (rows_that_fit at s text) at → exit ≡ over 0 (part_text (rows_that_fit at s text) at) text
      → (◌≡◌ {A = Part} (record { bytes = bytes; more = goes_on next; next = next }) (part_at at s text))
      × ((s ≡ rows_after at s text) × (exit ≡ text_after at s text))
  line_part none e f put = (part_is (rows_that_fit at s text) at e f, (rw none (sym (over_nothing 0 s)), put))
