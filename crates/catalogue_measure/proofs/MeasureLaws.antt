-- Sizes summed in a loop over lawful entries: what is summed and what is left are together the end of the contents, and the length of all bodies.
-- Assumes nothing.
use mathlib.Core.Path.{◌≡◌, sym, ap, ap₂, ◌∙◌}
use mathlib.Core.List.{List}
use Prim.Native.Nat.{ℕ, suc, ◌+◌, ◌*◌, ◌^◌, ◌<◌, ◌≤◌}
use native.Mathlib.Omega.{arith}
use lib.ListN.{length, drop, get_or}
use Rattle.definitions.specs.declared.Selection.{Selection}
use Rattle.definitions.specs.Ranking.{ranked}
use Rattle.definitions.specs.Catalogue.{entry_size, row_size, first_entry}
use Rattle.definitions.specs.Writing.{ranked_file, behind_lists}
use Rattle.catalogue_laws.specs.Files.{bodies_bytes, contents_length, catalogue_length}
use Rattle.writing_laws.specs.RankedFile.{LawfulEntries, no_entry, lists_lawful, file_small}
use Rattle.writing_laws.specs.Turns.{lists, bodies_end, bodies_turn, contents_end_lem, contents_turn}
use Rattle.catalogue_measure.specs.Measure.{measure_of}
use Rattle.catalogue_measure.specs.declared.Measure.{Measure}

-- The entries before k end at the place, and their bodies have so many bytes.
pub record Measured (ls : List Selection) (k contents bodies : ℕ) : Type 0 where
  pub entries : behind_lists (lists (drop k ls)) contents ≡ behind_lists (lists ls) first_entry
  pub sizes : bodies + length (bodies_bytes (lists (drop k ls))) ≡ length (bodies_bytes (lists ls))

module _ (ls : List Selection) (lawful : LawfulEntries 0 ls) where
  all_length : length (ranked_file ls) ≡ behind_lists (lists ls) first_entry + length (bodies_bytes (lists ls))
  unfolding ranked_file
  all_length = catalogue_length (lists ls) (lists_lawful lawful)

  module _ (k contents bodies : ℕ) (m : Measured ls k contents bodies) where
    -- All is summed.
    pub measured_end : length ls ≤ k → ◌≡◌ {A = Measure} (record { contents = contents; length = contents + bodies }) (measure_of ls)
    measured_end h =
        let place : contents ≡ behind_lists (lists ls) first_entry = sym (contents_end_lem ls k h contents) ∙ m.entries in
        let size : contents + bodies ≡ length (ranked_file ls) = omega (arith, m.sizes, bodies_end ls k h, all_length) in
        ap₂ (λ (c n : ℕ). record { contents = c; length = n }) place size

    -- No sum is longer than the file.
    pub sum_fits : contents + bodies < 2 ^ 32
    sum_fits =
        omega (arith, m.entries, m.sizes, contents_length (lists (drop k ls)) 0 contents, all_length, file_small ls lawful)

    pub measured_more : {x : Selection} {a b : ℕ} → k < length ls → x ≡ get_or ls k no_entry → a ≡ entry_size x.degree
        → b ≡ length (ranked x) * row_size x.degree x.top x.gaps → Measured ls (k + 1) (contents + a) (bodies + b)
    measured_more {a = a} {b} inside read entry body =
        let next : k + 1 ≡ suc k = omega arith in
        let a-is : a ≡ entry_size (get_or ls k no_entry).degree = entry ∙ ap (λ (l : Selection). entry_size l.degree) read in
        let b-is : b ≡ length (ranked (get_or ls k no_entry)) * row_size (get_or ls k no_entry).degree (get_or ls k no_entry).top (get_or ls k no_entry).gaps =
        body ∙ ap (λ (l : Selection). length (ranked l) * row_size l.degree l.top l.gaps) read in
        rw next (record {
          entries = rw a-is (sym (contents_turn ls k inside contents) ∙ m.entries);
          sizes = omega (arith, m.sizes, bodies_turn ls lawful k inside, b-is);
        })
