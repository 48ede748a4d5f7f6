-- Catalogues that are made of lawful lists, for a reader of the old form: it refuses those of which a list has Δ, and the others are of its form.
-- For entry j of such a file has the kind of list j. Assumes nothing.
use Rattle.std.specs.Prelude.{◌≡◌, true, false, List, ◌∷◌, ℕ, zero, suc, ◌+◌, ◌<◌, length}
use Rattle.std.proofs.Common.{ap, ◌∙◌, arith}
use Rattle.definitions.specs.Catalogue.{Entry, entry_at, entry_size, first_entry, behind_entries}
use Rattle.definitions.specs.Writing.{Listed, body_bytes, behind_lists, catalogue_bytes}
use Rattle.catalogue_laws.specs.Missing.{entry_number}
use Rattle.catalogue_laws.specs.Files.{LawfulLists, none, more, Laid, laid_rest, laid_entry_is, laid_behind, catalogue_laid, catalogue_count}
use Rattle.catalogue_laws.specs.Files.{catalogue_written}
use Rattle.catalogue_laws.specs.RoundTrip.{list_at}
use Rattle.catalogue_laws.specs.OldForm.{old_catalogue_form, NoGaps, HasGaps, entry_has, old_form}

laid_gaps : (s : List ℕ) {last : ℕ} {ls : List Listed} (i at : ℕ) → LawfulLists last ls → Laid s ls i at → (j : ℕ) → j < length ls
    → (entry_at s (behind_entries s j i)).gaps ≡ (list_at ls j).gaps
unfolding behind_entries
laid_gaps s i at none p j l = absurd (omega arith)
laid_gaps s {ls = x ∷ ls} i at (more a h f) p zero l = ap (λ (e : Entry). e.gaps) (laid_entry_is s x ls i at h p)
laid_gaps s {ls = x ∷ ls} i at (more a h f) p (suc j) l =
    ap (λ (k : ℕ). (entry_at s (behind_entries s j k)).gaps) (laid_behind s x ls i at h p)
    ∙ laid_gaps s (i + entry_size x.degree) (at + length (body_bytes x)) f (laid_rest s x ls i at p) j (omega arith)

module _ (ls : List Listed) (h : LawfulLists 0 ls) where
  abbrev file : List ℕ
  file = catalogue_bytes ls

  written_gaps : (j : ℕ) → j < length ls → (entry_number file j).gaps ≡ (list_at ls j).gaps
  written_gaps = laid_gaps file first_entry (behind_lists ls first_entry) h (catalogue_laid ls h)

  -- A list with Δ makes the file one that an old reader refuses,
  pub written_new : (j : ℕ) → j < length ls → (list_at ls j).gaps ≡ true → HasGaps file
  written_new j l e = entry_has file j (omega (arith, catalogue_count ls h)) (written_gaps j l ∙ e)

  -- and without one it is of the old form.
  pub written_old : ((j : ℕ) → j < length ls → (list_at ls j).gaps ≡ false) → old_catalogue_form file ≡ true
  written_old plain = (old_form file).1 (catalogue_written ls h, no_gaps)
    where
      no_gaps : NoGaps file
      no_gaps k l = let listed : k < length ls = omega (arith, catalogue_count ls h) in written_gaps k listed ∙ plain k listed
