-- Of catalogues that are written: when each refusal applies, in the words of document 02, and what is read back. The situations by the entries of
-- the slice; the round trip from `writing_laws/RankedFile`, as entries that are not refused are lawful. Assumes nothing.
use Rattle.std.specs.Prelude.{◌≡◌, ◌↔◌, ◌⊎◌, Bool, true, ltb, take, drop, get_or, replicate, Ok, Err, Some, None}
use Rattle.std.proofs.Common.{sym, ◌∙◌, subst, inl, take_at, drop_at}
use Rattle.std.proofs.Math.Path.{ap}
use Rattle.std.proofs.Math.Logic.{inr}
use Rattle.std.proofs.Math.Bool.{false, not}
use Rattle.std.proofs.lemmas.Bool.{false≢true}
use mathlib.Core.List.{List, [], ◌∷◌, ◌++◌, map, Memᴰ}
use Prim.Native.Nat.{ℕ, zero, suc, ◌+◌, ◌*◌, ◌<◌, ◌≤◌}
use native.Mathlib.Omega.{arith}
use Rattle.std.proofs.Math.ListN.{length, get_or-eq_default}
use Rattle.definitions.specs.Number.{all}
use Rattle.definitions.specs.Generator.{largest_floor, lawful_degree}
use Rattle.definitions.specs.Ranking.{lawful_top, ranked}
use Rattle.definitions.specs.Catalogue.{catalogue_form, top_of, gaps_of, opening, lookup_numbers}
use Rattle.definitions.specs.Writing.{entries_of, ranked_list, ranked_file, lawful_degrees, lawful_tops, ascending, entering, writing, file_answer, file_buffer}
use Rattle.definitions.specs.declared.Selection.{Selection}
use Rattle.definitions.specs.declared.Refusal.TheVariants.{DegreeMissing}
use borrow.Author.Tests.{ltb-true, ltb-false, lt-ltb, le-ltb, leb-false, lt-leb, not-true}
use Rattle.number_laws.specs.Truth.{by_test}
use Rattle.slice_laws.specs.Over.{over_front}
use Rattle.answer_laws.specs.Unless.{none_front}
use Rattle.answer_laws.specs.Lent.{file_given}
use Rattle.catalogue_laws.specs.Rows.{row_of}
use Rattle.writing_laws.specs.Held.{read_by, held_in}
use Rattle.writing_laws.specs.RankedFile.{LawfulEntries, no_entry, entering_lawful, file_form, file_opens, file_held, file_numbers_lem, file_rows, file_missing}
use Rattle.catalogue_entries.specs.Entries.{entry_in, entries_length, entry_is}
use Rattle.demands.specs.Situations.{applies}

-- ---- the situations, in the words of document 02

-- A test that not all elements pass is failed by one of them.
module _ {X : Type 0} (test : X → Bool) (d : X) where
  one_fails : (l : List X) → not (all test l) ≡ true → (k : ℕ) × (k < length l) × (test (get_or l k d) ≡ false)
  unfolding all
  one_fails [] e = absurd (false≢true e)
  one_fails (x ∷ l) e =
      by_test (test x)
      (λ t. let r = one_fails l (rw t at e) in (suc r.0, omega (arith, r.1), r.2))
      (λ f. (zero, omega arith, f))

  fails_all : (l : List X) (k : ℕ) → k < length l → test (get_or l k d) ≡ false → not (all test l) ≡ true
  unfolding all
  fails_all [] k h f = absurd (omega arith)
  fails_all (x ∷ l) zero h f = rw f
  fails_all (x ∷ l) (suc k) h f = by_test (test x) (λ t. rw t (fails_all l k (omega arith) f)) (λ f. rw f)

-- Of degrees that do not ascend one is not above the one before it.
one_falls : (l : List Selection) → not (ascending l) ≡ true → (k : ℕ) × (suc k < length l) × ((get_or l (suc k) no_entry).degree ≤ (get_or l k no_entry).degree)
unfolding ascending
one_falls [] e = absurd (false≢true e)
one_falls (x ∷ []) e = absurd (false≢true e)
one_falls (x ∷ y ∷ l) e =
    by_test (ltb x.degree y.degree)
    (λ t. let r = one_falls (y ∷ l) (rw t at e) in (suc r.0, omega (arith, r.1), r.2))
    (λ f. (zero, omega arith, ltb-false x.degree y.degree f))

falls_not : (l : List Selection) (k : ℕ) → suc k < length l → (get_or l (suc k) no_entry).degree ≤ (get_or l k no_entry).degree → not (ascending l) ≡ true
unfolding ascending
falls_not [] k h f = absurd (omega arith)
falls_not (x ∷ []) k h f = absurd (omega arith)
falls_not (x ∷ y ∷ l) zero h f = rw (le-ltb x.degree y.degree f)
falls_not (x ∷ y ∷ l) (suc k) h f = by_test (ltb x.degree y.degree) (λ t. rw t (falls_not (y ∷ l) k (omega arith) f)) (λ n. rw n)

module _ (floor : ℕ) (e s : List ℕ) where
  -- The degree of the entry at k, and the number behind it: T, or T + 16 where its rows are to have Δ.
  abbrev degree_at : ℕ → ℕ
  degree_at k = get_or e (2 * k) 0

  abbrev mark_at : ℕ → ℕ
  mark_at k = get_or e (2 * k + 1) 0

  within : (k : ℕ) → (k < length (entries_of floor e)) ↔ (2 * k < length e)
  within k = (λ h. omega (arith, entries_length floor e), λ h. omega (arith, entries_length floor e))

  -- 1 applies exactly where a degree is wrong, that of a last entry without T included;
  pub wrong_degree : (applies (writing floor e s) 1 ≡ true) ↔ ((k : ℕ) × (2 * k < length e) × (lawful_degree (degree_at k) ≡ false))
  unfolding writing entering applies lawful_degrees
  wrong_degree = (
    λ a. let r = one_fails (λ (l : Selection). lawful_degree l.degree) no_entry (entries_of floor e) a in
        (r.0, (within r.0).0 r.1, rw (entry_is floor e r.0 r.1) at r.2),
    λ r. let h = (within r.0).1 r.1 in
        fails_all (λ (l : Selection). lawful_degree l.degree) no_entry (entries_of floor e) r.0 h (rw (entry_is floor e r.0 h) r.2),
  )

  -- 2 exactly where a T is missing or wrong;
  pub wrong_top : (applies (writing floor e s) 2 ≡ true) ↔ ((k : ℕ) × (2 * k < length e) × ((length e ≡ 2 * k + 1) ⊎ (lawful_top (top_of (mark_at k)) ≡ false)))
  unfolding writing entering applies lawful_tops
  wrong_top = (
    λ a. let r = one_fails (λ (l : Selection). lawful_top l.top) no_entry (entries_of floor e) a in
        (r.0, (within r.0).0 r.1, inr (rw (entry_is floor e r.0 r.1) at r.2)),
    λ r. let wrong = fails r.0 r.2 in
        let h = (within r.0).1 r.1 in
        fails_all (λ (l : Selection). lawful_top l.top) no_entry (entries_of floor e) r.0 h (rw (entry_is floor e r.0 h) wrong),
  )
    where
      fails : (k : ℕ) → (length e ≡ 2 * k + 1) ⊎ (lawful_top (top_of (mark_at k)) ≡ false) → lawful_top (top_of (mark_at k)) ≡ false
      fails k (inl missing) = rw (get_or-eq_default e 0 {n = 2 * k + 1} (omega arith))
      fails k (inr wrong) = wrong

  -- 12 exactly where the floor is above the largest;
  pub wrong_floor : (applies (writing floor e s) 12 ≡ true) ↔ (largest_floor < floor)
  unfolding writing entering applies
  wrong_floor = (λ a. leb-false floor largest_floor (not-true _ a), λ h. ap not (lt-leb floor largest_floor h))

  -- 13 exactly where a degree is not above the one before it;
  pub not_ascending : (applies (writing floor e s) 13 ≡ true) ↔ ((k : ℕ) × (2 * suc k < length e) × (degree_at (suc k) ≤ degree_at k))
  unfolding writing entering applies
  not_ascending = (
    λ a. let r = one_falls (entries_of floor e) a in
        (r.0, (within (suc r.0)).0 r.1, rw (before r.0 r.1, entry_is floor e (suc r.0) r.1) at r.2),
    λ r. let h = (within (suc r.0)).1 r.1 in
        falls_not (entries_of floor e) r.0 h (rw (before r.0 h, entry_is floor e (suc r.0) h) r.2),
  )
    where
      before : (k : ℕ) → suc k < length (entries_of floor e)
          → entry_in floor e k ≡ record { degree = degree_at k; top = top_of (mark_at k); floor = floor; gaps = gaps_of (mark_at k) }
      before k h = entry_is floor e k (omega (arith, h))

  -- and 14 exactly where the file is longer than the buffer.
  pub too_long_lem : (applies (writing floor e s) 14 ≡ true) ↔ (length s < length (ranked_file (entries_of floor e)))
  unfolding writing entering applies
  too_long_lem = (ltb-true (length s) (length (ranked_file (entries_of floor e))), lt-ltb (length s) (length (ranked_file (entries_of floor e))))

-- ---- the round trip

-- READ BACK: a file is of the form, and by opening, looking up and reading it has, in order, the degrees, T, kinds and ranked rows of the entries, with
-- Δ or without as each entry asks, and no other degree.
pub record ReadsBack (ls : List Selection) (file : List ℕ) : Type 0 where
  pub form : catalogue_form file ≡ true
  pub opens : opening file ≡ Ok (length ls)
  pub holds : held_in file ≡ map ranked_list ls
  pub numbers : (l : Selection) → Memᴰ l ls → lookup_numbers file l.degree ≡ Ok (record { top = l.top; gaps = l.gaps; rows = length (ranked l) })
  pub rows : (l : Selection) → Memᴰ l ls → (n : ℕ)
      → read_by file l.degree (length (ranked l) + n) ≡ map (λ (r : List ℕ). Some (row_of l.top l.gaps r)) (ranked l) ++ replicate n None
  pub no_other : (m : ℕ) → lawful_degree m ≡ true → ((l : Selection) → Memᴰ l ls → l.degree ≡ m → ⊥) → lookup_numbers file m ≡ Err DegreeMissing

reads_back : (ls : List Selection) → LawfulEntries 0 ls → ReadsBack ls (ranked_file ls)
reads_back ls h = record {
  form = file_form ls h;
  opens = file_opens ls h;
  holds = file_held ls h;
  numbers = file_numbers_lem ls h;
  rows = file_rows ls h;
  no_other = file_missing ls h;
}

-- The first n bytes of the buffer are the file, and those behind them are what they were.
pub record WrittenFile (floor : ℕ) (e s : List ℕ) (n : ℕ) (t : List ℕ) : Type 0 where
  pub file : take n t ≡ ranked_file (entries_of floor e)
  pub behind : drop n t ≡ drop n s
  pub back : ReadsBack (entries_of floor e) (take n t)

pub written_file : (floor : ℕ) (e s : List ℕ) (n : ℕ) → file_answer floor e s ≡ Ok n → WrittenFile floor e s n (file_buffer floor e s)
unfolding writing
written_file floor e s n given =
    let file = ranked_file (entries_of floor e) in
    let g = file_given floor e s given in
    let buffer : file_buffer floor e s ≡ file ++ drop (length file) s = g.2 ∙ over_front file s in
    let lawful = entering_lawful floor (entries_of floor e) (none_front (entering floor (entries_of floor e)) _ g.0) in
    let front : take n (file_buffer floor e s) ≡ file = ap (take n) buffer ∙ take_at file (drop (length file) s) n g.1 in
    record {
      file = front;
      behind = ap (drop n) buffer ∙ drop_at file (drop (length file) s) n g.1 ∙ ap (λ (k : ℕ). drop k s) g.1;
      back = subst (ReadsBack (entries_of floor e)) (sym front) (reads_back (entries_of floor e) lawful);
    }
