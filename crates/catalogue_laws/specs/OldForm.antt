-- The form of a catalogue as it was before rows could have Δ, word for word; sizes of numbers, places of entries and the form of a row did not change
-- and are cited. A file is of that form exactly where it is of the form of today and no entry of it has Δ. For an entry stored T itself: a number
-- below the mark is read as T by both, and a number from the mark on is no lawful T.
-- Assumes nothing.
use Rattle.std.specs.Prelude.{◌≡◌, refl, ◌↔◌, Bool, true, ◌&&◌, List, ℕ, zero, suc, ◌+◌, ◌-◌, ◌*◌, ◌<◌, ◌≤◌, eqb, ltb, length}
use Rattle.std.proofs.Common.{sym, ap, ap₂, ◌∙◌, arith}
use Rattle.std.proofs.Math.Bool.{false, and-false}
use Rattle.std.proofs.Math.Dec.{leb}
use borrow.Author.Tests.{leb-true, lt-leb}
use Rattle.definitions.specs.Number.{every}
use Rattle.definitions.specs.Generator.{lawful_degree}
use Rattle.definitions.specs.Ranking.{least_top, largest_top, lawful_top}
use Rattle.definitions.specs.Catalogue.{byte_at, number_at, count_size, offset_size, numbers_size, row_size, gaps_mark, gaps_of, most_entries, first_entry}
use Rattle.definitions.specs.Catalogue.{Entry, entry_at, behind_entry, behind_entries, contents_end, body_size, row_form, entry_form, entries_form, catalogue_form}
use Rattle.number_laws.specs.Truth.{truth_false, not_both}
use Rattle.catalogue_laws.specs.Kinds.{gaps_marked}
use Rattle.catalogue_laws.specs.Missing.{entry_number}

-- ---- the old form

-- A row: p without its leading term, q and σ, then t(3) .. t(T) in one byte each.
unfoldable pub old_row_size : ℕ → ℕ → ℕ
old_row_size m top = numbers_size m + (suc top - least_top)

pub record OldEntry : Type 0 where
  pub degree : ℕ
  pub top : ℕ
  pub rows : ℕ
  pub offset : ℕ

unfoldable pub old_entry_at : List ℕ → ℕ → OldEntry
old_entry_at s i =
    let m : ℕ = byte_at s i in
    record { degree = m; top = byte_at s (i + 1); rows = number_at (count_size m) s (i + 2); offset = number_at offset_size s (i + 2 + count_size m) }

abbrev pub old_body_size : OldEntry → ℕ
old_body_size e = e.rows * old_row_size e.degree e.top

unfoldable pub old_entry_form : List ℕ → OldEntry → ℕ → ℕ → Bool
old_entry_form s e last at =
    lawful_degree e.degree
    && (ltb last e.degree
    && (lawful_top e.top
    && (eqb e.offset at
    && (leb (at + old_body_size e) (length s) && every e.rows (λ (k : ℕ). row_form e.degree e.top s (at + k * old_row_size e.degree e.top))))))

unfoldable pub old_entries_form : List ℕ → ℕ → ℕ → ℕ → ℕ → Bool
old_entries_form s zero i last at = eqb at (length s)
old_entries_form s (suc k) i last at =
    old_entry_form s (old_entry_at s i) last at && old_entries_form s k (behind_entry s i) (old_entry_at s i).degree (at + old_body_size (old_entry_at s i))

unfoldable pub old_catalogue_form : List ℕ → Bool
old_catalogue_form s =
    leb 1 (length s)
    && (leb (byte_at s 0) most_entries
    && (leb (contents_end s) (length s) && old_entries_form s (byte_at s 0) first_entry 0 (contents_end s)))

-- ---- one entry

-- An old entry as one of today, whose rows have no Δ.
abbrev pub now_entry : OldEntry → Entry
now_entry e = record { degree = e.degree; top = e.top; gaps = false; rows = e.rows; offset = e.offset }

pub old_row_size_lem : (m top : ℕ) → row_size m top false ≡ old_row_size m top
unfolding row_size old_row_size
old_row_size_lem m top = omega arith

old_entry_form_lem : (s : List ℕ) (e : OldEntry) (last at : ℕ) → entry_form s (now_entry e) last at ≡ old_entry_form s e last at
unfolding entry_form old_entry_form
old_entry_form_lem s e last at = rw (old_row_size_lem e.degree e.top)

-- Whether an entry's rows have Δ is said by the number that it stores.
pub entry_gaps : (s : List ℕ) (i : ℕ) → (entry_at s i).gaps ≡ gaps_of (byte_at s (i + 1))
unfolding entry_at
entry_gaps s i = refl

pub entry_marked : (s : List ℕ) (i : ℕ) → gaps_mark ≤ byte_at s (i + 1) → (entry_at s i).gaps ≡ true
entry_marked s i h = entry_gaps s i ∙ gaps_marked (byte_at s (i + 1)) h

module _ (s : List ℕ) (i : ℕ) where
  -- Without Δ it is the old one,
  pub plain_entry : (entry_at s i).gaps ≡ false → entry_at s i ≡ now_entry (old_entry_at s i)
  unfolding entry_at old_entry_at
  plain_entry e = let f : gaps_of (byte_at s (i + 1)) ≡ false = e in rw f

  -- and with Δ it fails the old form.
  marked_fails : (entry_at s i).gaps ≡ true → (last at : ℕ) → old_entry_form s (old_entry_at s i) last at ≡ false
  unfolding old_entry_form old_entry_at
  marked_fails e last at =
      let n = byte_at s (i + 1) in
      let h : gaps_mark ≤ n = leb-true gaps_mark n (sym (entry_gaps s i) ∙ e) in
      let tall : leb n largest_top ≡ false = lt-leb n largest_top (omega arith) in
      rw (tall, and-false (leb least_top n), and-false (ltb last (byte_at s i)), and-false (lawful_degree (byte_at s i)))

-- ---- the entries from place i on

old_entries : (s : List ℕ) (k i last at : ℕ) → ((j : ℕ) → j < k → (entry_at s (behind_entries s j i)).gaps ≡ false)
    → entries_form s k i last at ≡ old_entries_form s k i last at
unfolding entries_form old_entries_form behind_entries
old_entries s zero i last at h = refl
old_entries s (suc k) i last at h =
    let e = plain_entry s i (h 0 (omega arith)) in
    let size : body_size (entry_at s i) ≡ old_body_size (old_entry_at s i) =
    ap body_size e ∙ ap (λ (n : ℕ). (old_entry_at s i).rows * n) (old_row_size_lem (old_entry_at s i).degree (old_entry_at s i).top) in
    let first : entry_form s (entry_at s i) last at ≡ old_entry_form s (old_entry_at s i) last at =
    ap (λ (x : Entry). entry_form s x last at) e ∙ old_entry_form_lem s (old_entry_at s i) last at in
    let degree : (entry_at s i).degree ≡ (old_entry_at s i).degree = ap (λ (x : Entry). x.degree) e in
    ap₂ ◌&&◌ first
    (ap₂ (λ (d a : ℕ). entries_form s k (behind_entry s i) d a) degree (ap (λ (n : ℕ). at + n) size)
    ∙ old_entries s k (behind_entry s i) _ _ (λ j l. h (suc j) (omega arith)))

marked_entries : (s : List ℕ) (k i last at j : ℕ) → j < k → (entry_at s (behind_entries s j i)).gaps ≡ true → old_entries_form s k i last at ≡ false
unfolding old_entries_form behind_entries
marked_entries s zero i last at j l e = absurd (omega arith)
marked_entries s (suc k) i last at zero l e = rw (marked_fails s i e last at)
marked_entries s (suc k) i last at (suc j) l e =
    rw (marked_entries s k (behind_entry s i) (old_entry_at s i).degree (at + old_body_size (old_entry_at s i)) j (omega arith) e)
    (and-false (old_entry_form s (old_entry_at s i) last at))

-- ---- the file

-- No entry of the file has Δ.
abbrev pub NoGaps : List ℕ → Type 0
NoGaps s = (k : ℕ) → k < byte_at s 0 → (entry_number s k).gaps ≡ false

-- An entry of the file, whatever else its bytes are, has Δ: it stores a number from 16 on.
pub record HasGaps (s : List ℕ) : Type 0 where
  pub index : ℕ
  pub listed : index < byte_at s 0
  pub stored : gaps_mark ≤ byte_at s (behind_entries s index first_entry + 1)

module _ (s : List ℕ) where
  pub plain_form : NoGaps s → catalogue_form s ≡ old_catalogue_form s
  unfolding catalogue_form old_catalogue_form
  plain_form h = rw (old_entries s (byte_at s 0) first_entry 0 (contents_end s) h)

  -- NEW KIND, by its form: a file with an entry that has Δ is not of the old form.
  pub gaps_not_old : HasGaps s → old_catalogue_form s ≡ false
  unfolding old_catalogue_form
  gaps_not_old h =
      let fails = marked_entries s (byte_at s 0) first_entry 0 (contents_end s) h.index h.listed (entry_marked s _ h.stored) in
      rw (fails, and-false (leb (contents_end s) (length s)), and-false (leb (byte_at s 0) most_entries), and-false (leb 1 (length s)))

  pub entry_has : (k : ℕ) → k < byte_at s 0 → (entry_number s k).gaps ≡ true → HasGaps s
  entry_has k l e = record { index = k; listed = l; stored = leb-true gaps_mark _ (sym (entry_gaps s _) ∙ e) }

  pub old_no_gaps : old_catalogue_form s ≡ true → NoGaps s
  old_no_gaps t k l = truth_false _ (λ e. not_both t (gaps_not_old (entry_has k l e)))

  -- OLD FORM: exactly the files of the form of today of which no entry has Δ.
  pub old_form : (old_catalogue_form s ≡ true) ↔ ((catalogue_form s ≡ true) × NoGaps s)
  old_form = (
    λ t. let h = old_no_gaps t in (plain_form h ∙ t, h),
    λ f. sym (plain_form f.1) ∙ f.0,
  )
