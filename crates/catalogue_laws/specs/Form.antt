-- The form of a catalogue, read out: numbers in bytes, rows, entries, and what a well-formed catalogue says of each entry.
-- Each test of the form by its definition; the entries by the recursion over them, the place of an entry and that of its body going along.
-- Assumes nothing.
use Rattle.std.specs.Prelude.{◌≡◌, refl, Bool, true, false, ◌&&◌, List, ℕ, zero, suc, ◌+◌, ◌-◌, ◌*◌, ◌^◌, ◌<◌, ◌≤◌, eqb, leb, ltb, length}
use Rattle.std.proofs.Common.{ap₂, ◌∙◌, zero-add, add-zero, lt_of_lt_of_le, add-one, arith, pow_mono, pow-add}
use Rattle.std.proofs.Math.Bool.{and-eq-true_iff}
use Rattle.std.proofs.Math.Dec.{leb-suc-suc}
use borrow.Author.Tests.{leb-true, ltb-true, eqb-true, lt-ltb, le-ltb, lt-leb, le-leb, eq-eqb, ne_eqb}
use Rattle.definitions.specs.Number.{every}
use Rattle.definitions.specs.Generator.{lawful_degree}
use Rattle.definitions.specs.Ranking.{lawful_top}
use Rattle.definitions.specs.Catalogue.{byte_at, number_at, number_size, count_size, offset_size, entry_size, numbers_size, values_size, row_size, Entry}
use Rattle.definitions.specs.Catalogue.{gaps_of, top_of, entry_at, first_entry, behind_entry, behind_entries}
use Rattle.definitions.specs.Catalogue.{contents_end, body_size, most_entries, row_form, entry_form, entries_form, catalogue_form}
use Rattle.number_laws.specs.Bounds.{LawfulDegree, LawfulTop, lawful_degree_is, lawful_top_is}
use Rattle.number_laws.specs.Every.{every_ext}
use Rattle.catalogue_laws.specs.Sizes.{widest, entry_size_is}

-- ---- numbers

pub number_none : (s : List ℕ) (i : ℕ) → number_at 0 s i ≡ 0
unfolding number_at
number_none s i = refl

pub number_more : (w : ℕ) (s : List ℕ) (i : ℕ) → number_at (w + 1) s i ≡ number_at w s i * 256 + byte_at s (i + w)
unfolding number_at
number_more w s i = rw add-one

-- One byte more keeps a number of k bytes below 2^8k, and one of at most three within a machine word of 32 digits.
pub number_below : (n b k : ℕ) → n < 2 ^ (8 * k) → b < 256 → n * 256 + b < 2 ^ (8 * (k + 1))
number_below n b k h l =
    let e : 8 * (k + 1) ≡ 8 * k + 8 = omega arith in
    let f : 2 ^ (8 * k + 8) ≡ 2 ^ (8 * k) * 256 = pow-add 2 (8 * k) 8 in
    rw (e, f) (omega arith)

pub number_room : (n b k : ℕ) → n < 2 ^ (8 * k) → b < 256 → k < widest → n * 256 + b < 2 ^ 32
number_room n b k h l w = lt_of_lt_of_le (number_below n b k h l) (pow_mono {i = 8 * (k + 1)} {j = 32} (omega arith))

pub number_one : (s : List ℕ) (i : ℕ) → number_at 1 s i ≡ byte_at s i
unfolding number_at
number_one s i = rw (add-zero, zero-add)

-- ---- rows

-- p's low part, q and σ are below 2^m.
abbrev pub numbers_form : ℕ → List ℕ → ℕ → Bool
numbers_form m s at = every 3 (λ (k : ℕ). ltb (number_at (number_size m) s (at + k * number_size m)) (2 ^ m))

-- Each t is at most m.
abbrev pub values_form : ℕ → ℕ → List ℕ → ℕ → Bool
values_form m top s at = every (values_size top) (λ (k : ℕ). leb (byte_at s (at + numbers_size m + k)) m)

-- Both, as a walk tests them: with a number's width and 2^m at hand, and 'below m + 1' for 'at most m'.
pub numbers_form_is : (m : ℕ) (s : List ℕ) (at w limit : ℕ) → w ≡ number_size m → limit ≡ 2 ^ m
    → every 3 (λ (k : ℕ). ltb (number_at w s (at + k * w)) limit) ≡ numbers_form m s at
numbers_form_is m s at w limit e f = ap₂ (λ (v b : ℕ). every 3 (λ (k : ℕ). ltb (number_at v s (at + k * v)) b)) e f

below_is_at_most : (x m : ℕ) → ltb x (m + 1) ≡ leb x m
below_is_at_most x m = rw add-one (leb-suc-suc x m)

pub values_form_is : (m top : ℕ) (s : List ℕ) (at place n : ℕ) → place ≡ at + numbers_size m → n ≡ values_size top
    → every n (λ (k : ℕ). ltb (byte_at s (place + k)) (m + 1)) ≡ values_form m top s at
values_form_is m top s at place n e f = simp (below_is_at_most, e, f)

-- The bytes are numbers of one byte.
pub values_form_by_numbers : (m top : ℕ) (s : List ℕ) (at place n : ℕ) → place ≡ at + numbers_size m → n ≡ values_size top
    → every n (λ (k : ℕ). ltb (number_at 1 s (place + k * 1)) (m + 1)) ≡ values_form m top s at
values_form_by_numbers m top s at place n e f =
    every_ext n _ (λ k. ltb (byte_at s (place + k)) (m + 1)) (λ k l. let one : k * 1 ≡ k = omega arith in rw (one, number_one s (place + k)))
    ∙ values_form_is m top s at place n e f

module _ (m top : ℕ) (s : List ℕ) (at : ℕ) where
  pub row_stop : numbers_form m s at ≡ false → row_form m top s at ≡ false
  unfolding row_form
  row_stop h = rw h

  pub row_values : numbers_form m s at ≡ true → row_form m top s at ≡ values_form m top s at
  unfolding row_form
  row_values h = rw h

-- The n rows of a body are of the form.
abbrev pub rows_form : ℕ → ℕ → Bool → List ℕ → ℕ → ℕ → Bool
rows_form m top gaps s at n = every n (λ (k : ℕ). row_form m top s (at + k * row_size m top gaps))

-- ---- entries

and_out : (a b : Bool) → (a && b) ≡ true → (a ≡ true) × (b ≡ true)
and_out a b t = (and-eq-true_iff a b).0 t

-- What a well-formed file says of an entry.
pub record LawfulEntry (s : List ℕ) (e : Entry) : Type 0 where
  pub degree_is_lawful : LawfulDegree e.degree
  pub top_is_lawful : LawfulTop e.top
  pub within : e.offset + body_size e ≤ length s
  pub rows_are_formed : rows_form e.degree e.top e.gaps s e.offset e.rows ≡ true

-- One entry's tests, read out.
pub record EntryTests (s : List ℕ) (e : Entry) (last at : ℕ) : Type 0 where
  pub lawful : LawfulEntry s e
  pub ascends : last < e.degree
  pub placed : e.offset ≡ at

pub entry_tests : (s : List ℕ) (e : Entry) (last at : ℕ) → entry_form s e last at ≡ true → EntryTests s e last at
unfolding entry_form
entry_tests s e last at t =
    let a = and_out _ _ t in
    let b = and_out _ _ a.1 in
    let c = and_out _ _ b.1 in
    let f = and_out _ _ c.1 in
    let g = and_out _ _ f.1 in
    let o = eqb-true e.offset at f.0 in
    record {
      lawful = record {
        degree_is_lawful = (lawful_degree_is e.degree).0 a.0;
        top_is_lawful = (lawful_top_is e.top).0 c.0;
        within = rw o (leb-true _ _ g.0);
        rows_are_formed = rw o g.1;
      };
      ascends = ltb-true last e.degree b.0;
      placed = o;
    }

-- One entry's tests, as a walk makes them: the first that fails decides.
module _ (s : List ℕ) (e : Entry) (last at : ℕ) where
  pub entry_degree : lawful_degree e.degree ≡ false → entry_form s e last at ≡ false
  unfolding entry_form
  entry_degree d = rw d

  module _ (d : lawful_degree e.degree ≡ true) where
    pub entry_last : e.degree ≤ last → entry_form s e last at ≡ false
    unfolding entry_form
    entry_last a = rw (d, le-ltb last e.degree a)

    module _ (a : last < e.degree) where
      pub entry_top : lawful_top e.top ≡ false → entry_form s e last at ≡ false
      unfolding entry_form
      entry_top t = rw (d, lt-ltb last e.degree a, t)

      module _ (t : lawful_top e.top ≡ true) where
        pub entry_offset : (e.offset ≡ at → ⊥) → entry_form s e last at ≡ false
        unfolding entry_form
        entry_offset o = rw (d, lt-ltb last e.degree a, t, ne_eqb e.offset at o)

        module _ (o : e.offset ≡ at) where
          pub entry_size_lem : length s < at + body_size e → entry_form s e last at ≡ false
          unfolding entry_form
          entry_size_lem z = rw (d, lt-ltb last e.degree a, t, eq-eqb e.offset at o, lt-leb (at + body_size e) (length s) z)

          pub entry_rows : at + body_size e ≤ length s → entry_form s e last at ≡ rows_form e.degree e.top e.gaps s at e.rows
          unfolding entry_form
          entry_rows z = rw (d, lt-ltb last e.degree a, t, eq-eqb e.offset at o, le-leb (at + body_size e) (length s) z)

pub entry_within : (s : List ℕ) (e : Entry) (last at : ℕ) → entry_form s e last at ≡ true → at + body_size e ≤ length s
entry_within s e last at t = let r = entry_tests s e last at t in omega (arith, r.placed, r.lawful.within)

pub entry_at_degree : (s : List ℕ) (i : ℕ) → (entry_at s i).degree ≡ byte_at s i
unfolding entry_at
entry_at_degree s i = refl

-- An entry whose fields were read at a place is the entry there.
pub entry_at_is : (s : List ℕ) (i : ℕ) (e : Entry) → e.degree ≡ byte_at s i → e.top ≡ top_of (byte_at s (i + 1)) → e.gaps ≡ gaps_of (byte_at s (i + 1))
    → e.rows ≡ number_at (count_size e.degree) s (i + 2) → e.offset ≡ number_at offset_size s (i + 2 + count_size e.degree) → e ≡ entry_at s i
unfolding entry_at
entry_at_is s i e d t g r o = rw (← d, ← t, ← g, ← r, ← o)

-- The fields of an entry that ends within the file do so too.
pub entry_whole : (s : List ℕ) (i degree : ℕ) → behind_entry s i ≤ length s → degree ≡ byte_at s i
    → i + 2 + count_size degree + offset_size ≤ length s
entry_whole s i degree h e = rw e (omega (arith, entry_size_is (byte_at s i)))

-- ---- the places of entries

-- The place behind k entries is not before the first of them, and where there is one, not before the place behind that one.
pub behind_least : (s : List ℕ) (k i : ℕ) → i ≤ behind_entries s k i
unfolding behind_entries
behind_least s zero i = omega arith
behind_least s (suc k) i = omega (arith, behind_least s k (behind_entry s i))

pub behind_none : (s : List ℕ) (k i : ℕ) → k ≤ 0 → behind_entries s k i ≡ i
unfolding behind_entries
behind_none s zero i l = refl
behind_none s (suc k) i l = absurd (omega arith)

pub behind_on : (s : List ℕ) (k i : ℕ) → 0 < k → behind_entries s k i ≡ behind_entries s (k - 1) (behind_entry s i)
unfolding behind_entries
behind_on s zero i l = absurd (omega arith)
behind_on s (suc k) i l = let d : suc k - 1 ≡ k = omega arith in rw d

pub is_behind_first : (s : List ℕ) (k i : ℕ) → 0 < k → behind_entry s i ≤ behind_entries s k i
is_behind_first s k i l = rw (behind_on s k i l) (behind_least s (k - 1) (behind_entry s i))

-- ---- all entries, as a walk makes them

pub entries_end : (s : List ℕ) (k i last at : ℕ) → k ≤ 0 → entries_form s k i last at ≡ eqb at (length s)
unfolding entries_form
entries_end s zero i last at l = refl
entries_end s (suc k) i last at l = absurd (omega arith)

pub entries_on : (s : List ℕ) (k i last at : ℕ) → 0 < k → entry_form s (entry_at s i) last at ≡ true
    → entries_form s k i last at ≡ entries_form s (k - 1) (behind_entry s i) (entry_at s i).degree (at + body_size (entry_at s i))
unfolding entries_form
entries_on s zero i last at l e = absurd (omega arith)
entries_on s (suc k) i last at l e = let d : suc k - 1 ≡ k = omega arith in rw (e, d)

pub entries_stop : (s : List ℕ) (k i last at : ℕ) → 0 < k → entry_form s (entry_at s i) last at ≡ false → entries_form s k i last at ≡ false
unfolding entries_form
entries_stop s zero i last at l e = absurd (omega arith)
entries_stop s (suc k) i last at l e = rw e

-- One turn of such a walk, which has read the entry e, its body's size and its own size `step`.
module _ (s : List ℕ) (i : ℕ) (e : Entry) (is : e ≡ entry_at s i) (step : ℕ) (step_is : step ≡ entry_size e.degree) where
  pub behind_step : i + step ≡ behind_entry s i
  unfolding entry_at
  behind_step = rw (step_is, is)

  pub entries_step : (k last at size : ℕ) → size ≡ body_size e → 0 < k → entry_form s e last at ≡ true
      → entries_form s k i last at ≡ entries_form s (k - 1) (i + step) e.degree (at + size)
  entries_step k last at size size_is l t =
      let passed : entry_form s (entry_at s i) last at ≡ true = rw is at t in
      rw (behind_step, size_is, is) (entries_on s k i last at l passed)

-- The first of the entries passes, and so do those behind it.
pub entries_out : (s : List ℕ) (k i last at : ℕ) → entries_form s (suc k) i last at ≡ true
    → EntryTests s (entry_at s i) last at
    × (entries_form s k (behind_entry s i) (entry_at s i).degree (at + body_size (entry_at s i)) ≡ true)
unfolding entries_form
entries_out s k i last at t = let a = and_out _ _ t in (entry_tests s (entry_at s i) last at a.0, a.1)

-- ---- the catalogue

-- The tests of the whole, as a walk makes them.
module _ (s : List ℕ) where
  pub catalogue_empty : length s < 1 → catalogue_form s ≡ false
  unfolding catalogue_form
  catalogue_empty h = rw (lt-leb 1 (length s) h)

  module _ (h : 1 ≤ length s) where
    pub catalogue_many : most_entries < byte_at s 0 → catalogue_form s ≡ false
    unfolding catalogue_form
    catalogue_many k = rw (le-leb 1 (length s) h, lt-leb (byte_at s 0) most_entries k)

    module _ (k : byte_at s 0 ≤ most_entries) where
      pub catalogue_short : length s < contents_end s → catalogue_form s ≡ false
      unfolding catalogue_form
      catalogue_short l = rw (le-leb 1 (length s) h, le-leb (byte_at s 0) most_entries k, lt-leb (contents_end s) (length s) l)

      pub catalogue_entries : contents_end s ≤ length s → catalogue_form s ≡ entries_form s (byte_at s 0) first_entry 0 (contents_end s)
      unfolding catalogue_form
      catalogue_entries l = rw (le-leb 1 (length s) h, le-leb (byte_at s 0) most_entries k, le-leb (contents_end s) (length s) l)

-- What a well-formed catalogue says as a whole.
pub record CatalogueForm (s : List ℕ) : Type 0 where
  pub nonempty : 1 ≤ length s
  pub few : byte_at s 0 ≤ most_entries
  pub contents : contents_end s ≤ length s
  pub entries : entries_form s (byte_at s 0) first_entry 0 (contents_end s) ≡ true

pub catalogue_form_lem : (s : List ℕ) → catalogue_form s ≡ true → CatalogueForm s
unfolding catalogue_form
catalogue_form_lem s t =
    let a = and_out _ _ t in
    let b = and_out _ _ a.1 in
    let c = and_out _ _ b.1 in
    record { nonempty = leb-true 1 (length s) a.0; few = leb-true _ _ b.0; contents = leb-true _ _ c.0; entries = c.1 }
