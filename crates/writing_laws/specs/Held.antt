-- What a catalogue holds, by the definitions that opening, looking up and reading follow: for each entry, in order, its degree, and T, the kind and the
-- rows that a lookup and a reader of that degree give. A catalogue that is made of lawful lists holds these lists, and has no other degree.
-- Assumes nothing.
use Rattle.std.specs.Prelude.{◌≡◌, refl, Bool, true, false, ℕ, zero, suc, ◌+◌, ◌<◌, length, get_or, replicate, Result, Ok, Err, Option, Some, None}
use Rattle.std.proofs.Math.Path.{sym, ap}
use Rattle.std.proofs.Common.{ap₂, ◌∙◌, subst, arith}
use mathlib.Core.List.Memᴰ
use mathlib.Core.List.{List, [], ◌∷◌, ◌++◌, map, map-map, append-nil, Memᴰ}
use Rattle.std.proofs.Math.Nat.{add-zero}
use Rattle.definitions.specs.Number.{bit}
use Rattle.definitions.specs.Generator.{lawful_degree}
use Rattle.definitions.specs.Catalogue.{byte_at, entry_size, first_entry, behind_entry, behind_entries, lookup_numbers, lookup_part, reader_top, reader_gaps}
use Rattle.definitions.specs.declared.Lookup.{Lookup}
use Rattle.definitions.specs.declared.Refusal.TheVariants.{DegreeMissing}
use Rattle.answer_laws.specs.Unless.{unless_refused}
use Rattle.catalogue_laws.specs.Form.{entry_at_degree}
use Rattle.catalogue_laws.specs.Missing.{HasEntry, missing_exactly}
use Rattle.catalogue_laws.specs.Outcome.{looking_missing}
use Rattle.catalogue_laws.specs.Reader.{hands_out}
use Rattle.definitions.specs.Writing.{Listed, body_bytes, behind_lists, catalogue_bytes}
use Rattle.definitions.specs.declared.Row.{Row}
use Rattle.definitions.specs.declared.Refusal.{Refusal}
use Rattle.catalogue_laws.specs.Rows.{numbers_up_to, row_of, numbers_of_row}
use Rattle.catalogue_laws.specs.Files.{LawfulListed, LawfulLists, none, more, Laid, laid_rest, laid_entry_is, laid_behind, catalogue_laid, catalogue_count}
use Rattle.catalogue_laws.specs.Files.{catalogue_written}
use Rattle.catalogue_laws.specs.RoundTrip.{no_list, written_numbers, written_rows}

-- What a reader of a degree hands out in n calls.
abbrev pub read_by : List ℕ → ℕ → ℕ → List (Option Row)
read_by s m n = hands_out n m (reader_top s m) (reader_gaps s m) (lookup_part s m) 0

-- The numbers of a row that is handed out: T + 1, and T + 2 with Δ.
abbrev pub numbers_read : ℕ → Bool → Option Row → List ℕ
numbers_read top gaps (Some r) = numbers_up_to top gaps r
numbers_read top gaps None = []

-- The list of a degree: T, the kind and as many rows as the lookup says; no rows where it is refused.
unfoldable pub list_by : List ℕ → ℕ → Result Lookup Refusal → Listed
list_by s m (Ok b) = record { degree = m; top = b.top; gaps = b.gaps; rows = map (numbers_read b.top b.gaps) (read_by s m b.rows) }
list_by s m (Err r) = record { degree = m; top = 0; gaps = false; rows = [] }

unfoldable pub held_of : List ℕ → ℕ → Listed
held_of s m = list_by s m (lookup_numbers s m)

-- The degrees of the k entries from place i on.
unfoldable pub degrees_from : List ℕ → ℕ → ℕ → List ℕ
degrees_from s zero i = []
degrees_from s (suc k) i = byte_at s i ∷ degrees_from s k (behind_entry s i)

abbrev pub degrees_in : List ℕ → List ℕ
degrees_in s = degrees_from s (byte_at s 0) first_entry

unfoldable pub held_in : List ℕ → List Listed
held_in s = map (held_of s) (degrees_in s)

-- ---- lists

map_same : {X : Type 0} (f : X → X) (l : List X) → ((x : X) → Memᴰ x l → f x ≡ x) → map f l ≡ l
map_same f [] h = refl
map_same f (x ∷ l) h = ap₂ ◌∷◌ (h x (Memᴰ.head refl)) (map_same f l (λ y i. h y (Memᴰ.tail i)))

-- A member, by its index.
pub record Indexed {X : Type 0} (d : X) (l : List X) (x : X) : Type 0 where
  pub index : ℕ
  pub below : index < length l
  pub is : get_or l index d ≡ x

pub indexed : {X : Type 0} (d : X) (l : List X) {x : X} → Memᴰ x l → Indexed d l x
indexed d [] i = elim i [ ]
indexed d (y ∷ l) (Memᴰ.head e) = record { index = 0; below = omega arith; is = sym e }
indexed d (y ∷ l) (Memᴰ.tail i) = let r = indexed d l i in record { index = suc r.index; below = omega (arith, r.below); is = r.is }

-- ---- the entries

degrees_laid : (s : List ℕ) {last : ℕ} {ls : List Listed} (i at : ℕ) → LawfulLists last ls → Laid s ls i at
    → degrees_from s (length ls) i ≡ map (λ (l : Listed). l.degree) ls
unfolding degrees_from
degrees_laid s i at none p = refl
degrees_laid s {ls = l ∷ ls} i at (more a h f) p =
    ap₂ ◌∷◌ (sym (entry_at_degree s i) ∙ ap (λ e. e.degree) (laid_entry_is s l ls i at h p))
    (ap (degrees_from s (length ls)) (laid_behind s l ls i at h p)
    ∙ degrees_laid s (i + entry_size l.degree) (at + length (body_bytes l)) f (laid_rest s l ls i at p))

degree_member : (s : List ℕ) (k i j : ℕ) → j < k → Memᴰ (byte_at s (behind_entries s j i)) (degrees_from s k i)
unfolding degrees_from behind_entries
degree_member s zero i j h = absurd (omega arith)
degree_member s (suc k) i zero h = Memᴰ.head refl
degree_member s (suc k) i (suc j) h = Memᴰ.tail (degree_member s k (behind_entry s i) j (omega arith))

pub lawful_member : {last : ℕ} {ls : List Listed} {l : Listed} → LawfulLists last ls → Memᴰ l ls → LawfulListed l
lawful_member none i = elim i [ ]
lawful_member (more a h f) (Memᴰ.head e) = subst LawfulListed (sym e) h
lawful_member (more a h f) (Memᴰ.tail i) = lawful_member f i

-- A row's numbers are given back by the row that is handed out.
numbers_back : (l : Listed) → LawfulListed l
    → map (numbers_read l.top l.gaps) (map (λ (r : List ℕ). Some (row_of l.top l.gaps r)) l.rows) ≡ l.rows
numbers_back l h =
    map-map (numbers_read l.top l.gaps) (λ (r : List ℕ). Some (row_of l.top l.gaps r)) l.rows
    ∙ map_same (λ (r : List ℕ). numbers_up_to l.top l.gaps (row_of l.top l.gaps r)) l.rows
    (λ r i.
    let a = indexed [] l.rows i in
    let width : length r ≡ suc l.top + bit l.gaps = ap length (sym a.is) ∙ (h.each a.index a.below).width in
    numbers_of_row l.top l.gaps r width h.top_is_lawful.high)

-- ---- the theorems

module _ (ls : List Listed) (h : LawfulLists 0 ls) where
  abbrev file : List ℕ
  file = catalogue_bytes ls

  pub degrees_back : degrees_in file ≡ map (λ (l : Listed). l.degree) ls
  degrees_back =
      ap (λ (n : ℕ). degrees_from file n first_entry) (catalogue_count ls h)
      ∙ degrees_laid file first_entry (behind_lists ls first_entry) h (catalogue_laid ls h)

  -- A lookup and a reader of a listed degree.
  module _ (l : Listed) (i : Memᴰ l ls) where
    abbrev at : Indexed no_list ls l
    at = indexed no_list ls i

    pub numbers_held : lookup_numbers file l.degree ≡ Ok (record { top = l.top; gaps = l.gaps; rows = length l.rows })
    numbers_held = rw at.is at (written_numbers ls h at.index at.below)

    pub rows_held : (n : ℕ)
        → read_by file l.degree (length l.rows + n) ≡ map (λ (r : List ℕ). Some (row_of l.top l.gaps r)) l.rows ++ replicate n None
    rows_held n = rw at.is at (written_rows ls h at.index at.below n)

    pub list_held : held_of file l.degree ≡ l
    unfolding held_of list_by
    list_held =
        let read : read_by file l.degree (length l.rows) ≡ map (λ (r : List ℕ). Some (row_of l.top l.gaps r)) l.rows =
        rw add-zero at (rows_held 0) ∙ append-nil _ in
        rw numbers_held
        (λ j. record {
          degree = l.degree;
          top = l.top;
          gaps = l.gaps;
          rows = (ap (map (numbers_read l.top l.gaps)) read ∙ numbers_back l (lawful_member h i)) j;
        })

  -- HELD: what a catalogue is made of is what it holds.
  pub lists_held : held_in file ≡ ls
  unfolding held_in
  lists_held =
      ap (map (held_of file)) degrees_back
      ∙ map-map (held_of file) (λ (l : Listed). l.degree) ls
      ∙ map_same (λ (l : Listed). held_of file l.degree) ls list_held

  -- A degree of no list is missing.
  pub others_missing : (m : ℕ) → lawful_degree m ≡ true → ((l : Listed) → Memᴰ l ls → l.degree ≡ m → ⊥) → lookup_numbers file m ≡ Err DegreeMissing
  unfolding lookup_numbers
  others_missing m d other = unless_refused _ _ (looking_missing file m d (catalogue_written ls h) ((missing_exactly file m).1 none_has))
    where
      none_has : HasEntry file m → ⊥
      none_has x =
          let listed = degree_member file (byte_at file 0) first_entry x.index x.listed in
          let of = Memᴰ.of_map (λ (l : Listed). l.degree) ls (subst (Memᴰ _) degrees_back listed) in
          other of.0 of.1 (of.2 ∙ sym (entry_at_degree file _) ∙ x.degree_is)
