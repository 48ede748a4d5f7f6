-- A catalogue that is made of lawful lists opens with their number, and a lookup of a listed degree gives back its list: the numbers, the body,
-- and a reader that hands out its rows. Degrees ascend, so the entry of a degree is the one that was made of its list.
-- Assumes nothing.
use Rattle.std.specs.Prelude.{◌≡◌, refl, false, ℕ, zero, suc, ◌+◌, ◌*◌, ◌<◌, ◌≤◌, length, take, drop, replicate, Ok, Option, Some, None}
use Rattle.std.proofs.Common.{sym, ap₂, ◌∙◌, subst, zero-add, arith}
use Rattle.std.proofs.Math.Path.{ap}
use mathlib.Core.List.{List, [], ◌∷◌, ◌++◌, map}
use Rattle.std.proofs.Math.ListN.{get_or}
use Rattle.definitions.specs.Number.{numbers}
use Rattle.definitions.specs.Catalogue.{byte_at, entry_size, row_size, Entry, entry_at, first_entry, body_size, row_at, entry_from, entry_of, opening, lookup_numbers}
use Rattle.definitions.specs.Catalogue.{lookup_part, reader_top, reader_gaps}
use Rattle.number_laws.specs.Bounds.{lawful_degree_is}
use Rattle.definitions.specs.Writing.{row_bytes, Listed, body_bytes, behind_lists, catalogue_bytes}
use Rattle.definitions.specs.declared.Row.{Row}
use Rattle.catalogue_laws.specs.Rows.{row_of}
use Rattle.catalogue_laws.specs.Form.{entry_at_degree}
use Rattle.catalogue_laws.specs.Lookup.{entry_of_lem, look_stop, look_behind, opening_entries}
use Rattle.catalogue_laws.specs.Outcome.{Given, looking_finds, lookup_given}
use Rattle.catalogue_laws.specs.Reader.{hands_out, body_rows, reader_hands_out}
use Rattle.catalogue_laws.specs.Bytes.{Stands, stands_part, stands_whole}
use Rattle.catalogue_laws.specs.Written.{row_written, rows_stand}
use Rattle.catalogue_laws.specs.Files.{LawfulListed, LawfulLists, none, more, Laid, laid_body, laid_rest, laid_entry_is, laid_behind, entry_of_list}
use Rattle.catalogue_laws.specs.Files.{body_length, catalogue_laid, catalogue_count, catalogue_written}

abbrev pub no_list : Listed
no_list = record { degree = 0; top = 0; gaps = false; rows = [] }

-- The list at j.
abbrev pub list_at : List Listed → ℕ → Listed
list_at ls j = get_or ls j no_list

-- ---- the entries

lists_behind : {last : ℕ} {ls : List Listed} → LawfulLists last ls → (j : ℕ) → j < length ls → last < (list_at ls j).degree
lists_behind none j l = absurd (omega arith)
lists_behind (more a h f) zero l = a
lists_behind (more a h f) (suc j) l = omega (arith, lists_behind f j (omega arith))

-- A list in a file: of the k entries from place i on the one of its degree is its own, and its body lies where the entry says.
record Placed (s : List ℕ) (k i : ℕ) (l : Listed) : Type 0 where
  lawful : LawfulListed l
  entry_place : ℕ
  is_behind_first : i ≤ entry_place
  found : entry_from s k i l.degree ≡ entry_place
  body_place : ℕ
  is : entry_at s entry_place ≡ entry_of_list l body_place
  body : Stands s body_place (body_bytes l)

module _ (s : List ℕ) (x : Listed) (ls : List Listed) (i at : ℕ) (h : LawfulListed x) (p : Laid s (x ∷ ls) i at) where
  first_degree : byte_at s i ≡ x.degree
  first_degree = sym (entry_at_degree s i) ∙ ap (λ (e : Entry). e.degree) (laid_entry_is s x ls i at h p)

  first_placed : Placed s (suc (length ls)) i x
  first_placed = record {
    lawful = h;
    entry_place = i;
    is_behind_first = omega arith;
    found = look_stop s x.degree (suc (length ls)) i (omega arith) first_degree;
    body_place = at;
    is = laid_entry_is s x ls i at h p;
    body = laid_body s x ls i at p;
  }

  -- A list of a higher degree is looked for behind the first entry.
  later_placed : (l : Listed) → x.degree < l.degree → Placed s (length ls) (i + entry_size x.degree) l → Placed s (suc (length ls)) i l
  later_placed l a q = record {
    lawful = q.lawful;
    entry_place = q.entry_place;
    is_behind_first = omega (arith, q.is_behind_first);
    found =
        look_behind s l.degree (length ls) i (λ e. omega (arith, first_degree))
        ∙ ap (λ (n : ℕ). entry_from s (length ls) n l.degree) (laid_behind s x ls i at h p) ∙ q.found;
    body_place = q.body_place;
    is = q.is;
    body = q.body;
  }

lists_placed : (s : List ℕ) {last : ℕ} {ls : List Listed} (i at : ℕ) → LawfulLists last ls → Laid s ls i at → (j : ℕ) → j < length ls
    → Placed s (length ls) i (list_at ls j)
lists_placed s i at none p j l = absurd (omega arith)
lists_placed s {ls = x ∷ ls} i at (more a h f) p zero l = first_placed s x ls i at h p
lists_placed s {ls = x ∷ ls} i at (more a h f) p (suc j) l =
    later_placed s x ls i at h p (list_at ls j) (lists_behind f j (omega arith))
    (lists_placed s (i + entry_size x.degree) (at + length (body_bytes x)) f (laid_rest s x ls i at p) j (omega arith))

-- A function of the numbers from k on, where it gives what another gives of a list's elements.
map_numbers : (f : ℕ → Option Row) (g : List ℕ → Option Row) (rows : List (List ℕ)) (k : ℕ)
    → ((i : ℕ) → i < length rows → f (k + i) ≡ g (get_or rows i [])) → map f (numbers k (length rows)) ≡ map g rows
unfolding numbers
map_numbers f g [] k h = refl
map_numbers f g (r ∷ rows) k h =
    let e : k ≡ k + 0 = omega arith in
    ap₂ ◌∷◌ (ap f e ∙ h 0 (omega arith))
    (map_numbers f g rows (suc k) (λ i l. let d : suc k + i ≡ k + suc i = omega arith in ap f d ∙ h (suc i) (omega arith)))

-- ---- the theorems

module _ (ls : List Listed) (h : LawfulLists 0 ls) where
  abbrev file : List ℕ
  file = catalogue_bytes ls

  pub written_opens : opening file ≡ Ok (length ls)
  written_opens = opening_entries file (catalogue_written ls h) ∙ ap Ok (catalogue_count ls h)

  module _ (j : ℕ) (l : j < length ls) where
    abbrev x : Listed
    x = list_at ls j

    placed : Placed file (length ls) first_entry x
    placed = lists_placed file first_entry (behind_lists ls first_entry) h (catalogue_laid ls h) j l

    entry_found_at : entry_of file x.degree ≡ placed.entry_place
    entry_found_at = entry_of_lem file x.degree ∙ rw (catalogue_count ls h) placed.found

    given_back : Given file x.degree
    given_back =
        let lawful = (lawful_degree_is x.degree).1 placed.lawful.degree_is_lawful in
        lookup_given file x.degree
        (looking_finds file x.degree lawful (catalogue_written ls h) (λ e. omega (arith, entry_found_at, placed.is_behind_first)))

    entry_given : entry_at file (entry_of file x.degree) ≡ entry_of_list x placed.body_place
    entry_given = ap (entry_at file) entry_found_at ∙ placed.is

    pub written_numbers : lookup_numbers file x.degree ≡ Ok (record { top = x.top; gaps = x.gaps; rows = length x.rows })
    written_numbers = given_back.numbers_are ∙ ap (λ (e : Entry). Ok (record { top = e.top; gaps = e.gaps; rows = e.rows })) entry_given

    pub written_part : lookup_part file x.degree ≡ body_bytes x
    written_part =
        let p = placed in
        given_back.part_is
        ∙ ap (λ (e : Entry). take (body_size e) (drop e.offset file)) entry_given
        ∙ ap (λ (n : ℕ). take n (drop p.body_place file)) (sym (body_length x p.lawful))
        ∙ stands_part file p.body_place (body_bytes x) p.body

    -- Each row of the body that the lookup gives is the listed one.
    row_given : (k : ℕ) → k < length x.rows
        → row_at x.degree x.top x.gaps (body_bytes x) (k * row_size x.degree x.top x.gaps) ≡ row_of x.top x.gaps (get_or x.rows k [])
    unfolding body_bytes
    row_given k r =
        let m = x.degree in
        let size = row_size m x.top x.gaps in
        let d = placed.lawful in
        let row = get_or x.rows k [] in
        let p = rows_stand m x.top x.gaps d.top_is_lawful.low x.rows d.each (body_bytes x) 0 (stands_whole (body_bytes x)) k r in
        row_written m x.top x.gaps row (body_bytes x) (k * size) d.degree_is_lawful d.top_is_lawful (d.each k r)
        (subst (λ (n : ℕ). Stands (body_bytes x) n (row_bytes m row)) (zero-add (k * size)) p)

    rows_given : body_rows x.degree x.top x.gaps (body_bytes x) 0 (length x.rows) ≡ map (λ (r : List ℕ). Some (row_of x.top x.gaps r)) x.rows
    unfolding body_rows
    rows_given =
        let size = row_size x.degree x.top x.gaps in
        map_numbers (λ (i : ℕ). Some (row_at x.degree x.top x.gaps (body_bytes x) (i * size)))
        (λ (r : List ℕ). Some (row_of x.top x.gaps r)) x.rows 0
        (λ i a. ap Some (ap (λ (k : ℕ). row_at x.degree x.top x.gaps (body_bytes x) (k * size)) (zero-add i) ∙ row_given i a))

    -- A reader hands out the listed rows, and then the end.
    pub written_rows : (n : ℕ)
        → hands_out (length x.rows + n) x.degree (reader_top file x.degree) (reader_gaps file x.degree) (lookup_part file x.degree) 0
        ≡ map (λ (r : List ℕ). Some (row_of x.top x.gaps r)) x.rows ++ replicate n None
    written_rows n =
        reader_hands_out file x.degree x.top x.gaps (length x.rows) n written_numbers
        ∙ ap (λ (b : List ℕ). body_rows x.degree x.top x.gaps b 0 (length x.rows) ++ replicate n None) written_part
        ∙ ap (λ (r : List (Option Row)). r ++ replicate n None) rows_given
