-- The catalogue of ranked lists, from entries of a degree and T each, at any floor. For lawful entries of ascending degrees it is of the form and
-- holds, for each entry in order, T and the ranked rows in order, and no other degree; its length is a sum over the entries. For the row counts fit
-- (`Few`) and each number fits its field (`Fields`), so the ranked lists are lawful, and a catalogue of lawful lists holds them (`Held`).
-- Assumes nothing.
use Rattle.std.specs.Prelude.{◌≡◌, refl, true, false, ℕ, zero, suc, ◌+◌, ◌*◌, ◌^◌, ◌<◌, ltb, length, get_or, replicate, Ok, Err, Some, None}
use Rattle.std.proofs.Math.Path.{ap}
use Rattle.std.proofs.Common.{◌∙◌, arith, length-append, ltb-true}
use Rattle.std.proofs.Math.Bool.{and-eq-true_iff}
use mathlib.Core.List.Memᴰ
use mathlib.Core.List.{List, [], ◌∷◌, ◌++◌, map, Memᴰ}
use Rattle.std.proofs.lemmas.List.{length-map}
use Rattle.std.proofs.lemmas.Bool.{not-false}
use Rattle.definitions.specs.declared.Selection.{Selection}
use Rattle.definitions.specs.Number.{all}
use Rattle.definitions.specs.Generator.{lawful_degree}
use Rattle.definitions.specs.Ranking.{lawful_top, ranked}
use Rattle.definitions.proofs.Examples.{no_floor}
use Rattle.definitions.specs.Catalogue.{offset_size, entry_size, row_size, first_entry, catalogue_form, opening, lookup_numbers}
use Rattle.definitions.specs.declared.Refusal.TheVariants.{DegreeMissing}
use Rattle.number_laws.specs.Bounds.{LawfulDegree, LawfulTop, lawful_degree_is, lawful_top_is}
use Rattle.definitions.specs.Writing.{Listed, body_bytes, contents_bytes, behind_lists, catalogue_bytes, ranked_list, ranked_file}
use Rattle.definitions.specs.Writing.{lawful_degrees, lawful_tops, ascending, entering}
use Rattle.answer_laws.specs.Unless.{NoneApplies, passes, at_end}
use Rattle.catalogue_laws.specs.Rows.{row_of}
use Rattle.catalogue_laws.specs.Files.{LawfulListed, LawfulLists, none, more, Laid, bodies_bytes, body_length, catalogue_laid, catalogue_written}
use Rattle.catalogue_laws.specs.RoundTrip.{written_opens}
use Rattle.catalogue_laws.specs.Example.{printed, printed_bytes}
use Rattle.writing_laws.specs.Few.{ranked_count_fits}
use Rattle.writing_laws.specs.Fields.{ranked_lawful}
use Rattle.writing_laws.specs.Held.{read_by, held_in, numbers_held, rows_held, lists_held, others_missing}
use Rattle.writing_laws.specs.InBytes.{InBytes, catalogue_bytes_lem}

-- Lawful entries of ascending degrees, behind the degree `last`.
pub data LawfulEntries : ℕ → List Selection → Type 0 where
  ends : {last : ℕ} → LawfulEntries last []
  next : {last : ℕ} {l : Selection} {ls : List Selection} → last < l.degree → LawfulDegree l.degree → LawfulTop l.top
      → LawfulEntries l.degree ls → LawfulEntries last (l ∷ ls)

-- Entries that pass the three tests are such: down the entries, the first one lying above `last`.
entries_behind : {last : ℕ} (l : Selection) (ls : List Selection) → last < l.degree
    → lawful_degrees (l ∷ ls) ≡ true → lawful_tops (l ∷ ls) ≡ true → ascending (l ∷ ls) ≡ true → LawfulEntries last (l ∷ ls)
unfolding lawful_degrees lawful_tops ascending all
entries_behind l [] a degrees tops order =
    next a ((lawful_degree_is l.degree).0 ((and-eq-true_iff _ _).0 degrees).0) ((lawful_top_is l.top).0 ((and-eq-true_iff _ _).0 tops).0) ends
entries_behind l (k ∷ ls) a degrees tops order =
    let d = (and-eq-true_iff (lawful_degree l.degree) (lawful_degrees (k ∷ ls))).0 degrees in
    let t = (and-eq-true_iff (lawful_top l.top) (lawful_tops (k ∷ ls))).0 tops in
    let o = (and-eq-true_iff (ltb l.degree k.degree) (ascending (k ∷ ls))).0 order in
    next a ((lawful_degree_is l.degree).0 d.0) ((lawful_top_is l.top).0 t.0) (entries_behind k ls (ltb-true _ _ o.0) d.1 t.1 o.1)

pub entries_lawful : (ls : List Selection) → lawful_degrees ls ≡ true → lawful_tops ls ≡ true → ascending ls ≡ true → LawfulEntries 0 ls
unfolding lawful_degrees all
entries_lawful [] degrees tops order = ends
entries_lawful (l ∷ ls) degrees tops order =
    let d = (lawful_degree_is l.degree).0 ((and-eq-true_iff (lawful_degree l.degree) (lawful_degrees ls)).0 degrees).0 in
    entries_behind l ls (omega (arith, d.low)) degrees tops order

-- So are entries of which no situation applies.
pub entering_lawful : (floor : ℕ) (ls : List Selection) → NoneApplies (entering floor ls) → LawfulEntries 0 ls
unfolding entering
entering_lawful floor ls (passes degrees (passes tops (passes in_range (passes order at_end)))) =
    entries_lawful ls (not-false (lawful_degrees ls) degrees) (not-false (lawful_tops ls) tops) (not-false (ascending ls) order)

-- An entry where there is none.
abbrev pub no_entry : Selection
no_entry = record { degree = 0; top = 0; floor = 0; gaps = false }

-- Each of such entries is lawful.
pub record LawfulEntry (l : Selection) : Type 0 where
  pub degree_lawful : LawfulDegree l.degree
  pub top_lawful : LawfulTop l.top

pub entry_at_lem : {last : ℕ} {ls : List Selection} → LawfulEntries last ls → (k : ℕ) → k < length ls → LawfulEntry (get_or ls k no_entry)
entry_at_lem ends k h = absurd (omega (arith, h))
entry_at_lem (next a d t f) zero h = record { degree_lawful = d; top_lawful = t }
entry_at_lem (next a d t f) (suc k) h = entry_at_lem f k (omega (arith, h))

pub list_lawful : (l : Selection) → LawfulDegree l.degree → LawfulTop l.top → LawfulListed (ranked_list l)
unfolding ranked_list
list_lawful l d t = record { degree_is_lawful = d; top_is_lawful = t; few = ranked_count_fits l d; each = ranked_lawful l d t }

pub lists_lawful : {last : ℕ} {ls : List Selection} → LawfulEntries last ls → LawfulLists last (map ranked_list ls)
unfolding ranked_list
lists_lawful ends = none
lists_lawful (next {l = l} a d t f) = more a (list_lawful l d t) (lists_lawful f)

-- ---- read back

module _ (ls : List Selection) (h : LawfulEntries 0 ls) where
  abbrev lists : List Listed
  lists = map ranked_list ls

  pub file_form : catalogue_form (ranked_file ls) ≡ true
  unfolding ranked_file
  file_form = catalogue_written lists (lists_lawful h)

  pub file_opens : opening (ranked_file ls) ≡ Ok (length ls)
  unfolding ranked_file
  file_opens = written_opens lists (lists_lawful h) ∙ ap Ok (length-map ls ranked_list)

  -- ROUND TRIP: the same degrees, T, kinds and rows, in order.
  pub file_held : held_in (ranked_file ls) ≡ map ranked_list ls
  unfolding ranked_file
  file_held = lists_held lists (lists_lawful h)

  -- The same of one degree, by a lookup and by a reader.
  module _ (l : Selection) (i : Memᴰ l ls) where
    pub file_numbers_lem : lookup_numbers (ranked_file ls) l.degree ≡ Ok (record { top = l.top; gaps = l.gaps; rows = length (ranked l) })
    unfolding ranked_file ranked_list
    file_numbers_lem = numbers_held lists (lists_lawful h) (ranked_list l) (Memᴰ.map ranked_list i)

    pub file_rows : (n : ℕ)
        → read_by (ranked_file ls) l.degree (length (ranked l) + n) ≡ map (λ (r : List ℕ). Some (row_of l.top l.gaps r)) (ranked l) ++ replicate n None
    unfolding ranked_file ranked_list
    file_rows = rows_held lists (lists_lawful h) (ranked_list l) (Memᴰ.map ranked_list i)

  -- No other degree is found.
  pub file_missing : (m : ℕ) → lawful_degree m ≡ true → ((l : Selection) → Memᴰ l ls → l.degree ≡ m → ⊥)
      → lookup_numbers (ranked_file ls) m ≡ Err DegreeMissing
  unfolding ranked_file ranked_list
  file_missing m d other =
      others_missing lists (lists_lawful h) m d
      (λ x i e. let of = Memᴰ.of_map ranked_list ls i in other of.0 of.1 (ap (λ (y : Listed). y.degree) of.2 ∙ e))

-- ---- the length

-- The bytes of an entry and of its body.
unfoldable pub list_size : Selection → ℕ
list_size l = entry_size l.degree + length (ranked l) * row_size l.degree l.top l.gaps

-- The first byte, and these of each entry.
unfoldable pub file_size : List Selection → ℕ
file_size [] = first_entry
file_size (l ∷ ls) = list_size l + file_size ls

-- The entries from place i on and the bodies.
sizes : {last : ℕ} {ls : List Selection} (i : ℕ) → LawfulEntries last ls
    → behind_lists (map ranked_list ls) i + length (bodies_bytes (map ranked_list ls)) + first_entry ≡ i + file_size ls
unfolding behind_lists file_size list_size ranked_list
sizes i ends = omega arith
sizes {ls = l ∷ ls} i (next a d t f) =
    let body = body_length (ranked_list l) (list_lawful l d t) in
    omega (arith, sizes (i + entry_size l.degree) f, length-append (body_bytes (ranked_list l)) (bodies_bytes (map ranked_list ls)))

module _ (ls : List Selection) (h : LawfulEntries 0 ls) where
  laid : Laid (ranked_file ls) (map ranked_list ls) first_entry (behind_lists (map ranked_list ls) first_entry)
  unfolding ranked_file
  laid = catalogue_laid (map ranked_list ls) (lists_lawful h)

  pub file_length : length (ranked_file ls) ≡ file_size ls
  file_length = omega (arith, laid.ends, sizes first_entry h)

  -- So every offset fits its bytes.
  pub file_small : length (ranked_file ls) < 256 ^ offset_size
  file_small = laid.small

  pub file_bytes : InBytes (ranked_file ls)
  unfolding ranked_file
  file_bytes = catalogue_bytes_lem (map ranked_list ls) (lists_lawful h)

-- With no entry the file is the byte 0.
pub file_none : ranked_file [] ≡ 0 ∷ []
unfolding ranked_file catalogue_bytes contents_bytes
file_none = refl

-- Document 01's catalogue of 41 bytes, which has floor 0.
pub file_printed : ranked_file (record { degree = 3; top = 4; floor = no_floor; gaps = false } ∷ []) ≡ printed
unfolding ranked_file ranked_list
file_printed = printed_bytes
