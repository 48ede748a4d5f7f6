-- Whole catalogues, written and read back: the bytes that are made of lawful lists are a catalogue.
-- Down the lists: an entry stands behind the entries before it, and its body behind their bodies, which is where the entry says it is.
-- Assumes nothing.
use Rattle.std.specs.Prelude.{◌≡◌, true, List, [], ◌∷◌, ◌++◌, map, ℕ, ◌+◌, ◌*◌, ◌^◌, ◌<◌, ◌≤◌, length}
use Rattle.std.proofs.Math.Path.{refl, subst}
use Rattle.std.proofs.Common.{sym, ap, ◌∙◌, add-zero, mul-le-mul_left, arith, eq-eqb}
use Rattle.std.proofs.Math.ListN.{length-append}
use Rattle.definitions.specs.Number.{join}
use Rattle.definitions.specs.Generator.{largest_degree}
use Rattle.definitions.specs.Catalogue.{byte_at, number_at, count_size, offset_size, entry_size, row_size, Entry, entry_at, first_entry, behind_entry, behind_entries}
use Rattle.definitions.specs.Catalogue.{contents_end, most_entries, body_size, row_form, entry_form, entries_form, catalogue_form, marked_top, gaps_of, top_of}
use Rattle.number_laws.specs.Bounds.{LawfulDegree, LawfulTop, lawful_degree_is, lawful_top_is}
use Rattle.number_laws.specs.Every.{every_in}
use Rattle.catalogue_laws.specs.Sizes.{longest_entry, longest_row_size, longest_body, count_most, entry_size_is, entry_size_most, row_size_most}
use Rattle.definitions.specs.Writing.{bytes_of, Listed, body_bytes, entry_bytes, contents_bytes, behind_lists, catalogue_bytes}
use Rattle.catalogue_laws.specs.Kinds.{gaps_back, top_back}
use Rattle.catalogue_laws.specs.Form.{entry_at_is, entry_rows, catalogue_entries}
use Rattle.catalogue_laws.specs.Bytes.{Stands, stands_first, stands_rest, stands_whole, stands_byte, stands_number, bytes_length}
use Rattle.catalogue_laws.specs.Written.{LawfulRows, row_written_form, rows_length, rows_stand}

-- A list that a catalogue can hold.
pub record LawfulListed (l : Listed) : Type 0 where
  pub degree_is_lawful : LawfulDegree l.degree
  pub top_is_lawful : LawfulTop l.top
  pub few : length l.rows < 256 ^ count_size l.degree
  pub each : LawfulRows l.degree l.top l.gaps l.rows

-- Lists of ascending degrees, behind the degree `last`.
pub data LawfulLists : ℕ → List Listed → Type 0 where
  none : {last : ℕ} → LawfulLists last []
  more : {last : ℕ} {l : Listed} {ls : List Listed} → last < l.degree → LawfulListed l → LawfulLists l.degree ls → LawfulLists last (l ∷ ls)

-- ---- sizes

-- The bodies of the lists, one behind the other.
abbrev pub bodies_bytes : List Listed → List ℕ
bodies_bytes ls = join (map body_bytes ls)

pub body_length : (l : Listed) → LawfulListed l → length (body_bytes l) ≡ length l.rows * row_size l.degree l.top l.gaps
unfolding body_bytes
body_length l h = rows_length l.degree l.top l.gaps h.top_is_lawful.low l.rows h.each

lists_most : {last : ℕ} {ls : List Listed} → last ≤ largest_degree → LawfulLists last ls → length ls + last ≤ largest_degree
lists_most l none = omega arith
lists_most l (more a h f) = omega (arith, lists_most h.degree_is_lawful.high f)

pub lists_few : {ls : List Listed} → LawfulLists 0 ls → length ls ≤ most_entries
lists_few none = omega arith
lists_few (more a h f) = omega (arith, h.degree_is_lawful.low, lists_most h.degree_is_lawful.high f)

-- The rows of a list are few and short.
pub body_most : (l : Listed) → LawfulListed l → length (body_bytes l) ≤ longest_body
body_most l h =
    let size = row_size_most l.degree l.top l.gaps h.top_is_lawful.high in
    let most : length l.rows * row_size l.degree l.top l.gaps ≤ length l.rows * longest_row_size = mul-le-mul_left (length l.rows) size in
    omega (arith, h.few, count_most l.degree, body_length l h)

bodies_most : {last : ℕ} {ls : List Listed} → LawfulLists last ls → length (bodies_bytes ls) ≤ length ls * longest_body
bodies_most none = omega arith
bodies_most {ls = l ∷ ls} (more a h f) = omega (arith, bodies_most f, body_most l h, length-append (body_bytes l) (bodies_bytes ls))

pub entry_length : (l : Listed) (offset : ℕ) → length (entry_bytes l offset) ≡ entry_size l.degree
unfolding entry_bytes
entry_length l offset = simp (length-append, bytes_length) (omega (arith, entry_size_is l.degree))

pub contents_length : (ls : List Listed) (at i : ℕ) → i + length (contents_bytes ls at) ≡ behind_lists ls i
unfolding contents_bytes behind_lists
contents_length [] at i = omega arith
contents_length (l ∷ ls) at i =
    let n = at + length (body_bytes l) in
    let e : i + length (entry_bytes l at ++ contents_bytes ls n) ≡ i + entry_size l.degree + length (contents_bytes ls n) =
    omega (arith, length-append (entry_bytes l at) (contents_bytes ls n), entry_length l at) in
    e ∙ contents_length ls n (i + entry_size l.degree)

behind_lists_most : (ls : List Listed) (i : ℕ) → behind_lists ls i ≤ i + length ls * longest_entry
unfolding behind_lists
behind_lists_most [] i = omega arith
behind_lists_most (l ∷ ls) i = omega (arith, behind_lists_most ls (i + entry_size l.degree), entry_size_most l.degree)

-- ---- one entry

-- The entry of a list whose body lies at `offset`.
abbrev pub entry_of_list : Listed → ℕ → Entry
entry_of_list l offset = record { degree = l.degree; top = l.top; gaps = l.gaps; rows = length l.rows; offset = offset }

module _ (s : List ℕ) (i : ℕ) (l : Listed) (offset : ℕ) (h : LawfulListed l) (o : offset < 256 ^ offset_size) (p : Stands s i (entry_bytes l offset)) where
  abbrev w : ℕ
  w = count_size l.degree

  abbrev firsts : List ℕ
  firsts = l.degree ∷ marked_top l.top l.gaps ∷ []

  abbrev count : List ℕ
  count = bytes_of w (length l.rows)

  firsts_stand : Stands s i firsts
  unfolding entry_bytes
  firsts_stand = stands_first s i firsts (count ++ bytes_of offset_size offset) p

  rest_stands : Stands s (i + 2) (count ++ bytes_of offset_size offset)
  unfolding entry_bytes
  rest_stands = stands_rest s i firsts (count ++ bytes_of offset_size offset) p

  degree_is : byte_at s i ≡ l.degree
  degree_is = ap (byte_at s) (sym (add-zero i)) ∙ stands_byte s i firsts 0 firsts_stand (omega arith)

  count_is : number_at w s (i + 2) ≡ length l.rows
  count_is = stands_number w (length l.rows) s (i + 2) h.few (stands_first s (i + 2) count (bytes_of offset_size offset) rest_stands)

  offset_is : number_at offset_size s (i + 2 + w) ≡ offset
  offset_is =
      stands_number offset_size offset s (i + 2 + w) o
      (subst (λ (n : ℕ). Stands s (i + 2 + n) (bytes_of offset_size offset)) (bytes_length w (length l.rows))
      (stands_rest s (i + 2) count (bytes_of offset_size offset) rest_stands))

  -- The number that says T and the kind, and both read from it.
  marked_is : byte_at s (i + 1) ≡ marked_top l.top l.gaps
  marked_is = stands_byte s i firsts 1 firsts_stand (omega arith)

  top_is : top_of (byte_at s (i + 1)) ≡ l.top
  top_is = ap top_of marked_is ∙ top_back l.top l.gaps h.top_is_lawful

  gaps_is : gaps_of (byte_at s (i + 1)) ≡ l.gaps
  gaps_is = ap gaps_of marked_is ∙ gaps_back l.top l.gaps h.top_is_lawful

  pub entry_is : entry_at s i ≡ entry_of_list l offset
  entry_is = sym (entry_at_is s i (entry_of_list l offset) (sym degree_is) (sym top_is) (sym gaps_is) (sym count_is) (sym offset_is))

  pub behind_is : behind_entry s i ≡ i + entry_size l.degree
  behind_is = rw degree_is

  pub entry_written_form : (last : ℕ) → last < l.degree → Stands s offset (body_bytes l) → offset + length (body_bytes l) ≤ length s
      → entry_form s (entry_at s i) last offset ≡ true
  unfolding body_bytes
  entry_written_form last a b z =
      let m = l.degree in
      let top = l.top in
      let gaps = l.gaps in
      let stand = rows_stand m top gaps h.top_is_lawful.low l.rows h.each s offset b in
      let degree_lawful = (lawful_degree_is m).1 h.degree_is_lawful in
      let top_lawful = (lawful_top_is top).1 h.top_is_lawful in
      rw entry_is
      (entry_rows s (entry_of_list l offset) last offset degree_lawful a top_lawful refl (omega (arith, body_length l h))
      ∙ every_in (length l.rows) (λ (k : ℕ). row_form m top s (offset + k * row_size m top gaps))
      (λ k r. row_written_form m top gaps _ s (offset + k * row_size m top gaps) h.degree_is_lawful h.top_is_lawful (h.each k r) (stand k r)))

-- ---- all entries

-- The lists stand in the file, their entries from place i on, their bodies from `at` on, up to the file's end.
pub record Laid (s : List ℕ) (ls : List Listed) (i at : ℕ) : Type 0 where
  pub contents : Stands s i (contents_bytes ls at)
  pub bodies : Stands s at (bodies_bytes ls)
  pub ends : length s ≡ at + length (bodies_bytes ls)
  pub small : length s < 256 ^ offset_size

module _ (s : List ℕ) (l : Listed) (ls : List Listed) (i at : ℕ) (p : Laid s (l ∷ ls) i at) where
  abbrev next : ℕ
  next = at + length (body_bytes l)

  pub laid_entry : Stands s i (entry_bytes l at)
  unfolding contents_bytes
  laid_entry = stands_first s i (entry_bytes l at) (contents_bytes ls next) p.contents

  pub laid_body : Stands s at (body_bytes l)
  laid_body = stands_first s at (body_bytes l) (bodies_bytes ls) p.bodies

  pub laid_within : next ≤ length s
  laid_within = omega (arith, p.ends, length-append (body_bytes l) (bodies_bytes ls))

  pub laid_rest : Laid s ls (i + entry_size l.degree) next
  unfolding contents_bytes
  laid_rest = record {
    contents =
        subst (λ (n : ℕ). Stands s (i + n) (contents_bytes ls next)) (entry_length l at)
        (stands_rest s i (entry_bytes l at) (contents_bytes ls next) p.contents);
    bodies = stands_rest s at (body_bytes l) (bodies_bytes ls) p.bodies;
    ends = omega (arith, p.ends, length-append (body_bytes l) (bodies_bytes ls));
    small = p.small;
  }

  pub laid_offset : at < 256 ^ offset_size
  laid_offset = omega (arith, p.small, laid_within)

-- What an entry that stands at i is, and where the next one lies.
module _ (s : List ℕ) (l : Listed) (ls : List Listed) (i at : ℕ) (h : LawfulListed l) (p : Laid s (l ∷ ls) i at) where
  pub laid_entry_is : entry_at s i ≡ entry_of_list l at
  laid_entry_is = entry_is s i l at h (laid_offset s l ls i at p) (laid_entry s l ls i at p)

  pub laid_behind : behind_entry s i ≡ i + entry_size l.degree
  laid_behind = behind_is s i l at h (laid_offset s l ls i at p) (laid_entry s l ls i at p)

  laid_size : body_size (entry_at s i) ≡ length (body_bytes l)
  laid_size = ap body_size laid_entry_is ∙ sym (body_length l h)

  laid_form : (last : ℕ) → last < l.degree → entry_form s (entry_at s i) last at ≡ true
  laid_form last a =
      entry_written_form s i l at h (laid_offset s l ls i at p) (laid_entry s l ls i at p) last a (laid_body s l ls i at p)
      (laid_within s l ls i at p)

pub entries_written : (s : List ℕ) {last : ℕ} {ls : List Listed} (i at : ℕ) → LawfulLists last ls → Laid s ls i at
    → entries_form s (length ls) i last at ≡ true
unfolding entries_form
entries_written s i at none p = eq-eqb at (length s) (omega (arith, p.ends))
entries_written s {last} {ls = l ∷ ls} i at (more a h f) p =
    let d : (entry_at s i).degree ≡ l.degree = ap (λ (x : Entry). x.degree) (laid_entry_is s l ls i at h p) in
    rw (laid_form s l ls i at h p last a, laid_size s l ls i at h p, d, laid_behind s l ls i at h p)
    (entries_written s (i + entry_size l.degree) (at + length (body_bytes l)) f (laid_rest s l ls i at p))

pub entries_behind : (s : List ℕ) {last : ℕ} {ls : List Listed} (i at : ℕ) → LawfulLists last ls → Laid s ls i at
    → behind_entries s (length ls) i ≡ behind_lists ls i
unfolding behind_entries behind_lists
entries_behind s i at none p = refl
entries_behind s {ls = l ∷ ls} i at (more a h f) p =
    ap (behind_entries s (length ls)) (laid_behind s l ls i at h p)
    ∙ entries_behind s (i + entry_size l.degree) (at + length (body_bytes l)) f (laid_rest s l ls i at p)

module _ (ls : List Listed) (h : LawfulLists 0 ls) where
  -- Where the bodies begin.
  abbrev start : ℕ
  start = behind_lists ls first_entry

  abbrev contents : List ℕ
  contents = contents_bytes ls start

  pub catalogue_length : length (catalogue_bytes ls) ≡ start + length (bodies_bytes ls)
  unfolding catalogue_bytes
  catalogue_length = omega (arith, length-append contents (bodies_bytes ls), contents_length ls start first_entry)

  -- Every offset fits its bytes.
  catalogue_small : length (catalogue_bytes ls) < 256 ^ offset_size
  catalogue_small = omega (arith, catalogue_length, bodies_most h, lists_few h, behind_lists_most ls first_entry)

  rest_stands_behind : Stands (catalogue_bytes ls) first_entry (contents ++ bodies_bytes ls)
  unfolding catalogue_bytes
  rest_stands_behind = stands_rest (catalogue_bytes ls) 0 (length ls ∷ []) (contents ++ bodies_bytes ls) (stands_whole (catalogue_bytes ls))

  pub catalogue_laid : Laid (catalogue_bytes ls) ls first_entry start
  catalogue_laid = record {
    contents = stands_first (catalogue_bytes ls) first_entry contents (bodies_bytes ls) rest_stands_behind;
    bodies =
        subst (λ (k : ℕ). Stands (catalogue_bytes ls) k (bodies_bytes ls)) (contents_length ls start first_entry)
        (stands_rest (catalogue_bytes ls) first_entry contents (bodies_bytes ls) rest_stands_behind);
    ends = catalogue_length;
    small = catalogue_small;
  }

  pub catalogue_count : byte_at (catalogue_bytes ls) 0 ≡ length ls
  unfolding catalogue_bytes
  catalogue_count = refl

  pub contents_end_lem : contents_end (catalogue_bytes ls) ≡ start
  contents_end_lem = rw catalogue_count (entries_behind (catalogue_bytes ls) first_entry start h catalogue_laid)

  pub catalogue_written : catalogue_form (catalogue_bytes ls) ≡ true
  catalogue_written =
      let s = catalogue_bytes ls in
      let nonempty : 1 ≤ length s = omega (arith, contents_length ls start first_entry, catalogue_length) in
      catalogue_entries s nonempty (omega (arith, catalogue_count, lists_few h)) (omega (arith, contents_end_lem, catalogue_length))
      ∙ rw (contents_end_lem, catalogue_count) (entries_written s first_entry start h catalogue_laid)
