-- A file written list by list: each body behind the one before, and each entry behind the one before. Between two turns, what is left to be written,
-- over what stands in the buffer, is the whole file over what stood there. A turn writes a body and an entry, which lie apart, so that they may be
-- written before all that is left. Assumes nothing.
use Rattle.std.specs.Prelude.{◌≡◌, ℕ, suc, ◌+◌, ◌*◌, ◌^◌, ◌<◌, ◌≤◌, set, drop, get_or}
use Rattle.std.proofs.Math.Path.{sym, ap}
use Rattle.std.proofs.Common.{ap₂, ◌∙◌, arith, length-append, drop_of_length-le, drop-cons}
use mathlib.Core.List.{List, [], ◌∷◌, ◌++◌, map}
use Rattle.std.proofs.Math.ListN.{length, length-set}
use Rattle.std.proofs.lemmas.List.{length-map}
use Rattle.definitions.specs.declared.Selection.{Selection}
use Rattle.definitions.specs.Number.{over}
use Rattle.definitions.specs.Ranking.{ranked}
use Rattle.definitions.specs.Catalogue.{offset_size, entry_size, row_size, first_entry}
use Rattle.definitions.specs.Writing.{Listed, body_bytes, entry_bytes, contents_bytes, behind_lists, catalogue_bytes, ranked_list, ranked_file}
use Rattle.slice_laws.specs.Over.{over_nothing, length_over, over_append, over_before, over_apart, over_next}
use Rattle.number_laws.specs.Bounds.{LawfulDegree, LawfulTop}
use Rattle.catalogue_laws.specs.Files.{bodies_bytes, body_length, body_most, entry_length, contents_length, catalogue_length}
use Rattle.writing_laws.specs.RankedFile.{LawfulEntries, LawfulEntry, no_entry, entry_at_lem, list_lawful, lists_lawful, file_small}

-- ---- what is left

-- The entries of the lists from i on and their bodies from `at` on, over s.
abbrev pub left_over : List Listed → ℕ → ℕ → List ℕ → List ℕ
left_over ls i at s = over i (contents_bytes ls at) (over at (bodies_bytes ls) s)

left_none : (i at : ℕ) (s : List ℕ) → left_over [] i at s ≡ s
unfolding contents_bytes
left_none i at s = over_nothing i (over at [] s) ∙ over_nothing at s

module _ (l : Listed) (ls : List Listed) (i at : ℕ) (s : List ℕ) where
  abbrev entry : List ℕ
  entry = entry_bytes l at

  abbrev body : List ℕ
  body = body_bytes l

  abbrev next : ℕ
  next = at + length body

  -- The first body and the first entry are written, and then all that is left.
  left_turn : i + length entry ≤ at → next + length (bodies_bytes ls) ≤ length s
      → left_over (l ∷ ls) i at s ≡ left_over ls (i + length entry) next (over i entry (over at body s))
  unfolding contents_bytes
  left_turn before room =
      let kept = length_over at body s (omega arith) in
      let behind = length_over next (bodies_bytes ls) (over at body s) (omega arith) in
      ap (over i (entry ++ contents_bytes ls next)) (sym (over_append at body (bodies_bytes ls) s (omega arith)))
      ∙ sym (over_append i entry (contents_bytes ls next) (over next (bodies_bytes ls) (over at body s)) (omega arith))
      ∙ ap (over (i + length entry) (contents_bytes ls next)) (over_apart i next entry (bodies_bytes ls) (over at body s) (omega arith) (omega arith))

-- At the start the count of entries is written.
left_whole : (ls : List Listed) (s : List ℕ) → length (catalogue_bytes ls) ≤ length s
    → left_over ls first_entry (behind_lists ls first_entry) (set s 0 (length ls)) ≡ over 0 (catalogue_bytes ls) s
unfolding catalogue_bytes
left_whole ls s room =
    let start = behind_lists ls first_entry in
    let contents = contents_bytes ls start in
    let e : first_entry + length contents ≡ start = contents_length ls start first_entry in
    let size = length-append contents (bodies_bytes ls) in
    ap (λ (n : ℕ). over first_entry contents (over n (bodies_bytes ls) (set s 0 (length ls)))) (sym e)
    ∙ over_before first_entry contents (bodies_bytes ls) (set s 0 (length ls)) (omega (arith, length-set s 0 (length ls)))
    ∙ over_next 0 (length ls) (contents ++ bodies_bytes ls) s (omega arith)

-- ---- lists

abbrev pub lists : List Selection → List Listed
lists ls = map ranked_list ls

-- ---- sizes, list by list

pub body_size_small : (l : Selection) → LawfulDegree l.degree → LawfulTop l.top → length (ranked l) * row_size l.degree l.top l.gaps < 2 ^ 32
unfolding ranked_list
body_size_small l d t = let h = list_lawful l d t in omega (arith, body_most (ranked_list l) h, body_length (ranked_list l) h)

module _ (ls : List Selection) (k : ℕ) where
  pub bodies_end : length ls ≤ k → length (bodies_bytes (lists (drop k ls))) ≡ 0
  bodies_end h = ap (λ (x : List Selection). length (bodies_bytes (lists x))) (drop_of_length-le ls h)

  pub contents_end_lem : length ls ≤ k → (i : ℕ) → behind_lists (lists (drop k ls)) i ≡ i
  unfolding behind_lists
  contents_end_lem h i = ap (λ (x : List Selection). behind_lists (lists x) i) (drop_of_length-le ls h)

  module _ (h : k < length ls) where
    pub contents_turn : (i : ℕ) → behind_lists (lists (drop k ls)) i ≡ behind_lists (lists (drop (suc k) ls)) (i + entry_size (get_or ls k no_entry).degree)
    unfolding behind_lists ranked_list
    contents_turn i = ap (λ (x : List Selection). behind_lists (lists x) i) (drop-cons ls k no_entry h)

module _ (ls : List Selection) (lawful : LawfulEntries 0 ls) (k : ℕ) (h : k < length ls) where
  abbrev list_at : Selection
  list_at = get_or ls k no_entry

  body_size_lem : length (body_bytes (ranked_list list_at)) ≡ length (ranked list_at) * row_size list_at.degree list_at.top list_at.gaps
  unfolding ranked_list
  body_size_lem = let l = entry_at_lem lawful k h in body_length (ranked_list list_at) (list_lawful list_at l.degree_lawful l.top_lawful)

  pub bodies_turn : length (bodies_bytes (lists (drop k ls)))
      ≡ length (ranked list_at) * row_size list_at.degree list_at.top list_at.gaps + length (bodies_bytes (lists (drop (suc k) ls)))
  bodies_turn =
      ap (λ (x : List Selection). length (bodies_bytes (lists x))) (drop-cons ls k no_entry h)
      ∙ length-append (body_bytes (ranked_list list_at)) (bodies_bytes (lists (drop (suc k) ls)))
      ∙ ap (λ (n : ℕ). n + length (bodies_bytes (lists (drop (suc k) ls)))) body_size_lem

-- ---- the buffer, list by list

-- Between turns: k lists are written, the next entry goes to `place` and the next body to `at`; the buffer, s at first, is t now.
pub record Filing (ls : List Selection) (s : List ℕ) (k place at : ℕ) (t : List ℕ) : Type 0 where
  pub contents : behind_lists (lists (drop k ls)) place ≤ at
  pub bodies : at + length (bodies_bytes (lists (drop k ls))) ≡ length (ranked_file ls)
  pub kept : length t ≡ length s
  pub whole : left_over (lists (drop k ls)) place at t ≡ over 0 (ranked_file ls) s

module _ (ls : List Selection) (lawful : LawfulEntries 0 ls) (s : List ℕ) (room : length (ranked_file ls) ≤ length s) where
  pub filing_start : Filing ls s 0 first_entry (behind_lists (lists ls) first_entry) (set s 0 (length ls))
  unfolding ranked_file
  filing_start = record {
    contents = omega arith;
    bodies = sym (catalogue_length (lists ls) (lists_lawful lawful));
    kept = length-set s 0 (length ls);
    whole =
        ap (λ (n : ℕ). left_over (lists ls) first_entry (behind_lists (lists ls) first_entry) (set s 0 n)) (sym (length-map ls ranked_list))
        ∙ left_whole (lists ls) s room;
  }

  module _ (k place at : ℕ) (t : List ℕ) (f : Filing ls s k place at t) where
    -- No list is left.
    pub filing_end : length ls ≤ k → t ≡ over 0 (ranked_file ls) s
    filing_end h = sym (left_none place at t) ∙ rw (drop_of_length-le ls h) at f.whole

    module _ (h : k < length ls) where
      abbrev l : Selection
      l = get_or ls k no_entry

      abbrev rest : List Listed
      rest = lists (drop (suc k) ls)

      abbrev entry_now : List ℕ
      entry_now = entry_bytes (ranked_list l) at

      abbrev body_now : List ℕ
      body_now = body_bytes (ranked_list l)

      left_is : lists (drop k ls) ≡ ranked_list l ∷ rest
      left_is = ap lists (drop-cons ls k no_entry h)

      pub entry_now_lem : LawfulEntry l
      entry_now_lem = entry_at_lem lawful k h

      size_is : length body_now ≡ length (ranked l) * row_size l.degree l.top l.gaps
      size_is = body_size_lem ls lawful k h

      entry_size_lem : length entry_now ≡ entry_size l.degree
      unfolding ranked_list
      entry_size_lem = entry_length (ranked_list l) at

      bodies_split : length (bodies_bytes (lists (drop k ls))) ≡ length body_now + length (bodies_bytes rest)
      bodies_split = omega (arith, bodies_turn ls lawful k h, size_is)

      contents_split : behind_lists (lists (drop k ls)) place ≡ behind_lists rest (place + entry_size l.degree)
      contents_split = contents_turn ls k h place

      -- The next body ends within the buffer and the next entry before the bodies; the place of the body fits its bytes.
      pub body_fits : at + length (ranked l) * row_size l.degree l.top l.gaps ≤ length t
      body_fits = omega (arith, f.bodies, f.kept, bodies_split, size_is)

      pub entry_before : place + entry_size l.degree ≤ at
      entry_before = omega (arith, f.contents, contents_split, contents_length rest at (place + entry_size l.degree))

      pub place_small : at < 256 ^ offset_size
      place_small = omega (arith, f.bodies, file_small ls lawful)

      body_kept : length (over at body_now t) ≡ length t
      body_kept = length_over at body_now t (omega (arith, body_fits, size_is))

      pub filing_turn : Filing ls s (suc k) (place + entry_size l.degree) (at + length (ranked l) * row_size l.degree l.top l.gaps)
          (over place entry_now (over at body_now t))
      filing_turn = record {
        contents = omega (arith, f.contents, contents_split);
        bodies = omega (arith, f.bodies, bodies_split, size_is);
        kept = length_over place entry_now (over at body_now t) (omega (arith, body_kept, body_fits, entry_before, entry_size_lem)) ∙ body_kept ∙ f.kept;
        whole = step;
      }
        where
          step : left_over rest (place + entry_size l.degree) (at + length (ranked l) * row_size l.degree l.top l.gaps)
              (over place entry_now (over at body_now t))
              ≡ over 0 (ranked_file ls) s
          step =
              ap₂ (λ (i n : ℕ). left_over rest i n (over place entry_now (over at body_now t)))
              (ap (◌+◌ place) (sym entry_size_lem)) (ap (◌+◌ at) (sym size_is))
              ∙ sym (left_turn (ranked_list l) rest place at t (omega (arith, entry_before, entry_size_lem)) (omega (arith, f.bodies, f.kept, bodies_split)))
              ∙ rw left_is at f.whole
