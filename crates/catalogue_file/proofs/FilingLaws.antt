-- The turns of `write_file` over the entries that are read: what a list's writer asks, and the buffer that it leaves. From `writing_laws/Turns`.
-- Assumes nothing.
use mathlib.Core.Path.{◌≡◌, sym, ap, ◌∙◌, subst}
use mathlib.Core.List.{List, [], ◌∷◌, map}
use Prim.Native.Nat.{ℕ, suc, ◌+◌, ◌*◌, ◌^◌, ◌<◌, ◌≤◌}
use native.Mathlib.Omega.{arith}
use lib.ListN.{length, set, get_or, length-set, length-map}
use Rattle.definitions.specs.declared.Selection.{Selection}
use Rattle.definitions.specs.Number.{over}
use Rattle.definitions.specs.Ranking.{row_width, longest_row, ranked}
use Rattle.definitions.specs.Catalogue.{offset_size, entry_size, row_size, first_entry, most_entries}
use Rattle.definitions.specs.Writing.{body_bytes, entry_bytes, behind_lists, catalogue_bytes, ranked_list, ranked_file}
use Rattle.slice_laws.specs.Over.{over_one, over_again}
use Rattle.catalogue_laws.specs.Sizes.{count_most}
use Rattle.catalogue_laws.specs.Files.{lists_few}
use Rattle.writing_laws.specs.Few.{ranked_count_fits}
use Rattle.writing_laws.specs.RankedFile.{LawfulEntries, no_entry, lists_lawful}
use Rattle.writing_laws.specs.Turns.{Filing, filing_start, filing_turn, entry_now_lem, body_fits, entry_before, place_small}
use Rattle.search.specs.Frame.{LawfulList, width_most}

-- ---- one list

-- A count of rows fits a machine word of 32 digits.
pub rows_small : (l : Selection) → LawfulList l → length (ranked l) < 2 ^ 32
rows_small l h = omega (arith, ranked_count_fits l h.degree, count_most l.degree)

-- What writing a list asks, its entry at `place`, its body at `at`, in the buffer t: a lawful list, with a row of which none is longer than the longest,
-- the entry before the body, a place that fits its bytes, and a body that ends within the buffer.
pub record ListAsks (x : Selection) (place at : ℕ) (t : List ℕ) : Type 0 where
  pub lawful : LawfulList x
  pub short : row_width x ≤ longest_row
  pub before : place + entry_size x.degree ≤ at
  pub small : at < 256 ^ offset_size
  pub fits : at + length (ranked x) * row_size x.degree x.top x.gaps ≤ length t

-- ---- all lists

module _ (ls : List Selection) (lawful : LawfulEntries 0 ls) where
  pub entries_few : length ls ≤ most_entries
  entries_few = omega (arith, lists_few (lists_lawful lawful), length-map ls ranked_list)

  pub file_some : 1 ≤ length (ranked_file ls)
  unfolding ranked_file catalogue_bytes
  file_some = omega arith

  -- ---- the first byte, the count of entries

  module _ (s : List ℕ) (n : ℕ) (room : length (ranked_file ls) ≤ length s) where
    first_room : 0 < length s
    first_room = omega (arith, file_some)

    pub room_kept : length (ranked_file ls) ≤ length (set s 0 n)
    room_kept = omega (arith, length-set s 0 n)

    counted_again : set (set s 0 n) 0 n ≡ set s 0 n
    counted_again =
        over_one 0 n (set s 0 n) (omega (arith, length-set s 0 n, first_room))
        ∙ ap (over 0 (n ∷ [])) (over_one 0 n s first_room)
        ∙ over_again (n ∷ []) (n ∷ []) s (omega arith)
        ∙ sym (over_one 0 n s first_room)

    pub filing_begun : {at : ℕ} → n ≡ length ls → at ≡ behind_lists (map ranked_list ls) first_entry → Filing ls (set s 0 n) 0 first_entry at (set s 0 n)
    filing_begun e f =
        rw f (subst (Filing ls (set s 0 n) 0 first_entry (behind_lists (map ranked_list ls) first_entry))
        (ap (set (set s 0 n) 0) (sym e) ∙ counted_again) (filing_start ls lawful (set s 0 n) room_kept))

    -- It is written again with the file.
    pub filing_ended : {t : List ℕ} → t ≡ over 0 (ranked_file ls) (set s 0 n) → t ≡ over 0 (ranked_file ls) s
    filing_ended e = e ∙ ap (over 0 (ranked_file ls)) (over_one 0 n s first_room) ∙ over_again (n ∷ []) (ranked_file ls) s (omega (arith, file_some))

  -- ---- a list

  module _ (s : List ℕ) (room : length (ranked_file ls) ≤ length s) where
    module _ (k place at : ℕ) (t : List ℕ) (f : Filing ls s k place at t) (inside : k < length ls) (x : Selection) (read : x ≡ get_or ls k no_entry) where
      pub list_asks : ListAsks x place at t
      list_asks =
          let l = entry_now_lem ls lawful s room k place at t f inside in
          let list : LawfulList (get_or ls k no_entry) = record { degree = l.degree_lawful; top = l.top_lawful } in
          rw read (record {
            lawful = list;
            short = width_most list;
            before = entry_before ls lawful s room k place at t f inside;
            small = place_small ls lawful s room k place at t f inside;
            fits = body_fits ls lawful s room k place at t f inside;
          })

      -- The list is written.
      pub filing_next : {n at' : ℕ} {t' : List ℕ} → n ≡ entry_size x.degree → at' ≡ at + length (ranked x) * row_size x.degree x.top x.gaps
          → t' ≡ over place (entry_bytes (ranked_list x) at) (over at (body_bytes (ranked_list x)) t) → Filing ls s (k + 1) (place + n) at' t'
      filing_next a b c =
          let next : k + 1 ≡ suc k = omega arith in
          rw (next, a, b, c, read) (filing_turn ls lawful s room k place at t f inside)
