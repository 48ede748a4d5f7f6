-- Rows written over a buffer. A row: its three numbers, each behind the one before, then the numbers that rank it; it is read from a flat slice, where
-- it begins at `from`. Many rows: one is written, and those behind it are left. Assumes nothing.
use mathlib.Core.Path.{◌≡◌, refl, sym, ap, ◌∙◌, subst}
use mathlib.Core.Bool.{Bool}
use mathlib.Core.List.{List, [], ◌++◌, map}
use Prim.Native.Nat.{ℕ, suc, ◌+◌, ◌-◌, ◌*◌, ◌^◌, ◌≤◌, ◌<◌}
use native.Mathlib.Nat.{add-mul, suc-mul, mul-le-mul_right}
use native.Mathlib.Numerals.{add-one}
use native.Mathlib.Omega.{arith}
use lib.ListN.{length-drop, length, take, drop, get_or, length-append, drop_of_length-le}
use lib.Seq.{take_all, drop-cons, get_or-drop}
use Rattle.definitions.specs.Number.{bit, join, over}
use Rattle.definitions.specs.Ranking.{least_top, ranks_from}
use Rattle.definitions.specs.Catalogue.{number_size, row_size}
use Rattle.definitions.specs.Writing.{bytes_of, row_bytes}
use Rattle.number_laws.specs.Bounds.{LawfulDegree, LawfulTop}
use Rattle.slice_laws.specs.Over.{length_over, over_nothing, over_append, over_then}
use Rattle.page_laws.specs.Rows.{rows_of, length_rows, row_at_lem}
use Rattle.catalogue_laws.specs.Sizes.{row_size_is}
use Rattle.catalogue_laws.specs.Bytes.{bytes_length}
use Rattle.catalogue_laws.specs.Written.{LawfulRow, LawfulRows, row_length}
use Rattle.catalogue_laws.specs.Written as written

-- ---- one row

module _ (m top : ℕ) (gaps : Bool) (row : List ℕ) (tall : LawfulTop top) (lawful : LawfulRow m top gaps row) where
  -- The numbers that rank the row, as the code has them; each fits a byte.
  abbrev ranks : List ℕ
  ranks = take (length row - ranks_from) (drop ranks_from row)

  ranks_are : ranks ≡ drop ranks_from row
  ranks_are = take_all (length row - ranks_from) (drop ranks_from row) (omega (arith, length-drop ranks_from row))

  pub ranks_length : length ranks ≡ length row - ranks_from
  ranks_length = ap length ranks_are ∙ length-drop ranks_from row

  pub ranks_small : LawfulDegree m → (k : ℕ) → k < length ranks → get_or ranks k 0 < 256
  ranks_small degree k l =
      let small = written.ranks_small m top gaps row degree lawful (ranks_from + k) (omega arith) (omega (arith, ranks_length)) in
      rw (ranks_are, get_or-drop) small

  -- The parts of the row as the code has them.
  module _ {w lead : ℕ} (sized : w ≡ number_size m) (lead_is : lead ≡ 2 ^ m) where
    abbrev low : List ℕ
    low = bytes_of w (get_or row 0 0 - lead)

    abbrev second : List ℕ
    second = bytes_of w (get_or row 1 0)

    abbrev third : List ℕ
    third = bytes_of w (get_or row 2 0)

    parts_are : low ++ second ++ third ++ ranks ≡ row_bytes m row
    unfolding row_bytes
    parts_are = rw (sized, lead_is, ranks_are)

    pub row_written : (at : ℕ) (file : List ℕ) {one two three exit : List ℕ} → at + row_size m top gaps ≤ length file → one ≡ over at low file
        → two ≡ over (at + w) second one → three ≡ over (at + 2 * w) third two → exit ≡ over (at + 3 * w) ranks three
        → exit ≡ over at (row_bytes m row) file
    row_written at file room e f g h =
        let size = row_size_is m top gaps in
        let low-long = bytes_length w (get_or row 0 0 - lead) in
        let second-long = bytes_length w (get_or row 1 0) in
        let third-long = bytes_length w (get_or row 2 0) in
        let values-long = ranks_length in
        let width = lawful.width in
        let two-long = length-append low second in
        let three-long = length-append (low ++ second) third in
        let two-are = (over_then at low second file (omega arith) (omega arith) e refl f).1 in
        let three-are = (over_then at (low ++ second) third file (omega arith) (omega arith) two-are refl g).1 in
        let all_are = (over_then at (low ++ second ++ third) ranks file (omega arith) (omega arith) three-are refl h).1 in
        all_are ∙ ap (λ (v : List ℕ). over at v file) parts_are

-- ---- many rows

module _ (m top : ℕ) (gaps : Bool) (at count : ℕ) (slice file₀ : List ℕ) where
  abbrev rows : List (List ℕ)
  rows = rows_of (suc top + bit gaps) count slice

  -- The bytes of the rows from row k on.
  abbrev bytes_from : ℕ → List ℕ
  bytes_from k = join (map (row_bytes m) (drop k rows))

  -- Before row k: the rows that are left, over what stands now, are all rows over what stood at first.
  pub record RowsLeft (file : List ℕ) (k : ℕ) : Type 0 where
    pub few : k ≤ count
    pub kept : length file ≡ length file₀
    pub whole : over (at + k * row_size m top gaps) (bytes_from k) file ≡ over at (bytes_from 0) file₀

  -- A turn of the loop, with the code's size and width of a row: row k is lawful, and what its bytes make.
  pub record Turn (file : List ℕ) (k size width : ℕ) : Type 0 where
    pub lawful : LawfulRow m top gaps (take ((k + 1) * width - k * width) (drop (k * width) slice))
    pub next : {exit : List ℕ} → exit ≡ over (at + k * size) (row_bytes m (take ((k + 1) * width - k * width) (drop (k * width) slice))) file → RowsLeft exit (k + 1)

  pub rows_end : {file : List ℕ} {k : ℕ} → RowsLeft file k → count ≤ k → file ≡ over at (bytes_from 0) file₀
  rows_end {file} {k} h l =
      let none : drop k rows ≡ [] = drop_of_length-le rows {i = k} (omega (arith, length_rows (suc top + bit gaps) count slice)) in
      sym (over_nothing (at + k * row_size m top gaps) file) ∙ rw none at h.whole

  module _ (tall : least_top ≤ top) (lawful : LawfulRows m top gaps rows) (room : at + count * row_size m top gaps ≤ length file₀) (k : ℕ) (l : k < count) where
    abbrev row_k : List ℕ
    row_k = take (suc top + bit gaps) (drop (k * (suc top + bit gaps)) slice)

    row_lawful : LawfulRow m top gaps row_k
    row_lawful =
        subst (LawfulRow m top gaps) (row_at_lem (suc top + bit gaps) count k slice l)
        (lawful k (omega (arith, length_rows (suc top + bit gaps) count slice)))

    bytes_first : bytes_from k ≡ row_bytes m row_k ++ bytes_from (suc k)
    bytes_first = rw (drop-cons rows k [] (omega (arith, length_rows (suc top + bit gaps) count slice)), row_at_lem (suc top + bit gaps) count k slice l)

    module _ {file : List ℕ} (h : RowsLeft file k) where
      abbrev place : ℕ
      place = at + k * row_size m top gaps

      within_file : place + row_size m top gaps ≤ length file
      within_file = omega (arith, h.kept, mul-le-mul_right {m = suc k} {n = count} (row_size m top gaps) l)

      rows_next : {exit : List ℕ} → exit ≡ over place (row_bytes m row_k) file → RowsLeft exit (k + 1)
      rows_next e =
          let long = row_length m top gaps row_k tall row_lawful in
          let next : at + suc k * row_size m top gaps ≡ place + length (row_bytes m row_k) = omega (arith, suc-mul k (row_size m top gaps)) in
          let inside : place + length (row_bytes m row_k) ≤ length file = omega (arith, within_file) in
          record {
            few = omega arith;
            kept = ap length e ∙ length_over place (row_bytes m row_k) file inside ∙ h.kept;
            whole =
                rw (add-one k, next, e, over_append place (row_bytes m row_k) (bytes_from (suc k)) file inside)
                (ap (λ (v : List ℕ). over place v file) (sym bytes_first) ∙ h.whole);
          }

      pub rows_turn : {size width : ℕ} → size ≡ row_size m top gaps → width ≡ suc top + bit gaps → Turn file k size width
      rows_turn sized wide =
          let one : (k + 1) * (suc top + bit gaps) - k * (suc top + bit gaps) ≡ suc top + bit gaps = omega (arith, add-mul k 1 (suc top + bit gaps)) in
          rw (sized, wide) (record { lawful = rw one row_lawful; next = λ e. rows_next (rw one at e) })
