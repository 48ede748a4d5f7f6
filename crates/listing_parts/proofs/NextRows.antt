-- The next rows as a part: by whether a row is left, and whether one is left over. Assumes nothing.
use mathlib.Core.Path.{◌≡◌, refl, sym, ap, ap₂, ◌∙◌}
use mathlib.Core.Bool.{true, false, false≢true}
use mathlib.Core.List.{List, [], ◌∷◌, append-nil}
use Prim.Native.Nat.{ℕ, ◌+◌, ◌*◌, ◌/◌, ◌≤◌, min}
use native.Mathlib.Nat.{add-zero, mul-le-mul_right, div-mul-le_self}
use native.Mathlib.Omega.{arith}
use lib.ListN.{length, take, drop, length-take, take-append-drop}
use lib.Seq.{take-nil, drop-nil}
use Rattle.definitions.specs.Number.{join, over}
use Rattle.definitions.specs.Ranking.{row_width}
use Rattle.definitions.specs.Listing.{page_text}
use Rattle.slice_laws.specs.Place.{placed, behind}
use Rattle.slice_laws.proofs.Placing.{put_front}
use Rattle.page_laws.specs.Rows.{rows_of}
use Rattle.cursor.specs.Left.{left, passed}
use Rattle.cursor.specs.declared.reading.Cursor.{Cursor}
use Rattle.cursor.specs.declared.reading.Portion.{Portion}
use Rattle.paged_rows.specs.Printed.{some, rows_text}
use Rattle.paged_rows.specs.Room.{step_room, empty_page}
use Rattle.listing_start.specs.Left.{OnWay}
use Rattle.listing_start.specs.declared.Printing.{Printing}
use Rattle.listing_start.specs.declared.Printing.TheVariants.{Rows, Total}
use Rattle.listing_parts.specs.Parts.{rows_part, part_rows, part_text, behind_rows, behind_part, next_part}
use Rattle.listing_parts.specs.declared.parts.Part.{Part}
use Rattle.listing_parts.proofs.Front.{part_is}
use Rattle.listing_rows.specs.Taken.{HandedWithin, within_back}

-- As many rows as fit both slices fit each.
pub fits_numbers : (n w b : ℕ) → min (n / w) b * w ≤ n
fits_numbers n w b = let less : min (n / w) b * w ≤ n / w * w = mul-le-mul_right w (omega arith) in omega (arith, div-mul-le_self n w)

pub fits_bytes : (a n w : ℕ) → min a (n / w) * w ≤ n
fits_bytes a n w = let less : min a (n / w) * w ≤ n / w * w = mul-le-mul_right w (omega arith) in omega (arith, div-mul-le_self n w)

module _ (c : Cursor) (size done k : ℕ) where
  abbrev pub at : Printing
  at = Rows c size done

  -- ---- no row is left

  module _ (none : left c ≡ []) where
    none_rows : part_rows k at ≡ []
    none_rows = rw none (take-nil {A = List ℕ} k)

    none_text : page_text 1 0 false ≡ part_text k at
    none_text = rw none

    none_behind : Total done ≡ behind_part k at
    none_behind =
        let gone : drop k (left c) ≡ [] = rw none (drop-nil {A = List ℕ} k) in
        rw (gone, none) (ap Total (sym (add-zero done)))

  -- ---- some rows are left

  some_text : 1 ≤ length (left c) → part_text k at ≡ rows_text size done (some (drop k (left c))) (take k (left c))
  some_text h = go (left c) h
    where
      go : (l : List (List ℕ)) → 1 ≤ length l → rows_part k size done l ≡ rows_text size done (some (drop k l)) (take k l)
      go [] h = absurd (omega arith)
      go (r ∷ l) h = refl

  more_behind : some (drop k (left c)) ≡ true → Rows (passed c (take k (left c))) size (done + length (take k (left c))) ≡ behind_part k at
  more_behind h = go (drop k (left c)) h
    where
      go : (l : List (List ℕ)) → some l ≡ true → Rows (passed c (take k (left c))) size (done + length (take k (left c))) ≡ behind_rows k c size done l
      go [] h = absurd (false≢true h)
      go (r ∷ l) h = refl

  end_behind : some (drop k (left c)) ≡ false → Total (done + length (take k (left c))) ≡ behind_part k at
  end_behind h = go (drop k (left c)) refl h
    where
      go : (l : List (List ℕ)) → drop k (left c) ≡ l → some l ≡ false → Total (done + length (take k (left c))) ≡ behind_rows k c size done l
      go [] e h =
          let all : take k (left c) ≡ left c = sym (append-nil (take k (left c))) ∙ rw e at (take-append-drop k (left c)) in
          ap (λ (l : List (List ℕ)). Total (done + length l)) all
      go (r ∷ l) e h = absurd (false≢true (sym h))

  -- ---- what was handed out

  module _ {s t : List ℕ} {r : Portion} (h : HandedWithin c k s r t) where
    pub few_handed : r.rows ≤ length (left c)
    few_handed = omega (arith, h.count)

    -- The call's answer, and the two slices, from what is put into the text.
    module _ (fits : 1 ≤ k) (on : OnWay c size done) (text : List ℕ) {b : ℕ} {exit : List ℕ} where
      pub next_none : r.rows ≡ 0 → step_room ≤ length text → b ≡ behind 0 (page_text 1 0 false) text → exit ≡ placed 0 (page_text 1 0 false) text
          → (◌≡◌ {A = Part} (record { bytes = b; more = true; next = Total done }) (next_part k at))
          × ((t ≡ over 0 (join (part_rows k at)) s) × (exit ≡ over 0 (part_text k at) text))
      next_none z room e f =
          let none : left c ≡ [] = nothing (left c) (omega (arith, h.count)) in
          let put = put_front (page_text 1 0 false) text (omega (arith, empty_page.1)) e f in (
            part_is k at (put.0 ∙ ap length (none_text none)) (none_behind none),
            (h.written, put.1 ∙ ap (λ (l : List ℕ). over 0 l text) (none_text none)),
          )
        where
          nothing : (l : List (List ℕ)) → length l ≡ 0 → l ≡ []
          nothing [] z = refl
          nothing (x ∷ l) z = absurd (omega arith)

      module _ (any : r.rows ≡ 0 → ⊥) (bytes : b ≡ length (rows_text size done r.more (rows_of (row_width c.list) r.rows t)))
          (put : exit ≡ over 0 (rows_text size done r.more (rows_of (row_width c.list) r.rows t)) text) where
        text_is : rows_text size done r.more (rows_of (row_width c.list) r.rows t) ≡ part_text k at
        text_is =
            ap₂ (rows_text size done) h.more (within_back c k on.on_list h)
            ∙ sym (some_text (let n : ¬ (r.rows ≡ 0) = any in omega (arith, h.count)))

        rows_count : r.rows ≡ length (take k (left c))
        rows_count = h.count ∙ sym (length-take k (left c))

        pub next_more : r.more ≡ true
            → (◌≡◌ {A = Part} (record { bytes = b; more = true; next = Rows r.next size (done + r.rows) }) (next_part k at))
            × ((t ≡ over 0 (join (part_rows k at)) s) × (exit ≡ over 0 (part_text k at) text))
        next_more m =
            let next : Rows r.next size (done + r.rows) ≡ behind_part k at =
            ap₂ (λ (d : Cursor) (n : ℕ). Rows d size (done + n)) h.next rows_count ∙ more_behind (sym h.more ∙ m) in
            (part_is k at (bytes ∙ ap length text_is) next, (h.written, put ∙ ap (λ (l : List ℕ). over 0 l text) text_is))

        pub next_end : r.more ≡ false
            → (◌≡◌ {A = Part} (record { bytes = b; more = true; next = Total (done + r.rows) }) (next_part k at))
            × ((t ≡ over 0 (join (part_rows k at)) s) × (exit ≡ over 0 (part_text k at) text))
        next_end m =
            let next : Total (done + r.rows) ≡ behind_part k at =
            ap (λ (n : ℕ). Total (done + n)) rows_count ∙ end_behind (sym h.more ∙ m) in
            (part_is k at (bytes ∙ ap length text_is) next, (h.written, put ∙ ap (λ (l : List ℕ). over 0 l text) text_is))
