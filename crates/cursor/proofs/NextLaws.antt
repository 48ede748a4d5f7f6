-- What a slice filled from a cursor's position on says of the rows that are left: the rows in it are the next ones, the position after the last of
-- them leaves the others, and a further row exists exactly where any are left. Assumes nothing.
use mathlib.Core.Path.{◌≡◌, refl, sym, ap, ap₂, ◌∙◌}
use mathlib.Core.Bool.{false}
use mathlib.Core.List.{List, [], ◌∷◌}
use Prim.Native.Nat.{ℕ, zero, suc, ◌+◌, ◌-◌, ◌*◌, ◌/◌, ◌<◌, ◌≤◌, min}
use native.Mathlib.Nat.{le-div_iff_mul-le, div-mul-le_self, mul-le-mul_right, add-zero}
use native.Mathlib.Omega.{arith}
use lib.Dec.{ltb}
use lib.ListN.{length, take, drop, get_or, length-take, length-drop}
use lib.Seq.{length-take-le}
use borrow.Author.Tests.{lt-ltb, le-ltb, ltb-true}
use Rattle.definitions.specs.Number.{join, over}
use Rattle.definitions.specs.Pages.{Cut, page, more}
use Rattle.definitions.specs.Ranking.{row_width, cut_of}
use Rattle.definitions.specs.declared.Position.{Position}
use Rattle.definitions.specs.declared.Position.TheVariants.{After}
use Rattle.number_laws.specs.Truth.{truth_equal}
use Rattle.slice_laws.specs.Over.{length_over}
use Rattle.page_laws.specs.Members.{take_within}
use Rattle.page_laws.specs.Rows.{rows_of, Wide, length_join, rows_back}
use Rattle.ranking_laws.specs.Met.{width_is}
use Rattle.ranking_laws.specs.Reading.{after_last, last_row, last_number, page_by, page_wide}
use Rattle.page_rows.specs.Serve.{Filled, fitting}
use Rattle.definitions.specs.declared.Page.{Page}
use Rattle.cursor.specs.Left.{left, passed, OnList, Handed}
use Rattle.cursor.specs.Passed.{rule_at, page_by_lem, passed_some, passed_left, passed_on}
use Rattle.cursor.specs.Turns.{left_wide}
use Rattle.cursor.specs.declared.reading.Cursor.{Cursor}

-- The first k of a list, and the others, by how many there are.
module _ {X : Type 0} where
  take_own : (k : ℕ) (l : List X) → take (length (take k l)) l ≡ take k l
  take_own zero l = refl
  take_own (suc k) [] = refl
  take_own (suc k) (x ∷ l) = ap (◌∷◌ x) (take_own k l)

-- More than fit are those that are left over.
more_left : (cap n : ℕ) → ltb cap n ≡ ltb 0 (n - min cap n)
more_left cap n =
    truth_equal (ltb cap n) (ltb 0 (n - min cap n))
    (λ t. lt-ltb 0 (n - min cap n) (omega (arith, ltb-true cap n t)), λ t. lt-ltb cap n (omega (arith, ltb-true 0 (n - min cap n) t)))

abbrev cut_at : Cursor → Cut
cut_at c = cut_of c.list c.position

abbrev width_at : Cursor → ℕ
width_at c = row_width c.list

module _ (c : Cursor) {s t : List ℕ} {x : Page} (on : OnList c) (room : width_at c ≤ length s) (f : Filled c.list (cut_at c) s x t) where
  abbrev cap : ℕ
  cap = length s / width_at c

  some_fit : 1 ≤ cap
  some_fit = (le-div_iff_mul-le {k = width_at c} {x = 1} {y = length s} (omega arith)).1 (omega arith)

  -- ---- the rows in the slice are the next ones

  fitting_is : fitting c.list (cut_at c) s ≡ take cap (left c)
  unfolding page left
  fitting_is = refl

  count_is : x.rows ≡ length (take cap (left c))
  count_is = f.count ∙ ap length fitting_is

  count_min : x.rows ≡ min cap (length (left c))
  count_min = count_is ∙ length-take cap (left c)

  next_rows : take x.rows (left c) ≡ take cap (left c)
  next_rows = ap (λ (n : ℕ). take n (left c)) count_is ∙ take_own cap (left c)

  written_next : t ≡ over 0 (join (take x.rows (left c))) s
  written_next = f.written ∙ ap (λ (rows : List (List ℕ)). over 0 (join rows) s) (fitting_is ∙ sym next_rows)

  pub handed_none : x.rows ≡ 0 → Handed c s (record { rows = 0; more = false; next = c }) t
  handed_none z = record {
    count = sym z ∙ count_min;
    written = rw z at written_next;
    next = refl;
    list = refl;
    on_list = on;
    behind = refl;
    more = sym (le-ltb 0 (length (left c)) (omega (arith, count_min, some_fit)));
  }

  -- ---- the position after the last of them

  abbrev last : List ℕ
  last = last_row [] (page_by (rule_at c) c.position cap)

  rows_are : rows_of (width_at c) x.rows t ≡ page_by (rule_at c) c.position cap
  rows_are =
      let rows = page_by (rule_at c) c.position cap in
      let wide : Wide (width_at c) rows = rw (width_is c.list on.lawful.top.low) at (page_wide (rule_at c) c.position cap) in
      let number : x.rows ≡ length rows = count_is ∙ ap length (sym (page_by_lem c cap)) in
      let slice : t ≡ over 0 (join rows) s = f.written ∙ ap (λ (l : List (List ℕ)). over 0 (join l) s) (fitting_is ∙ sym (page_by_lem c cap)) in
      ap₂ (rows_of (width_at c)) number slice ∙ rows_back (width_at c) rows s wide

  length_kept : length t ≡ length s
  length_kept =
      let rows = take x.rows (left c) in
      let number : length rows ≡ x.rows = length-take-le x.rows (left c) (omega (arith, count_min)) in
      let wide : Wide (width_at c) rows = λ r i. left_wide c on r (take_within x.rows (left c) r i) in
      let most = mul-le-mul_right {m = x.rows} {n = cap} (width_at c) (omega (arith, count_min)) in
      let size : length (join rows) ≡ x.rows * width_at c = length_join (width_at c) rows wide ∙ ap (λ (n : ℕ). n * width_at c) number in
      ap length written_next ∙ length_over 0 (join rows) s (omega (arith, div-mul-le_self (length s) (width_at c)))

  module _ (any : 1 ≤ x.rows) where
    some_row : 1 ≤ length (page_by (rule_at c) c.position cap)
    some_row = rw page_by_lem (omega (arith, count_is))

    number_is : (i : ℕ) → i < width_at c → get_or t ((x.rows - 1) * width_at c + i) 0 ≡ get_or last i 0
    number_is i h = sym (last_number (width_at c) x.rows i t any h) ∙ ap (λ (rows : List (List ℕ)). get_or (last_row [] rows) i 0) rows_are

    -- The last row stands in the slice.
    pub last_inside : (k : ℕ) → k ≡ (x.rows - 1) * width_at c → k + 1 < length t
    last_inside k place =
        let wide = on.lawful.top.low in
        let rows_fit = mul-le-mul_right {m = suc (x.rows - 1)} {n = cap} (width_at c) (omega (arith, count_min)) in
        let cap-fits = div-mul-le_self (length s) (width_at c) in
        omega (arith, length_kept)

    module _ {k : ℕ} {at : Position} (place : k ≡ (x.rows - 1) * width_at c) (read : at ≡ After (get_or t k 0) (get_or t (k + 1) 0)) where
      abbrev behind : Cursor
      behind = record { list = c.list; position = at }

      position_is : at ≡ after_last (page_by (rule_at c) c.position cap)
      position_is =
          let wide = on.lawful.top.low in
          let first = ap (λ (i : ℕ). get_or t i 0) place ∙ rw add-zero at (number_is 0 (omega arith)) in
          let second = ap (λ (i : ℕ). get_or t (i + 1) 0) place ∙ number_is 1 (omega arith) in
          read ∙ ap₂ After first second

      next_is : behind ≡ passed c (take x.rows (left c))
      next_is =
          let those : take x.rows (left c) ≡ page_by (rule_at c) c.position cap = next_rows ∙ sym (page_by_lem c cap) in
          ap (λ (p : Position). record { list = c.list; position = p }) position_is
          ∙ sym (rw those (passed_some c (page_by (rule_at c) c.position cap) some_row))

      left_behind : left behind ≡ drop x.rows (left c)
      left_behind = ap left next_is ∙ passed_left c x.rows

      further_left : x.further ≡ ltb 0 (length (left behind))
      unfolding more left
      further_left =
          f.further
          ∙ more_left cap (length (left c))
          ∙ ap (λ (n : ℕ). ltb 0 (length (left c) - n)) (sym count_min)
          ∙ ap (ltb 0) (sym (ap length left_behind ∙ length-drop x.rows (left c)))

      pub handed_some : Handed c s (record { rows = x.rows; more = x.further; next = behind }) t
      handed_some = record {
        count = count_min;
        written = written_next;
        next = next_is;
        list = refl;
        on_list = rw next_is (passed_on c x.rows on);
        behind = left_behind;
        more = further_left;
      }
