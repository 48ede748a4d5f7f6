-- The next rows, at most so many, in a longer slice: a cursor hands them out into the part of the slice that so many rows fill. Assumes nothing.
use mathlib.Core.Path.{◌≡◌, sym, ap, ◌∙◌}
use mathlib.Core.List.{List, [], ◌∷◌, ◌++◌}
use Prim.Native.Nat.{ℕ, ◌*◌, ◌/◌, ◌≤◌, min}
use native.Mathlib.Nat.{mul-div_cancel, mul-le-mul_right}
use native.Mathlib.Omega.{arith}
use lib.Dec.{leb, ltb}
use lib.ListN.{length, take, drop, length-take, take-append-drop, drop_of_length-le}
use lib.Seq.{take_all, length-take-le}
use borrow.Author.Tests.{leb-true, leb-false, lt-ltb, le-ltb}
use Rattle.definitions.specs.Number.{join, over}
use Rattle.definitions.specs.Ranking.{row_width}
use Rattle.number_laws.specs.Truth.{by_test}
use Rattle.slice_laws.specs.Over.{over_part}
use Rattle.page_laws.specs.Rows.{length_join}
use Rattle.cursor.specs.Left.{left, OnList, Handed}
use Rattle.cursor.specs.declared.reading.Cursor.{Cursor}
use Rattle.cursor.specs.declared.reading.Portion.{Portion}
use Rattle.paged_rows.specs.Printed.{some}
use Rattle.listing_rows.specs.Taken.{HandedWithin, those_wide}

some_any : (l : List (List ℕ)) → ltb 0 (length l) ≡ some l
some_any [] = le-ltb 0 0 (omega arith)
some_any (r ∷ l) = lt-ltb 0 (length (r ∷ l)) (omega arith)

module _ {X : Type 0} (k : ℕ) (l : List X) where
  take_min : take (min k (length l)) l ≡ take k l
  take_min = by_test (leb k (length l))
      (λ t. let e : min k (length l) ≡ k = (let h = leb-true k (length l) t in omega arith) in rw e)
      (λ f. let h = leb-false k (length l) f in
      let e : min k (length l) ≡ length l = omega arith in rw (e, take_all (length l) l (omega arith), take_all k l (omega arith)))

  drop_min : drop (min k (length l)) l ≡ drop k l
  drop_min = by_test (leb k (length l))
      (λ t. let e : min k (length l) ≡ k = (let h = leb-true k (length l) t in omega arith) in rw e)
      (λ f. let h = leb-false k (length l) f in
      let e : min k (length l) ≡ length l = omega arith in
      rw (e, drop_of_length-le l {i = length l} (omega arith), drop_of_length-le l {i = k} (omega arith)))

module _ (c : Cursor) (most : ℕ) (on : OnList c) where
  abbrev w : ℕ
  w = row_width c.list

  abbrev those : List (List ℕ)
  those = take most (left c)

  those_long : length (join those) ≤ most * w
  those_long =
      let few = length-take most (left c) in
      let fit : length those * w ≤ most * w = mul-le-mul_right w (omega arith) in
      omega (arith, length_join w those (those_wide c most on))

  module _ {end : ℕ} {s t u : List ℕ} {r : Portion} (place : end ≡ most * w) (fits : most * w ≤ length s) (h : Handed c (take end s) r t) where
    pub handed_within : u ≡ t ++ drop end s → HandedWithin c most s r u
    handed_within back =
        let long : length (take end s) ≡ most * w = length-take-le end s (omega arith) ∙ place in
        let capacity : length (take end s) / w ≡ most = ap (λ (n : ℕ). n / w) long ∙ mul-div_cancel most {n = w} (omega arith) in
        let count : r.rows ≡ min most (length (left c)) = rw capacity at h.count in
        let rows : take r.rows (left c) ≡ those = ap (λ (n : ℕ). take n (left c)) count ∙ take_min most (left c) in
        let others : drop r.rows (left c) ≡ drop most (left c) = ap (λ (n : ℕ). drop n (left c)) count ∙ drop_min most (left c) in
        let front : t ≡ over 0 (join those) (take end s) = rw rows at h.written in
        record {
          count = count;
          written =
              back
              ∙ rw front (sym (over_part (join those) (take end s) (drop end s) (omega (arith, those_long))))
              ∙ ap (over 0 (join those)) (take-append-drop end s);
          next = rw rows at h.next;
          more = h.more ∙ ap (λ (l : List (List ℕ)). ltb 0 (length l)) (h.behind ∙ others) ∙ some_any (drop most (left c));
        }
