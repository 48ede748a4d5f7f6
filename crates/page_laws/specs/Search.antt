-- THE SEARCH: rows are offered one after the other; one that stands above the cut is counted, and put in its slot among those kept at the
-- front of a lent list, from which what does not fit falls off. Since the first of an insertion come from the first alone, what stands there
-- is at each time the page of the rows offered so far, sorted; and the rows kept are always in order. Assumes nothing.
use Rattle.std.specs.Prelude.{◌≡◌, true, false, cond, ℕ, ◌+◌, ◌*◌, ◌≤◌}
use Rattle.std.proofs.Math.Path.{refl, ap}
use Rattle.std.proofs.Common.{◌∙◌, mul-le-mul_right, arith}
use mathlib.Core.List.Memᴰ
use mathlib.Core.List.{List, [], ◌∷◌, ◌++◌, Memᴰ}
use Rattle.std.proofs.Math.Nat.{le_trans}
use Rattle.std.proofs.Math.ListN.{length, take, length-take}
use Rattle.std.proofs.Math.Seq.{take-nil}
use Rattle.definitions.specs.Number.{keep, join, over}
use Rattle.definitions.specs.Pages.{Cut, above, rest, page, insert, insert_all, sort}
use Rattle.number_laws.specs.Truth.{by_test}
use Rattle.slice_laws.specs.Over.{over_nothing, over_again, length_over}
use Rattle.page_laws.specs.Members.{each_more, take_within, page_out}
use Rattle.page_laws.specs.Insertion.{insert_put, put_length, put_out, take_insert, rest_insert, rest_insert_none}
use Rattle.page_laws.specs.Slot.{Ordered, ordered_insert, ordered_take}
use Rattle.page_laws.specs.Rows.{rows_of, Wide, Kept, inserted, rows_back, length_join, rows_wide}

-- A lent list, the number of rows kept at its front, and the number of rows counted.
pub record Search : Type 0 where
  pub out : List ℕ
  pub n : ℕ
  pub count : ℕ

abbrev pub counted : ℕ → Kept → Search
counted c k = record { out = k.out; n = k.n; count = c }

module _ (key : List ℕ → List ℕ) (w cap : ℕ) (at : Cut) where
  -- A row above the cut is counted and put in its slot; another is passed over.
  unfoldable pub offered : List ℕ → Search → Search
  offered r s = cond (above at (key r)) (counted (s.count + 1) (inserted key w cap r (record { out = s.out; n = s.n }))) s

  unfoldable pub offer_all : List (List ℕ) → Search → Search
  unfolding offered
  offer_all [] s = s
  offer_all (r ∷ rs) s = offer_all rs (offered r s)

  -- What a search has found when all of l was offered: the page of l, written over s, and the number of rows above the cut.
  unfoldable pub found : List ℕ → List (List ℕ) → Search
  found s l = record { out = over 0 (join (page key at cap l)) s; n = length (page key at cap l); count = length (rest key at l) }

  -- At most cap rows are kept, there is room for so many, and they are in order and above the cut.
  pub record Good (s : Search) : Type 0 where
    pub few : s.n ≤ cap
    pub room : cap * w ≤ length s.out
    pub order : Ordered key (rows_of w s.n s.out)
    pub high : (x : List ℕ) → Memᴰ x (rows_of w s.n s.out) → above at (key x) ≡ true

pub wide_page : (key : List ℕ → List ℕ) (w : ℕ) (at : Cut) (k : ℕ) (rows : List (List ℕ)) → Wide w rows → Wide w (page key at k rows)
wide_page key w at k rows wide r i = wide r (page_out key at k rows i).0

module _ (key : List ℕ → List ℕ) (w cap : ℕ) (at : Cut) where
  -- ---- rows offered

  pub offered_kept : (r : List ℕ) (s : Search) → above at (key r) ≡ true
      → offered key w cap at r s ≡ counted (s.count + 1) (inserted key w cap r (record { out = s.out; n = s.n }))
  unfolding offered
  offered_kept r s t = rw t

  pub offered_left : (r : List ℕ) (s : Search) → above at (key r) ≡ false → offered key w cap at r s ≡ s
  unfolding offered
  offered_left r s f = rw f

  pub offer_none : (s : Search) → offer_all key w cap at [] s ≡ s
  unfolding offer_all
  offer_none s = refl

  pub offer_one : (r : List ℕ) (s : Search) → offer_all key w cap at (r ∷ []) s ≡ offered key w cap at r s
  unfolding offer_all
  offer_one r s = refl

  pub offer_append : (a b : List (List ℕ)) (s : Search) → offer_all key w cap at (a ++ b) s ≡ offer_all key w cap at b (offer_all key w cap at a s)
  unfolding offer_all
  offer_append [] b s = refl
  offer_append (r ∷ a) b s = offer_append a b (offered key w cap at r s)

  -- ---- a search stays good, and counts no more rows than are offered

  pub start_good : (s : List ℕ) → cap * w ≤ length s → Good key w cap at (record { out = s; n = 0; count = 0 })
  unfolding rows_of Ordered
  start_good s h = record { few = omega arith; room = h; order = tt; high = λ x i. absurd (Memᴰ.not-nil i) }

  inserted_good : (r : List ℕ) (s : Search) (c : ℕ) → length r ≡ w → above at (key r) ≡ true → Good key w cap at s
      → Good key w cap at (counted c (inserted key w cap r (record { out = s.out; n = s.n })))
  unfolding inserted
  inserted_good r s c e t g =
      let rows = rows_of w s.n s.out in
      let all = insert key r rows in
      let from : (x : List ℕ) → Memᴰ x (take cap all) → Memᴰ x (r ∷ rows) = λ x i. put_out (insert_put key r rows) x (take_within cap all x i) in
      let old : Wide w rows = rows_wide w s.n s.out (le_trans (mul-le-mul_right w g.few) g.room) in
      let wide : Wide w (take cap all) = λ x i. each_more (λ (y : List ℕ). length y ≡ w) e old x (from x i) in
      let few : length (take cap all) ≤ cap = omega (arith, length-take cap all) in
      let back = rows_back w (take cap all) s.out wide in
      let fits : 0 + length (join (take cap all)) ≤ length s.out =
      omega (arith, length_join w (take cap all) wide, le_trans (mul-le-mul_right w few) g.room) in
      record {
        few = few;
        room = omega (arith, length_over 0 (join (take cap all)) s.out fits, g.room);
        order = rw back (ordered_take key cap all (ordered_insert key r rows g.order));
        high = rw back (λ x i. each_more (λ (y : List ℕ). above at (key y) ≡ true) t g.high x (from x i));
      }

  offered_good : (r : List ℕ) (s : Search) → length r ≡ w → Good key w cap at s
      → Good key w cap at (offered key w cap at r s) × ((offered key w cap at r s).count ≤ s.count + 1)
  unfolding offered
  offered_good r s e g = by_test (above at (key r)) (λ t. rw t (inserted_good r s (s.count + 1) e t g, omega arith)) (λ f. rw f (g, omega arith))

  pub offer_good : (rs : List (List ℕ)) (s : Search) → Wide w rs → Good key w cap at s
      → Good key w cap at (offer_all key w cap at rs s) × ((offer_all key w cap at rs s).count ≤ s.count + length rs)
  unfolding offer_all
  offer_good [] s wide g = (g, omega arith)
  offer_good (r ∷ rs) s wide g =
      let one = offered_good r s (wide r (Memᴰ.head refl)) g in
      let others = offer_good rs (offered key w cap at r s) (λ x i. wide x (Memᴰ.tail i)) one.0 in
      (others.0, omega (arith, one.1, others.1))

  -- ---- what is found

  module _ (s : List ℕ) where
    found_none : record { out = s; n = 0; count = 0 } ≡ found key w cap at s []
    unfolding found page rest keep
    found_none = rw (take-nil, over_nothing)

    found_more : (r : List ℕ) (l : List (List ℕ)) → length r ≡ w → Wide w l
        → offered key w cap at r (found key w cap at s l) ≡ found key w cap at s (insert key r l)
    unfolding offered found inserted page
    found_more r l e wide = by_test (above at (key r))
        (λ t. let P = take cap (rest key at l) in
        let Q = take cap (insert key r P) in
        let grows : length P ≤ length Q = omega (arith, length-take cap (rest key at l), length-take cap (insert key r P), put_length (insert_put key r P)) in
        let kept : Wide w P = wide_page key w at cap l wide in
        let new : Wide w Q =
        λ x i. each_more (λ (y : List ℕ). length y ≡ w) e kept x (put_out (insert_put key r P) x (take_within cap (insert key r P) x i)) in
        let covers : length (join P) ≤ length (join Q) = rw (length_join w P kept, length_join w Q new) (mul-le-mul_right w grows) in
        let one : length (rest key at l) + 1 ≡ length (insert key r (rest key at l)) = omega (arith, put_length (insert_put key r (rest key at l))) in
        rw (t, rows_back w P s kept, rest_insert key at r l t, take_insert key cap r (rest key at l))
        (λ i. record { out = over_again (join P) (join Q) s covers i; n = length Q; count = one i }))
        (λ f. rw (f, rest_insert_none key at r l f))

    found_all : (rs l : List (List ℕ)) → Wide w rs → Wide w l → offer_all key w cap at rs (found key w cap at s l) ≡ found key w cap at s (insert_all key l rs)
    unfolding offer_all insert_all
    found_all [] l wide h = refl
    found_all (r ∷ rs) l wide h =
        ap (offer_all key w cap at rs) (found_more r l (wide r (Memᴰ.head refl)) h)
        ∙ found_all rs (insert key r l) (λ x i. wide x (Memᴰ.tail i))
        (λ x i. each_more (λ (y : List ℕ). length y ≡ w) (wide r (Memᴰ.head refl)) h x (put_out (insert_put key r l) x i))

    -- Rows of width w, all offered, leave the page of the sorted list, and the count is the number of rows above the cut.
    pub search_page : (rs : List (List ℕ)) → Wide w rs → offer_all key w cap at rs (record { out = s; n = 0; count = 0 }) ≡ found key w cap at s (sort key rs)
    unfolding sort
    search_page rs wide = ap (offer_all key w cap at rs) found_none ∙ found_all rs [] wide (λ x i. absurd (Memᴰ.not-nil i))
