-- Rows of one width in a flat list, from its front: `rows_of` reads them, and joined they are written `over` what stands there. Rows written are
-- read back. An insertion among rows read, written again, puts the new row in at its slot and moves those behind it up by a width, as the rows
-- before the slot stand there already; where there is no room the last falls off. Assumes nothing.
use Rattle.std.specs.Prelude.{◌≡◌, true, false, get_or}
use Rattle.std.proofs.Math.Path.{refl, sym, ap}
use Rattle.std.proofs.Common.{◌∙◌, suc-mul, add_comm, suc-add, zero-add, mul-le-mul_right, le_trans, arith, length-append, length-take-le}
use mathlib.Core.List.Memᴰ
use mathlib.Core.List.{List, [], ◌∷◌, ◌++◌, append-nil, append_assoc, Memᴰ}
use Prim.Native.Nat.{ℕ, zero, suc, ◌+◌, ◌*◌, ◌<◌, ◌≤◌, min}
use Rattle.std.proofs.Math.Nat.{zero-mul}
use Rattle.std.proofs.Math.ListN.{length, take, drop, length-take, length-drop}
use Rattle.std.proofs.Math.Seq.{take_all, take-take, take-add, drop-drop, take-nil, drop-nil, slice, take_at, drop_at}
use Rattle.definitions.specs.Number.{join, over}
use Rattle.definitions.specs.Pages.{before, insert}
use Rattle.slice_laws.specs.Over.{over_front_append, over_same, over_append}
use Rattle.page_laws.specs.Insertion.{insert_put, put_length}
use Rattle.page_laws.specs.Slot.{slot, Ordered, insert_slot, slot_most, slot_down, slot_up}

-- The first n rows of width w.
unfoldable pub rows_of : ℕ → ℕ → List ℕ → List (List ℕ)
rows_of w zero s = []
rows_of w (suc n) s = take w s ∷ rows_of w n (drop w s)

-- Each row has width w.
abbrev pub Wide : ℕ → List (List ℕ) → Type 0
Wide w rows = (r : List ℕ) → Memᴰ r rows → length r ≡ w

-- The numbers from `from` up to `to` moved up by w.
abbrev pub shifted : ℕ → ℕ → ℕ → List ℕ → List ℕ
shifted from to w s = over (from + w) (slice from to s) s

-- r put in at `from`, and the numbers from there up to `to` moved behind it.
abbrev pub spliced : ℕ → ℕ → List ℕ → List ℕ → List ℕ
spliced from to r s = over from (r ++ slice from to s) s

-- A lent list, and how many rows are kept at its front.
pub record Kept : Type 0 where
  pub out : List ℕ
  pub n : ℕ

-- A row put in its slot among those kept, of which at most cap stay.
unfoldable pub inserted : (List ℕ → List ℕ) → ℕ → ℕ → List ℕ → Kept → Kept
inserted key w cap r s = let rows = take cap (insert key r (rows_of w s.n s.out)) in record { out = over 0 (join rows) s.out; n = length rows }

-- ---- lists of lists joined

-- One more behind them.
pub join_last : {X : Type 0} (a : List (List X)) (r : List X) → join (a ++ r ∷ []) ≡ join a ++ r
join_last [] r = append-nil r
join_last (x ∷ a) r = rw (join_last a r) (sym (append_assoc x (join a) r))

pub join_append : (a b : List (List ℕ)) → join (a ++ b) ≡ join a ++ join b
join_append [] b = refl
join_append (r ∷ a) b = rw (join_append a b) (sym (append_assoc r (join a) (join b)))

pub drop_take : {X : Type 0} (n m : ℕ) (l : List X) → drop n (take (n + m) l) ≡ take m (drop n l)
drop_take zero m l = rw zero-add
drop_take (suc n) m [] = rw (take-nil (suc n + m), take-nil m)
drop_take (suc n) m (x ∷ l) = rw suc-add (drop_take n m l)

module _ (w : ℕ) where
  width_first : (n : ℕ) → suc n * w ≡ w + n * w
  width_first n = suc-mul n w ∙ add_comm (n * w) w

  -- ---- rows read

  pub length_rows : (n : ℕ) (s : List ℕ) → length (rows_of w n s) ≡ n
  unfolding rows_of
  length_rows zero s = refl
  length_rows (suc n) s = ap suc (length_rows n (drop w s))

  pub row_at_lem : (n i : ℕ) (s : List ℕ) → i < n → get_or (rows_of w n s) i [] ≡ take w (drop (i * w) s)
  unfolding rows_of
  row_at_lem zero i s h = absurd (omega arith)
  row_at_lem (suc n) zero s h = rw zero-mul
  row_at_lem (suc n) (suc i) s h = row_at_lem n i (drop w s) (omega arith) ∙ rw (width_first, drop-drop)

  take_rows : (q n : ℕ) (s : List ℕ) → q ≤ n → take q (rows_of w n s) ≡ rows_of w q s
  unfolding rows_of
  take_rows zero n s h = refl
  take_rows (suc q) zero s h = absurd (omega arith)
  take_rows (suc q) (suc n) s h = rw (take_rows q n (drop w s) (omega arith))

  join_rows : (n : ℕ) (s : List ℕ) → join (rows_of w n s) ≡ take (n * w) s
  unfolding rows_of
  join_rows zero s = rw zero-mul
  join_rows (suc n) s = rw (width_first, take-add, join_rows n (drop w s))

  -- The rows from row p on.
  join_later : (p q : ℕ) (s : List ℕ) → join (drop p (rows_of w q s)) ≡ slice (p * w) (q * w) s
  unfolding rows_of
  join_later zero q s = rw zero-mul (join_rows q s)
  join_later (suc p) zero s = rw zero-mul (sym (drop-nil (suc p * w)))
  join_later (suc p) (suc q) s =
      join_later p q (drop w s) ∙ rw (width_first p, width_first q, ← drop-drop (p * w) w (take (w + q * w) s), drop_take)

  pub rows_wide : (n : ℕ) (s : List ℕ) → n * w ≤ length s → Wide w (rows_of w n s)
  unfolding rows_of
  rows_wide zero s h r i = absurd (Memᴰ.not-nil i)
  rows_wide (suc n) s h r (Memᴰ.head e) = rw e (length-take-le w s (omega (arith, width_first n)))
  rows_wide (suc n) s h r (Memᴰ.tail i) = rows_wide n (drop w s) (omega (arith, width_first n, length-drop w s)) r i

  -- ---- rows written

  pub length_join : (rows : List (List ℕ)) → Wide w rows → length (join rows) ≡ length rows * w
  length_join [] wide = sym (zero-mul w)
  length_join (r ∷ rows) wide =
      let others = length_join rows (λ x i. wide x (Memᴰ.tail i)) in
      rw (length-append, width_first) (omega (arith, wide r (Memᴰ.head refl)))

  -- Rows as they stand, written where they stand.
  rows_same : (n : ℕ) (s : List ℕ) → over 0 (join (rows_of w n s)) s ≡ s
  rows_same n s = rw join_rows (over_same (n * w) s)

  -- Rows written are read back.
  pub rows_back : (rows : List (List ℕ)) (s : List ℕ) → Wide w rows → rows_of w (length rows) (over 0 (join rows) s) ≡ rows
  unfolding rows_of
  rows_back [] s wide = refl
  rows_back (r ∷ rows) s wide =
      let e = wide r (Memᴰ.head refl) in
      let behind = over 0 (join rows) (drop (length r) s) in
      rw (over_front_append r (join rows) s, take_at r behind w e, drop_at r behind w e, rows_back rows (drop (length r) s) (λ x i. wide x (Memᴰ.tail i)))

-- ---- a row put in

-- The first q + 1 of a list with an element put in at p, no later than q: the first q, with it put in there.
take_put_in : {X : Type 0} (p q : ℕ) (r : X) (l : List X) → p ≤ q → take (suc q) (take p l ++ (r ∷ drop p l)) ≡ take p (take q l) ++ (r ∷ drop p (take q l))
take_put_in zero q r l h = refl
take_put_in (suc p) zero r l h = absurd (omega arith)
take_put_in (suc p) (suc q) r [] h = refl
take_put_in (suc p) (suc q) r (x ∷ l) h = rw (take_put_in p q r l (omega arith))

-- The rows before it stand there already.
spliced_rows : (w p q : ℕ) (r s : List ℕ) → p ≤ q → p * w ≤ length s
    → spliced (p * w) (q * w) r s ≡ over 0 (join (take p (rows_of w q s) ++ (r ∷ drop p (rows_of w q s)))) s
spliced_rows w p q r s h room =
    let front = take (p * w) s in
    let behind = r ++ slice (p * w) (q * w) s in
    let place : 0 + length front ≡ p * w = omega (arith, length-take-le (p * w) s room) in
    let numbers : join (take p (rows_of w q s) ++ (r ∷ drop p (rows_of w q s))) ≡ front ++ behind =
    join_append (take p (rows_of w q s)) _ ∙ rw (take_rows w p q s h, join_rows, join_later) in
    rw (numbers, ← over_append 0 front behind s (omega arith), over_same, place)

-- ---- the slot among rows read

module _ (key : List ℕ → List ℕ) (w : ℕ) (r s : List ℕ) (n : ℕ) where
  pub slot_rows : slot key r (rows_of w n s) ≤ n
  slot_rows = omega (arith, slot_most key r (rows_of w n s), length_rows w n s)

  pub slot_rows_down : (i : ℕ) → i < n → before (key r) (key (take w (drop (i * w) s))) ≡ true → slot key r (rows_of w n s) ≤ i
  slot_rows_down i h t = slot_down key r [] (rows_of w n s) i (omega (arith, length_rows w n s)) (rw (row_at_lem w n i s h) t)

  pub slot_rows_up : (i : ℕ) → i < n → Ordered key (rows_of w n s) → before (key r) (key (take w (drop (i * w) s))) ≡ false → i < slot key r (rows_of w n s)
  slot_rows_up i h o f = slot_up key r [] (rows_of w n s) i o (omega (arith, length_rows w n s)) (rw (row_at_lem w n i s h) f)

module _ (key : List ℕ → List ℕ) (w cap : ℕ) (r s : List ℕ) (n p : ℕ) (at : p ≡ slot key r (rows_of w n s)) where
  insert_rows : insert key r (rows_of w n s) ≡ take p (rows_of w n s) ++ (r ∷ drop p (rows_of w n s))
  insert_rows = rw at (insert_slot key r (rows_of w n s))

  -- k rows are kept, the new one and q of the others.
  pub inserted_spliced : (q k : ℕ) {out : List ℕ} → p ≤ q → k ≡ suc q → k ≡ min cap (suc n) → q * w ≤ length s → out ≡ spliced (p * w) (q * w) r s
      → ◌≡◌ {A = Kept} (record { out = out; n = k }) (inserted key w cap r (record { out = s; n = n }))
  unfolding inserted
  inserted_spliced q k h e f room g =
      let all = insert key r (rows_of w n s) in
      let long : length all ≡ suc n = put_length (insert_put key r (rows_of w n s)) ∙ ap suc (length_rows w n s) in
      let those : take cap all ≡ take p (rows_of w q s) ++ (r ∷ drop p (rows_of w q s)) =
      sym (take_all k (take cap all) (omega (arith, length-take cap all)))
      ∙ take-take k cap all (omega arith)
      ∙ rw (e, insert_rows, take_put_in p q r (rows_of w n s) h, take_rows w q n s (omega arith)) in
      let number : k ≡ length (take cap all) = omega (arith, length-take cap all) in
      let written = g ∙ spliced_rows w p q r s h (le_trans (mul-le-mul_right w h) room) ∙ ap (λ (rows : List (List ℕ)). over 0 (join rows) s) (sym those) in
      λ i. record { out = written i; n = number i }

  -- The new row falls off.
  pub inserted_none : n ≡ cap → n ≤ p → ◌≡◌ {A = Kept} (record { out = s; n = n }) (inserted key w cap r (record { out = s; n = n }))
  unfolding inserted
  inserted_none e h =
      let rows = rows_of w n s in
      let l : length rows ≡ n = length_rows w n s in
      let those : take cap (insert key r rows) ≡ rows = rw (insert_rows, take_all p rows (omega arith)) (take_at rows (r ∷ drop p rows) cap (l ∙ e)) in
      rw those (λ i. record { out = sym (rows_same w n s) i; n = sym l i })
