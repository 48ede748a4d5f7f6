-- Insertion puts an element in before the first that it stands before. That it is put in somewhere gives lengths and members; where its key is
-- a new one, the list goes on to ascend. Sorting inserts one element after the other, so lists of the same members, with keys of their own,
-- are sorted alike. The first k of an insertion, and those above a cut, come from the first k, and from those above it. Assumes nothing.
use Rattle.std.specs.Prelude.{◌≡◌, Bool, cond, length, take}
use Rattle.std.proofs.Math.Path.{refl, ap}
use Rattle.std.proofs.Common.{sym}
use Rattle.std.proofs.Math.Bool.{true, false}
use mathlib.Core.List.Memᴰ
use mathlib.Core.List.{List, [], ◌∷◌, map, Memᴰ, Nodup}
use Prim.Native.Nat.{ℕ, zero, suc, ◌+◌}
use native.Mathlib.Omega.{arith}
use Rattle.std.proofs.Math.Seq.{take-take}
use Rattle.definitions.specs.Number.{keep, put_if}
use Rattle.definitions.specs.Pages.{before, Cut, start, after, above, insert, insert_all, sort, rest}
use Rattle.number_laws.specs.Truth.{by_test}
use Rattle.number_laws.specs.Lists.{nodup_fresh, nodup_tail}
use Rattle.page_laws.specs.Key.{before_either}
use Rattle.page_laws.specs.Members.{Within, each_more}
use Rattle.page_laws.specs.Ascending.{Ascends, above_trans, same_members}

-- ---- an element put in somewhere

-- m is l with r put in.
pub data Put {X : Type 0} (r : X) : List X → List X → Type 0 where
  here : {l : List X} → Put r l (r ∷ l)
  later : {x : X} {l m : List X} → Put r l m → Put r (x ∷ l) (x ∷ m)

module _ {X : Type 0} {r : X} where
  pub put_length : {l m : List X} → Put r l m → length m ≡ suc (length l)
  put_length here = refl
  put_length (later p) = ap suc (put_length p)

  pub put_in : {l m : List X} → Put r l m → Within (r ∷ l) m
  put_in here x i = i
  put_in (later p) x (Memᴰ.head e) = Memᴰ.tail (put_in p x (Memᴰ.head e))
  put_in (later p) x (Memᴰ.tail (Memᴰ.head e)) = Memᴰ.head e
  put_in (later p) x (Memᴰ.tail (Memᴰ.tail i)) = Memᴰ.tail (put_in p x (Memᴰ.tail i))

  pub put_out : {l m : List X} → Put r l m → Within m (r ∷ l)
  put_out here x i = i
  put_out (later p) x (Memᴰ.head e) = Memᴰ.tail (Memᴰ.head e)
  put_out (later {x = y} {l = l} p) x (Memᴰ.tail i) = go (put_out p x i)
    where
      go : Memᴰ x (r ∷ l) → Memᴰ x (r ∷ y ∷ l)
      go (Memᴰ.head e) = Memᴰ.head e
      go (Memᴰ.tail j) = Memᴰ.tail (Memᴰ.tail j)

  put_map : {Y : Type 0} (f : X → Y) {l m : List X} → Put r l m → Put (f r) (map f l) (map f m)
  put_map f here = here
  put_map f (later p) = later (put_map f p)

  -- What does not pass a test adds nothing to what does.
  put_keep : (test : X → Bool) {l m : List X} → test r ≡ false → Put r l m → keep test m ≡ keep test l
  unfolding keep
  put_keep test f here = rw f
  put_keep test f (later {x = x} p) = ap (put_if (test x) x) (put_keep test f p)

module _ {X : Type 0} (key : X → List ℕ) where
  -- ---- insertion

  pub insert_put : (r : X) (l : List X) → Put r l (insert key r l)
  unfolding insert
  insert_put r [] = here
  insert_put r (x ∷ l) = go (before (key r) (key x)) (insert_put r l)
    where
      go : (b : Bool) → Put r l (insert key r l) → Put r (x ∷ l) (cond b (r ∷ x ∷ l) (x ∷ insert key r l))
      go true p = here
      go false p = later p

  pub take_insert : (k : ℕ) (r : X) (l : List X) → take k (insert key r l) ≡ take k (insert key r (take k l))
  unfolding insert
  take_insert zero r l = refl
  take_insert (suc k) r [] = refl
  take_insert (suc k) r (x ∷ l) = by_test (before (key r) (key x))
      (λ t. rw (t, take-take k (suc k) (x ∷ l) (omega arith)))
      (λ f. rw (f, take_insert k r l))

  pub rest_insert : (at : Cut) (r : X) (l : List X) → above at (key r) ≡ true → rest key at (insert key r l) ≡ insert key r (rest key at l)
  unfolding insert rest keep
  rest_insert at r [] h = rw h
  rest_insert at r (x ∷ l) h = by_test (before (key r) (key x))
      (λ t. rw (t, h, above_trans at (key r) (key x) h t, t))
      (λ f. rw f (by_test (above at (key x)) (λ t. rw (t, f, rest_insert at r l h)) (λ g. rw g (rest_insert at r l h))))

  pub rest_insert_none : (at : Cut) (r : X) (l : List X) → above at (key r) ≡ false → rest key at (insert key r l) ≡ rest key at l
  unfolding rest
  rest_insert_none at r l f = put_keep (λ (x : X). above at (key x)) f (insert_put r l)

  insert_ascends : (at : Cut) (r : X) (l : List X) → above at (key r) ≡ true → (Memᴰ (key r) (map key l) → ⊥)
      → Ascends key at l → Ascends key at (insert key r l)
  unfolding Ascends insert above
  insert_ascends at r [] h fresh a = (h, tt)
  insert_ascends at r (x ∷ l) h fresh a = by_test (before (key r) (key x))
      (λ t. rw t (h, (t, a.1)))
      (λ f. let g = before_either (key r) (key x) f (λ e. fresh (Memᴰ.head e)) in
      rw f (a.0, insert_ascends (after (key x)) r l g (λ i. fresh (Memᴰ.tail i)) a.1))

  -- ---- sorting

  insert_all_out : (acc rs all : List X) → Within acc all → Within rs all → Within (insert_all key acc rs) all
  unfolding insert_all
  insert_all_out acc [] all f g = f
  insert_all_out acc (r ∷ rs) all f g =
      let now : Within (r ∷ acc) all = each_more (λ (y : X). Memᴰ y all) (g r (Memᴰ.head refl)) f in
      insert_all_out (insert key r acc) rs all (λ x i. now x (put_out (insert_put r acc) x i)) (λ x i. g x (Memᴰ.tail i))

  pub sort_out : (rs : List X) → Within (sort key rs) rs
  unfolding sort
  sort_out rs = insert_all_out [] rs rs (λ x i. absurd (Memᴰ.not-nil i)) (λ x i. i)

  insert_all_length : (acc rs : List X) → length (insert_all key acc rs) ≡ length acc + length rs
  unfolding insert_all
  insert_all_length acc [] = omega arith
  insert_all_length acc (r ∷ rs) = omega (arith, insert_all_length (insert key r acc) rs, put_length (insert_put r acc))

  pub sort_length : (rs : List X) → length (sort key rs) ≡ length rs
  unfolding sort
  sort_length rs = omega (arith, insert_all_length [] rs)

  insert_all_in : (acc rs : List X) → Within acc (insert_all key acc rs) × Within rs (insert_all key acc rs)
  unfolding insert_all
  insert_all_in acc [] = (λ x i. i, λ x i. absurd (Memᴰ.not-nil i))
  insert_all_in acc (r ∷ rs) =
      let all = insert_all key (insert key r acc) rs in
      let in_all = insert_all_in (insert key r acc) rs in
      let now : Within (r ∷ acc) all = λ x i. in_all.0 x (put_in (insert_put r acc) x i) in
      (λ x i. now x (Memᴰ.tail i), each_more (λ (y : X). Memᴰ y all) (now r (Memᴰ.head refl)) in_all.1)

  pub sort_in : (rs : List X) → Within rs (sort key rs)
  unfolding sort
  sort_in rs = (insert_all_in [] rs).1

  insert_all_ascends : (acc rs : List X) → Ascends key start acc → Nodup (map key rs)
      → ((k : List ℕ) → Memᴰ k (map key rs) → Memᴰ k (map key acc) → ⊥) → Ascends key start (insert_all key acc rs)
  unfolding insert_all above
  insert_all_ascends acc [] a once apart = a
  insert_all_ascends acc (r ∷ rs) a once apart =
      insert_all_ascends (insert key r acc) rs (insert_ascends start r acc refl (apart (key r) (Memᴰ.head refl)) a) (nodup_tail once)
      (λ k i j. go k i (put_out (put_map key (insert_put r acc)) k j))
    where
      go : (k : List ℕ) → Memᴰ k (map key rs) → Memᴰ k (key r ∷ map key acc) → ⊥
      go k i (Memᴰ.head e) = nodup_fresh once (Memᴰ.cast (sym e) i)
      go k i (Memᴰ.tail j) = apart k (Memᴰ.tail i) j

  -- Elements with keys of their own, sorted, ascend.
  pub sort_ascends : (rs : List X) → Nodup (map key rs) → Ascends key start (sort key rs)
  unfolding Ascends sort
  sort_ascends rs once = insert_all_ascends [] rs tt once (λ k i j. Memᴰ.not-nil j)

  pub sort_same : (l m : List X) → Nodup (map key l) → Nodup (map key m) → Within l m → Within m l → sort key l ≡ sort key m
  sort_same l m once once' f g =
      same_members key start start (sort key l) (sort key m) (sort_ascends l once) (sort_ascends m once')
      (λ x i. sort_in m x (f x (sort_out l x i)))
      (λ x i. sort_in l x (g x (sort_out m x i)))
