-- Which elements `numbers`, `keep`, `map` and `join` have, and that they have each once where their parts do.
-- Each law by the recursion of the list; a list without repetition is told by its first element and its tail. And one element set.
-- Assumes nothing.
use Rattle.std.specs.Prelude.{◌≡◌, refl, ◌⊎◌, Bool, true, false, ◌||◌, ℕ, zero, suc, ◌+◌, ◌≤◌, ◌<◌, eqb, length, get_or, set}
use Rattle.std.proofs.Common.{sym, ◌∙◌, inl, inr, arith, get_or-set_same, get_or-set_other, eqb-true}
use Rattle.std.proofs.Math.Path.{ap, subst}
use Rattle.std.proofs.Math.Logic.{∥∥₁_elim}
use mathlib.Core.HLevel.{⊥_prop}
use Rattle.std.proofs.lemmas.Bool.{false≢true}
use Rattle.std.proofs.Math.Bool.{and-eq-true_iff}
use mathlib.Core.List.Memᴰ
use mathlib.Core.List.{List, [], ◌∷◌, ◌++◌, map, Memᴰ}
use mathlib.Core.List.Pairwise
use mathlib.Core.List.{Nodup, Nodup-cons}
use mathlib.Core.List.{Nodup-append}
use Rattle.std.proofs.Math.Decide.{ℕ_discrete}
use Rattle.definitions.specs.Number.{numbers, put_if, keep, all, join}

-- Lists without repetition, by first element and tail.
module _ {X : Type 0} where
  pub nodup_more : {x : X} {l : List X} → (Memᴰ x l → ⊥) → Nodup l → Nodup (x ∷ l)
  nodup_more fresh n = Nodup-cons.1 (λ m. ∥∥₁_elim m ⊥_prop fresh, n)

  pub nodup_fresh : {x : X} {l : List X} → Nodup (x ∷ l) → Memᴰ x l → ⊥
  nodup_fresh n m = (Nodup-cons.0 n).0 ∣ m ∣₁

  pub nodup_tail : {x : X} {l : List X} → Nodup (x ∷ l) → Nodup l
  nodup_tail n = (Nodup-cons.0 n).1

  pub nodup_join : {a b : List X} → Nodup a → Nodup b → ((x : X) → Memᴰ x a → Memᴰ x b → ⊥) → Nodup (a ++ b)
  nodup_join n k apart = Nodup-append.1 (n, k, λ x u v. ∥∥₁_elim u ⊥_prop (λ c. ∥∥₁_elim v ⊥_prop (λ d. apart x c d)))

-- x is an element of l, computed.
unfoldable pub contains : List ℕ → ℕ → Bool
contains [] x = false
contains (y ∷ l) x = eqb x y || contains l x

pub contains_out : (l : List ℕ) (x : ℕ) → contains l x ≡ true → Memᴰ x l
unfolding contains
contains_out [] x t = absurd (false≢true t)
contains_out (y ∷ l) x t = go (eqb x y) refl t (contains_out l x)
  where
    go : (b : Bool) → eqb x y ≡ b → (b || contains l x) ≡ true → (contains l x ≡ true → Memᴰ x l) → Memᴰ x (y ∷ l)
    go true e t ih = Memᴰ.head (eqb-true x y e)
    go false e t ih = Memᴰ.tail (ih t)

-- What a test that all elements pass says of each.
pub all_out : {X : Type 0} (test : X → Bool) {x : X} {l : List X} → all test l ≡ true → Memᴰ x l → test x ≡ true
unfolding all
all_out test {l = []} t m = elim m [ ]
all_out test {l = y ∷ l} t (Memᴰ.head e) = ap test e ∙ ((and-eq-true_iff (test y) (all test l)).0 t).0
all_out test {l = y ∷ l} t (Memᴰ.tail m) = all_out test ((and-eq-true_iff (test y) (all test l)).0 t).1 m

-- The n numbers from a on.
pub numbers_in : (a n i : ℕ) → a ≤ i → i < a + n → Memᴰ i (numbers a n)
unfolding numbers
numbers_in a zero i h l = absurd (omega arith)
numbers_in a (suc n) i h l = go (ℕ_discrete i a) (numbers_in (suc a) n i)
  where
    go : Dec (i ≡ a) → (suc a ≤ i → i < suc a + n → Memᴰ i (numbers (suc a) n)) → Memᴰ i (a ∷ numbers (suc a) n)
    go (yes e) ih = Memᴰ.head e
    go (no e) ih = Memᴰ.tail (ih (omega arith) (omega arith))

pub numbers_out : (a n i : ℕ) → Memᴰ i (numbers a n) → (a ≤ i) × (i < a + n)
unfolding numbers
numbers_out a zero i m = absurd (Memᴰ.not-nil m)
numbers_out a (suc n) i m = go (Memᴰ.cases_cons m) (numbers_out (suc a) n i)
  where
    go : (i ≡ a) ⊎ Memᴰ i (numbers (suc a) n) → (Memᴰ i (numbers (suc a) n) → (suc a ≤ i) × (i < suc a + n)) → (a ≤ i) × (i < a + suc n)
    go (inl e) ih = omega arith
    go (inr k) ih = let h = ih k in omega arith

pub numbers_once : (a n : ℕ) → Nodup (numbers a n)
unfolding numbers
numbers_once a zero = Pairwise.nil
numbers_once a (suc n) = nodup_more (λ m. let h = numbers_out (suc a) n a m in omega arith) (numbers_once (suc a) n)

pub numbers_length : (a n : ℕ) → length (numbers a n) ≡ n
unfolding numbers
numbers_length a zero = refl
numbers_length a (suc n) = ap suc (numbers_length (suc a) n)

-- The elements that pass a test.
module _ {X : Type 0} (test : X → Bool) where
  put_in : (b : Bool) (x : X) {y : X} {l : List X} → Memᴰ y l → Memᴰ y (put_if b x l)
  put_in true x m = Memᴰ.tail m
  put_in false x m = m

  put_out : (b : Bool) (x : X) {y : X} {l : List X} → Memᴰ y (put_if b x l) → ((b ≡ true) × (y ≡ x)) ⊎ Memᴰ y l
  put_out true x m = first_or (Memᴰ.cases_cons m)
    where
      first_or : {y : X} {l : List X} → (y ≡ x) ⊎ Memᴰ y l → ((true ≡ true) × (y ≡ x)) ⊎ Memᴰ y l
      first_or (inl e) = inl (refl, e)
      first_or (inr k) = inr k
  put_out false x m = inr m

  put_once : (b : Bool) (x : X) {l : List X} → (Memᴰ x l → ⊥) → Nodup l → Nodup (put_if b x l)
  put_once true x fresh n = nodup_more fresh n
  put_once false x fresh n = n

  pub keep_in : {x : X} {l : List X} → Memᴰ x l → test x ≡ true → Memᴰ x (keep test l)
  unfolding keep
  keep_in {x = x} {l = []} m t = elim m [ ]
  keep_in {x} {l = y ∷ l} (Memᴰ.head e) t =
      subst (λ (b : Bool). Memᴰ x (put_if b y (keep test l))) (sym (ap test (sym e) ∙ t)) (Memᴰ.head e)
  keep_in {x} {l = y ∷ l} (Memᴰ.tail m) t = put_in (test y) y (keep_in m t)

  pub keep_out : (l : List X) {x : X} → Memᴰ x (keep test l) → Memᴰ x l × (test x ≡ true)
  unfolding keep
  keep_out [] m = absurd (Memᴰ.not-nil m)
  keep_out (y ∷ l) {x} m = go (put_out (test y) y m) (λ k. keep_out l k)
    where
      go : ((test y ≡ true) × (x ≡ y)) ⊎ Memᴰ x (keep test l) → (Memᴰ x (keep test l) → Memᴰ x l × (test x ≡ true)) → Memᴰ x (y ∷ l) × (test x ≡ true)
      go (inl h) ih = (Memᴰ.head h.1, ap test h.1 ∙ h.0)
      go (inr k) ih = let h = ih k in (Memᴰ.tail h.0, h.1)

  pub keep_once : (l : List X) → Nodup l → Nodup (keep test l)
  unfolding keep
  keep_once [] n = Pairwise.nil
  keep_once (y ∷ l) n = put_once (test y) y (λ m. nodup_fresh n (keep_out l m).0) (keep_once l (nodup_tail n))

-- A map that tells the elements of a list apart keeps it without repetition.
pub map_once : {X Y : Type 0} (f : X → Y) (l : List X) → ((x y : X) → Memᴰ x l → Memᴰ y l → f x ≡ f y → x ≡ y) → Nodup l → Nodup (map f l)
map_once f [] apart n = Pairwise.nil
map_once f (x ∷ l) apart n =
    nodup_more
    (λ m. let r = Memᴰ.of_map f l m in nodup_fresh n (Memᴰ.cast (sym (apart r.0 x (Memᴰ.tail r.1) (Memᴰ.head refl) r.2)) r.1))
    (map_once f l (λ a b u v. apart a b (Memᴰ.tail u) (Memᴰ.tail v)) (nodup_tail n))

-- Lists joined, one for each element of another list.
module _ {X Y : Type 0} (f : X → List Y) where
  pub join_map_in : (l : List X) {x : X} {y : Y} → Memᴰ x l → Memᴰ y (f x) → Memᴰ y (join (map f l))
  join_map_in [] m k = elim m [ ]
  join_map_in (z ∷ l) (Memᴰ.head e) k = Memᴰ.append_left (join (map f l)) (rw e at k)
  join_map_in (z ∷ l) (Memᴰ.tail m) k = Memᴰ.append_right (f z) (join_map_in l m k)

  pub join_map_out : (l : List X) {y : Y} → Memᴰ y (join (map f l)) → (x : X) × Memᴰ x l × Memᴰ y (f x)
  join_map_out [] m = absurd (Memᴰ.not-nil m)
  join_map_out (z ∷ l) {y} m = go (Memᴰ.append_cases (f z) m) (λ k. join_map_out l k)
    where
      go : Memᴰ y (f z) ⊎ Memᴰ y (join (map f l)) → (Memᴰ y (join (map f l)) → (x : X) × Memᴰ x l × Memᴰ y (f x))
          → (x : X) × Memᴰ x (z ∷ l) × Memᴰ y (f x)
      go (inl k) ih = (z, Memᴰ.head refl, k)
      go (inr k) ih = let r = ih k in (r.0, Memᴰ.tail r.1, r.2)

  pub join_map_once : (l : List X) → Nodup l → ((x : X) → Memᴰ x l → Nodup (f x))
      → ((x x' : X) (y : Y) → Memᴰ y (f x) → Memᴰ y (f x') → x ≡ x') → Nodup (join (map f l))
  join_map_once [] n each apart = Pairwise.nil
  join_map_once (z ∷ l) n each apart =
      nodup_join
      (each z (Memᴰ.head refl))
      (join_map_once l (nodup_tail n) (λ x m. each x (Memᴰ.tail m)) apart)
      (λ y u v. let r = join_map_out l v in nodup_fresh n (Memᴰ.cast (apart z r.0 y u r.2) r.1))

-- What held of every element still does once one is set.
pub set_each : (Q : ℕ → ℕ → Type 0) (xs : List ℕ) (j v : ℕ) → j < length xs → Q j v → (i : ℕ) → ((i ≡ j → ⊥) → Q i (get_or xs i 0))
    → Q i (get_or (set xs j v) i 0)
set_each Q xs j v fits new i old = at (ℕ_discrete i j)
  where
    at : Dec (i ≡ j) → Q i (get_or (set xs j v) i 0)
    at (yes e) = rw (e, get_or-set_same xs j v 0 fits) new
    at (no e) = rw (get_or-set_other xs j i v 0 e) (old e)
