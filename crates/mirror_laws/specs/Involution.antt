-- A list without repetition that a map pairs off has an even length: each element goes to another one of the list, and back. For the first element
-- and the one it goes to can be taken out, and the map pairs off what is left. Assumes nothing.
use Rattle.std.specs.Prelude.{◌≡◌, refl, ◌≢◌, ◌⊎◌, ℕ, zero, suc, ◌%◌, ◌≤◌, length}
use Rattle.std.proofs.Common.{sym, ap, ◌∙◌, subst, inl, inr, arith}
use mathlib.Core.List.Memᴰ
use mathlib.Core.List.{List, [], ◌∷◌, Memᴰ, Nodup}
use Rattle.number_laws.specs.Lists.{nodup_more, nodup_fresh, nodup_tail}
use Rattle.page_laws.specs.Insertion.{Put, here, later, put_length, put_in, put_out}

-- f takes each element of l to another one, and back.
pub record PairedOff {X : Type 0} (f : X → X) (l : List X) : Type 0 where
  pub into : (x : X) → Memᴰ x l → Memᴰ (f x) l
  pub back : (x : X) → Memᴰ x l → f (f x) ≡ x
  pub other : (x : X) → Memᴰ x l → f x ≢ x

-- ---- an element taken out

module _ {X : Type 0} where
  taken_out : {y : X} {l : List X} → Memᴰ y l → (rest : List X) × Put y rest l
  taken_out {l = []} m = elim m [ ]
  taken_out {y} {l = z ∷ l} (Memᴰ.head e) = (l, subst (λ (z : X). Put y l (z ∷ l)) e here)
  taken_out {l = z ∷ l} (Memᴰ.tail m) = let t = taken_out m in (z ∷ t.0, later t.1)

  put_once : {y : X} {l m : List X} → Put y l m → Nodup m → Nodup (y ∷ l)
  put_once here n = n
  put_once {y} (later {x = z} {l = l} p) n =
      let once = put_once p (nodup_tail n) in
      nodup_more (λ i. fresh once (Memᴰ.cases_cons i)) (nodup_more (λ i. nodup_fresh n (put_in p z (Memᴰ.tail i))) (nodup_tail once))
    where
      fresh : Nodup (y ∷ l) → (y ≡ z) ⊎ Memᴰ y l → ⊥
      fresh once (inl e) = nodup_fresh n (Memᴰ.cast (sym e) (put_in p y (Memᴰ.head refl)))
      fresh once (inr i) = nodup_fresh once i

-- ---- two elements taken out

module _ {X : Type 0} (f : X → X) where
  goes_on_lem : (x : X) (l : List X) → PairedOff f (x ∷ l) → Memᴰ (f x) l
  goes_on_lem x l h = go (Memᴰ.cases_cons (h.into x (Memᴰ.head refl)))
    where
      go : (f x ≡ x) ⊎ Memᴰ (f x) l → Memᴰ (f x) l
      go (inl e) = absurd (h.other x (Memᴰ.head refl) e)
      go (inr i) = i

  paired_rest : (x : X) (l rest : List X) → Nodup (x ∷ l) → Put (f x) rest l → PairedOff f (x ∷ l) → PairedOff f rest
  paired_rest x l rest n p h = record {
    into = λ y i. first_not y i (Memᴰ.cases_cons (h.into y (inside y i)));
    back = λ y i. h.back y (inside y i);
    other = λ y i. h.other y (inside y i);
  }
    where
      inside : (y : X) → Memᴰ y rest → Memᴰ y (x ∷ l)
      inside y i = Memᴰ.tail (put_in p y (Memᴰ.tail i))

      -- what goes to f x is x, which is not in l
      second_not : (y : X) → Memᴰ y rest → (f y ≡ f x) ⊎ Memᴰ (f y) rest → Memᴰ (f y) rest
      second_not y i (inl e) =
          let same : x ≡ y = sym (h.back x (Memᴰ.head refl)) ∙ ap f (sym e) ∙ h.back y (inside y i) in
          absurd (nodup_fresh n (Memᴰ.cast same (put_in p y (Memᴰ.tail i))))
      second_not y i (inr k) = k

      -- what goes to x is f x, which is taken out
      first_not : (y : X) → Memᴰ y rest → (f y ≡ x) ⊎ Memᴰ (f y) l → Memᴰ (f y) rest
      first_not y i (inl e) =
          let same : f x ≡ y = ap f (sym e) ∙ h.back y (inside y i) in
          absurd (nodup_fresh (put_once p (nodup_tail n)) (Memᴰ.cast same i))
      first_not y i (inr k) = second_not y i (Memᴰ.cases_cons (put_out p (f y) k))

  even_within : (n : ℕ) (l : List X) → length l ≤ n → Nodup l → PairedOff f l → length l % 2 ≡ 0
  even_within zero [] le once h = refl
  even_within zero (x ∷ l) le once h = absurd (omega arith)
  even_within (suc n) [] le once h = refl
  even_within (suc n) (x ∷ l) le once h =
      let t = taken_out (goes_on_lem x l h) in
      let rest = t.0 in
      let count = put_length t.1 in
      let even = even_within n rest (omega arith) (nodup_tail (put_once t.1 (nodup_tail once))) (paired_rest x l rest once t.1 h) in
      omega arith

  pub paired_even : (l : List X) → Nodup l → PairedOff f l → length l % 2 ≡ 0
  paired_even l = even_within (length l) l (omega arith)
