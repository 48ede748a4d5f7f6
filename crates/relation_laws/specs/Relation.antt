-- Relations. A sum of some rows is a relation of all of them where the newest is among them; it weighs as many as the rows are, and as many more as it
-- has digits. Rows are free over the powers below x^c just where no relation of them, or of the older ones among them, has at most c digits: reducing
-- by the older rows does not see their sums and never raises, and it adds a sum of them.
-- Assumes nothing.
use Rattle.std.specs.Prelude.{◌≡◌, refl, List, [], ◌∷◌, ◌++◌, ℕ, ◌+◌, ◌^◌, ◌≤◌, min}
use Rattle.std.proofs.Common.{sym, ap, ap₂, ◌∙◌, subst, arith}
use Rattle.definitions.specs.Polynomial.{◌⊕◌}
use Rattle.polynomial_laws.specs.Sum.{⊕_self, ⊕_zero, zero-⊕, ⊕_assoc, ⊕-left_comm, ⊕_sums}
use Rattle.polynomial_laws.specs.Additive.{Additive, additive_zero}
use Rattle.net_laws.specs.Reduction.{reduce_by, reduce, basis, reduced, Each, min_either, reduce_additive, reduce_le, reduced_rows}
use Rattle.net_laws.specs.Cell.{Free}

-- ---- definitions

-- v is the sum of some of the rows.
pub data Sum : List ℕ → ℕ → Type 0 where
  none : {v : ℕ} → v ≡ 0 → Sum [] v
  skip : {r v : ℕ} {rs : List ℕ} → Sum rs v → Sum (r ∷ rs) v
  add : {r u v : ℕ} {rs : List ℕ} → Sum rs u → v ≡ r ⊕ u → Sum (r ∷ rs) v

-- v is the sum of the newest row and some of the older ones.
unfoldable pub Newest : List ℕ → ℕ → Type 0
Newest [] v = ⊥
Newest (r ∷ rs) v = (u : ℕ) × Sum rs u × (v ≡ r ⊕ u)

-- ---- sums
pub sum_nothing : (rs : List ℕ) → Sum rs 0
sum_nothing [] = none refl
sum_nothing (r ∷ rs) = skip (sum_nothing rs)

⊕-twice : (r a b : ℕ) → (r ⊕ a) ⊕ (r ⊕ b) ≡ a ⊕ b
⊕-twice r a b = simp ⊕_sums

pub sum_is : {rs : List ℕ} {u v : ℕ} → u ≡ v → Sum rs u → Sum rs v
sum_is {rs} e s = subst (Sum rs) e s

pub sum_sums : {rs : List ℕ} {u v : ℕ} → Sum rs u → Sum rs v → Sum rs (u ⊕ v)
sum_sums (none e) (none h) = none (ap₂ ◌⊕◌ e h ∙ ⊕_self 0)
sum_sums (skip a) (skip b) = skip (sum_sums a b)
sum_sums {u = u} (skip a) (add {r} {u = t} b h) = add (sum_sums a b) (ap (λ (z : ℕ). u ⊕ z) h ∙ ⊕-left_comm u r t)
sum_sums {v = v} (add {r} {u = t} a e) (skip b) = add (sum_sums a b) (ap (λ (z : ℕ). z ⊕ v) e ∙ ⊕_assoc r t v)
sum_sums (add {r} {u = s} a e) (add {u = t} b h) = skip (sum_is (sym (ap₂ ◌⊕◌ e h ∙ ⊕-twice r s t)) (sum_sums a b))

pub sum_join : {xs bs : List ℕ} {u v : ℕ} → Sum xs u → Sum bs v → Sum (xs ++ bs) (u ⊕ v)
sum_join {v = v} (none e) b = sum_is (sym (ap (λ (z : ℕ). z ⊕ v) e ∙ zero-⊕ v)) b
sum_join (skip a) b = skip (sum_join a b)
sum_join {v = v} (add {r} {u = t} a e) b = add (sum_join a b) (ap (λ (z : ℕ). z ⊕ v) e ∙ ⊕_assoc r t v)

-- The two parts of a sum.
pub record Parts (xs bs : List ℕ) (v : ℕ) : Type 0 where
  pub left : ℕ
  pub right : ℕ
  pub of_left : Sum xs left
  pub of_right : Sum bs right
  pub sum : v ≡ left ⊕ right

pub sum_parts : (xs bs : List ℕ) {v : ℕ} → Sum (xs ++ bs) v → Parts xs bs v
sum_parts [] bs {v} s = record { left = 0; right = v; of_left = none refl; of_right = s; sum = sym (zero-⊕ v) }
sum_parts (a ∷ xs) bs (skip s) =
    let p = sum_parts xs bs s in
    record { left = p.left; right = p.right; of_left = skip p.of_left; of_right = p.of_right; sum = p.sum }
sum_parts (a ∷ xs) bs (add s e) =
    let p = sum_parts xs bs s in
    record {
      left = a ⊕ p.left;
      right = p.right;
      of_left = add p.of_left refl;
      of_right = p.of_right;
      sum = e ∙ ap (λ (z : ℕ). a ⊕ z) p.sum ∙ sym (⊕_assoc a p.left p.right);
    }

-- ---- what reduction does with sums
-- an additive function that is 0 at the rows is 0 at their sums
sum_unseen : (g : ℕ → ℕ) → Additive g → {rs : List ℕ} {v : ℕ} → Sum rs v → Each (λ r. g r ≡ 0) rs → g v ≡ 0
sum_unseen g sums (none e) zeros = ap g e ∙ additive_zero g sums
sum_unseen g sums (skip s) zeros = sum_unseen g sums s zeros.1
sum_unseen g sums (add {r} {u} s e) zeros = ap g e ∙ sums r u ∙ ap₂ ◌⊕◌ zeros.0 (sum_unseen g sums s zeros.1) ∙ ⊕_self 0

reduced_unchanged : (rs : List ℕ) (x : ℕ) {u : ℕ} → Sum rs u → reduced rs (x ⊕ u) ≡ reduced rs x
reduced_unchanged rs x {u} s =
    let g = reduced rs in
    reduce_additive (basis rs) x u ∙ ap (λ (z : ℕ). g x ⊕ z) (sum_unseen g (reduce_additive (basis rs)) s (reduced_rows rs)) ∙ ⊕_zero (g x)

-- reducing adds a sum of the rows
reduced_adds : (rs : List ℕ) (x : ℕ) → (u : ℕ) × Sum rs u × (reduced rs x ≡ x ⊕ u)
unfolding basis reduce reduce_by
reduced_adds [] x = (0, none refl, sym (⊕_zero x))
reduced_adds (r ∷ rs) x = go (reduced_adds rs x) (reduced_adds rs r)
  where
    go : (u : ℕ) × Sum rs u × (reduced rs x ≡ x ⊕ u) → (u : ℕ) × Sum rs u × (reduced rs r ≡ r ⊕ u)
        → (u : ℕ) × Sum (r ∷ rs) u × (min (reduced rs x) (reduced rs x ⊕ reduced rs r) ≡ x ⊕ u)
    go (u, s, e) (t, k, h) =
        min_either (λ w. (u : ℕ) × Sum (r ∷ rs) u × (w ≡ x ⊕ u)) (reduced rs x) (reduced rs x ⊕ reduced rs r) (u, skip s, e)
        (r ⊕ (u ⊕ t), add (sum_sums s k) refl, rw (e, h) (simp ⊕_sums))

-- ---- relations and free rows
-- a relation of free rows has more than c digits
pub newest_heavy : (c : ℕ) (rs : List ℕ) (v : ℕ) → Newest rs v → Free c rs → 2 ^ c ≤ v
unfolding Newest Free
newest_heavy c [] v h free = elim h [ ]
newest_heavy c (r ∷ rs) v (u, s, e) free =
    let same : reduced rs v ≡ reduced rs r = ap (reduced rs) e ∙ reduced_unchanged rs r s in
    omega (arith, reduce_le (basis rs) v, free.0)

-- and the newest row, reduced by the others, is a relation
pub newest_reduced : (r : ℕ) (rs : List ℕ) → Newest (r ∷ rs) (reduced rs r)
unfolding Newest
newest_reduced r rs = reduced_adds rs r
