-- Continuants are symmetric. Quotients A1 .. Am make a matrix, the product of the factors (A 1; 1 0). Its first column is the pair (p, q) that has
-- these quotients, its first row begins p, u, and its determinant is 1, so q u ≡ 1 (mod p). Each factor is symmetric, so the matrix turned over its
-- diagonal is the product in reverse order: the pair (p, u) has the same quotients in reverse order. Assumes nothing.
use Rattle.std.specs.Prelude.{◌≡◌, refl, ℕ, zero, suc, ◌≤◌, ◌<◌, length}
use Rattle.std.proofs.Common.{sym, ap, ◌∙◌, subst, arith}
use mathlib.Core.List.{List, [], ◌∷◌, ◌++◌, reverse, reverse-cons}
use Rattle.std.proofs.lemmas.List.{length-reverse}
use Rattle.definitions.specs.Polynomial.{◌⊕◌, prod, rem}
use Rattle.definitions.specs.Generator.{Pair, child, expansion}
use Rattle.polynomial_laws.specs.Sum.{⊕_sums, zero-⊕, ⊕_zero}
use Rattle.polynomial_laws.specs.Product.{one_prod, zero_prod, prod_zero, ⊕-prod, prod-⊕, prod_comm, prod_factors}
use Rattle.polynomial_laws.specs.Degree.{HasDegree}
use Rattle.polynomial_laws.specs.Division.{rem_unique}
use Rattle.polynomial_laws.specs.Power.{one_small}
use Rattle.fraction_laws.specs.WellFormed.{proper_positive, proper_smaller}
use Rattle.fraction_laws.specs.Euclid.{PartialQuotients, ended, divided, euclid_expansion}
use Rattle.fraction_laws.specs.Level.{Grown, root_grown, proper_root, child_grown, grown_hangs}

-- ---- matrices

-- The columns are (p, q) and (u, v).
record Matrix : Type 0 where
  p : ℕ
  q : ℕ
  u : ℕ
  v : ℕ

abbrev identity : Matrix
identity = record { p = 1; q = 0; u = 0; v = 1 }

-- The factor of a put in front of a matrix, and behind it.
abbrev in_front : ℕ → Matrix → Matrix
in_front a M = record { p = prod a M.p ⊕ M.q; q = M.p; u = prod a M.u ⊕ M.v; v = M.u }

abbrev behind : ℕ → Matrix → Matrix
behind a M = record { p = prod a M.p ⊕ M.u; q = prod a M.q ⊕ M.v; u = M.p; v = M.q }

abbrev turned : Matrix → Matrix
turned M = record { p = M.p; q = M.u; u = M.q; v = M.v }

abbrev column : Matrix → Pair
column M = record { p = M.p; q = M.q }

-- M is the product of the factors of l, each of degree one.
data Product : List ℕ → Matrix → Type 0 where
  none : Product [] identity
  more : {a : ℕ} {l : List ℕ} {M : Matrix} → HasDegree a 1 → Product l M → Product (a ∷ l) (in_front a M)

-- ---- the product turned

alone : (a : ℕ) → in_front a identity ≡ behind a identity
alone a = λ i. record { p = prod a 1 ⊕ 0; q = sym one i; u = one i; v = 0 }
  where
    one : prod a 0 ⊕ 1 ≡ 1
    one = rw (prod_zero, zero-⊕)

-- a in front and b behind, in either order
either_first : (a b : ℕ) (M : Matrix) → in_front a (behind b M) ≡ behind b (in_front a M)
either_first a b M = λ i. record { p = same i; q = prod b M.p ⊕ M.u; u = prod a M.p ⊕ M.q; v = M.p }
  where
    same : prod a (prod b M.p ⊕ M.u) ⊕ (prod b M.q ⊕ M.v) ≡ prod b (prod a M.p ⊕ M.q) ⊕ (prod a M.u ⊕ M.v)
    same = simp (prod-⊕, prod_factors, ⊕_sums)

product_behind : (b : ℕ) → HasDegree b 1 → {l : List ℕ} {M : Matrix} → Product l M → Product (l ++ (b ∷ [])) (behind b M)
product_behind b hb none = subst (Product (b ∷ [])) (alone b) (more hb none)
product_behind b hb (more {a} {l} {M} ha w) = subst (Product (a ∷ (l ++ (b ∷ [])))) (either_first a b M) (more ha (product_behind b hb w))

product_turned : {l : List ℕ} {M : Matrix} → Product l M → Product (reverse l) (turned M)
product_turned none = none
product_turned (more {a} {l} {M} ha w) =
    subst (λ (k : List ℕ). Product k (turned (in_front a M))) (sym (reverse-cons a l)) (product_behind a ha (product_turned w))

-- ---- its first column and its determinant

product_grown : {l : List ℕ} {M : Matrix} → Product l M → Grown (length l) (column M)
unfolding child
product_grown none = root_grown
product_grown (more ha w) = child_grown ha (product_grown w)

product_quotients : {l : List ℕ} {M : Matrix} → Product l M → PartialQuotients M.p M.q l
product_quotients none = ended
product_quotients (more ha w) =
    let h = (product_grown w).proper in
    divided (proper_positive h) refl (proper_smaller h) (product_quotients w)

product_one : {l : List ℕ} {M : Matrix} → Product l M → prod M.p M.v ⊕ prod M.q M.u ≡ 1
product_one none = rw (one_prod, zero_prod, ⊕_zero)
product_one (more {a} {l} {M} ha w) =
    let e : prod (prod a M.p) M.u ≡ prod M.p (prod a M.u) = simp prod_factors in
    rw (⊕-prod, prod-⊕, e) (cancelled (prod M.p (prod a M.u)) (prod M.q M.u) (prod M.p M.v)) ∙ product_one w
  where
    cancelled : (x y z : ℕ) → (x ⊕ y) ⊕ (x ⊕ z) ≡ z ⊕ y
    cancelled x y z = simp ⊕_sums

-- ---- every pair with linear quotients is such a column

record Factored (m : ℕ) (s : Pair) : Type 0 where
  quotients : List ℕ
  u : ℕ
  v : ℕ
  product : Product quotients (record { p = s.p; q = s.q; u = u; v = v })
  count : length quotients ≡ m

grown_factored : (m : ℕ) (s : Pair) → Grown m s → Factored m s
unfolding child
grown_factored zero s g =
    subst (Factored 0) (sym (proper_root s g.proper)) (record { quotients = []; u = 0; v = 1; product = none; count = refl })
grown_factored (suc m) s g =
    let h = grown_hangs m s g in
    let f = grown_factored m h.above h.grown in
    subst (Factored (suc m)) h.is
    (record {
      quotients = h.a ∷ f.quotients;
      u = prod h.a f.u ⊕ f.v;
      v = f.u;
      product = more h.linear_a f.product;
      count = ap suc f.count;
    })

-- The pair with the quotients of q/p in reverse order: p, and an inverse of q modulo p.
pub record Reversed (m p q : ℕ) : Type 0 where
  pub r : ℕ
  pub grown : Grown m (record { p = p; q = r })
  pub inverse : rem (prod q r) p ≡ 1
  pub quotients : (expansion p r).quotients ≡ reverse (expansion p q).quotients

pub reversed : (m p q : ℕ) → 2 ≤ p → Grown m (record { p = p; q = q }) → Reversed m p q
reversed m p q big g =
    let f = grown_factored m (record { p = p; q = q }) g in
    let w = f.product in
    let t = product_turned w in
    let pos : 0 < p = omega arith in
    let count : length (reverse f.quotients) ≡ m = length-reverse f.quotients ∙ f.count in
    let e : prod f.v p ⊕ 1 ≡ prod q f.u = rw (← product_one w, prod_comm f.v p) (simp ⊕_sums) in
    record {
      r = f.u;
      grown = subst (λ (n : ℕ). Grown n (record { p = p; q = f.u })) count (product_grown t);
      inverse = rw (← e) (rem_unique p pos f.v 1 (one_small p big));
      quotients = sym (euclid_expansion (product_quotients t)) ∙ ap reverse (euclid_expansion (product_quotients w));
    }
