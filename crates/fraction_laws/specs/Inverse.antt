-- Euclid's algorithm writes the common factor as a sum of multiples of p and q. So where the common factor is 1 and p has degree one at least, q
-- has an inverse modulo p; that is so for every pair with linear quotients. Assumes nothing.
use Rattle.std.specs.Prelude.{◌≡◌, true, ℕ, ◌^◌, ◌≤◌, ◌<◌}
use Rattle.std.proofs.Common.{◌∙◌, arith}
use Rattle.definitions.specs.Polynomial.{◌⊕◌, degree, prod, quot, rem}
use Rattle.definitions.specs.Generator.{found, expansion, linear_quotients}
use Rattle.polynomial_laws.specs.Sum.{⊕_sums, ⊕_zero}
use Rattle.polynomial_laws.specs.Product.{⊕-prod, prod-⊕, prod_zero, prod_one, prod_comm, prod_factors}
use Rattle.polynomial_laws.specs.Division.{division, rem_lt, rem_unique, rem_prod_right}
use Rattle.polynomial_laws.specs.Power.{one_small}
use Rattle.fraction_laws.specs.Expansion.{expansion_zero, expansion_more, euclid_ind}
use Rattle.fraction_laws.specs.Quotients.{linear_quotients_is}

-- p u + q v = g
record Combination (p q g : ℕ) : Type 0 where
  u : ℕ
  v : ℕ
  sum : prod p u ⊕ prod q v ≡ g

-- from (q, r) with p = A q + r to (p, q): q u + r v = p v + q (u + A v)
combination_step : (a p q r g : ℕ) → prod a q ⊕ r ≡ p → Combination q r g → Combination p q g
combination_step a p q r g whole h =
    let v = h.v in
    let e : prod p v ≡ prod q (prod a v) ⊕ prod r v = rw (← whole, ⊕-prod) (simp prod_factors) in
    record { u = v; v = h.u ⊕ prod a v; sum = rw (e, prod-⊕) (swapped (prod q (prod a v)) (prod r v) (prod q h.u)) ∙ h.sum }
  where
    swapped : (x y z : ℕ) → (x ⊕ y) ⊕ (z ⊕ x) ≡ z ⊕ y
    swapped x y z = simp ⊕_sums

combination_last : (p : ℕ) → Combination p 0 (expansion p 0).common
combination_last p = rw expansion_zero (record { u = 1; v = 0; sum = rw (prod_one, prod_zero, ⊕_zero) })

combination : (p q : ℕ) → Combination p q (expansion p q).common
unfolding found
combination = euclid_ind (λ p q. Combination p q (expansion p q).common) combination_last (λ p q pos h.
    rw (expansion_more p q pos) (combination_step (quot p q) p q (rem p q) _ (division q pos p) h))

-- r is q's inverse modulo p
pub record Inverse (p q : ℕ) : Type 0 where
  pub r : ℕ
  pub smaller : r < 2 ^ degree p
  pub inverse : rem (prod q r) p ≡ 1

pub linear_invertible : (p q : ℕ) → 2 ≤ p → linear_quotients p q ≡ true → Inverse p q
linear_invertible p q big t =
    let pos : 0 < p = omega arith in
    let h = combination p q in
    let e : prod h.u p ⊕ 1 ≡ prod q h.v = rw (← ((linear_quotients_is p q).0 t).coprime, ← h.sum, prod_comm h.u p) (simp ⊕_sums) in
    record {
      r = rem h.v p;
      smaller = rem_lt p pos h.v;
      inverse = rem_prod_right p pos q h.v ∙ rw (← e) (rem_unique p pos h.u 1 (one_small p big));
    }
