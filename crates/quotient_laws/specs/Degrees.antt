-- How bad a quotient is: K, the largest degree among the partial quotients of q/p as Euclid's algorithm on (p, q) finds them, and the degree of the
-- common factor. Each quotient's degree is the difference of two degrees that follow each other, so all degrees together are p's, and none is 0.
-- So for a well-formed pair K is 1 and there is no common factor just where the quotients are linear, and else without one K is 2 at least.
-- Assumes nothing.
use Rattle.std.specs.Prelude.{◌≡◌, refl, ◌↔◌, true, false, ℕ, ◌+◌, ◌^◌, ◌≤◌, ◌<◌}
use Rattle.std.proofs.Common.{sym, ap, ◌∙◌, arith, eqb-true, eq-eqb}
use Rattle.std.proofs.Math.Bool.{and-eq-true_iff}
use mathlib.Core.List.{map, Memᴰ}
use Rattle.definitions.specs.Polynomial.{degree, prod, quot, rem}
use Rattle.definitions.specs.Generator.{found, expansion, linear, linear_quotients, quotient_degree, common_degree, tree}
use Rattle.number_laws.specs.Truth.{le_unless, not_both}
use Rattle.polynomial_laws.specs.Sum.{zero-⊕}
use Rattle.polynomial_laws.specs.Degree.{degree_is, degree_unique, degree_least, degree_most, positive, power_degree}
use Rattle.polynomial_laws.specs.Product.{prod_zero}
use Rattle.polynomial_laws.specs.Division.{division, rem_lt, rem_zero, rem_small, rem-⊕, rem_prod_right}
use Rattle.polynomial_laws.specs.Power.{rem_one}
use Rattle.fraction_laws.specs.WellFormed.{WellFormed, well_formed_is}
use Rattle.fraction_laws.specs.Tree.{tree_sound, tree_complete}
use Rattle.fraction_laws.specs.Expansion.{expansion_zero, expansion_more, euclid_ind}
use Rattle.fraction_laws.specs.Quotients.{linear_quotients_zero, linear_quotients_step}
use Rattle.fraction_laws.specs.Euclid.{Divides, common_divides}
use Rattle.fraction_laws.specs.Degrees.{quotient_degree_zero, quotient_degree_more, common_degree_zero, common_degree_more, quotient_drop}
use Rattle.net_laws.specs.Net.{total}

-- The degrees of the partial quotients, all together.
unfoldable pub total_degree : ℕ → ℕ → ℕ
total_degree p q = total (map degree (expansion p q).quotients)

total_degree_zero : (p : ℕ) → total_degree p 0 ≡ 0
unfolding total_degree total
total_degree_zero p = rw expansion_zero

module _ (p q : ℕ) (nonzero : 0 < q) where
  total_degree_more : total_degree p q ≡ degree (quot p q) + total_degree q (rem p q)
  unfolding total_degree total found
  total_degree_more = rw (expansion_more p q nonzero)

-- Of the two that Euclid's algorithm goes on with, the second has the smaller degree or is 0.
pub record Falling (p q : ℕ) : Type 0 where
  pub some : 0 < p
  pub smaller : q < 2 ^ degree p

pub falling_next : (p q : ℕ) → 0 < q → Falling q (rem p q)
falling_next p q nonzero = record { some = nonzero; smaller = rem_lt q nonzero p }

module _ {p q : ℕ} (f : Falling p q) (nonzero : 0 < q) where
  pub falling_degree : degree q < degree p
  falling_degree = degree_most q (degree p) nonzero f.smaller

  pub quotient_difference : degree p ≡ degree (quot p q) + degree q
  quotient_difference = omega (arith, quotient_drop p q nonzero, falling_degree)

  quotient_degree_some : 1 ≤ quotient_degree p q
  quotient_degree_some = omega (arith, quotient_degree_more p q nonzero, quotient_difference, falling_degree)

-- ALL DEGREES TOGETHER ARE p'S.
degrees_together : (p q : ℕ) → Falling p q → total_degree p q + common_degree p q ≡ degree p
degrees_together = euclid_ind (λ p q. Falling p q → total_degree p q + common_degree p q ≡ degree p)
    (λ p f. omega (arith, total_degree_zero p, common_degree_zero p))
    (λ p q pos h f. omega (arith, total_degree_more p q pos, common_degree_more p q pos, quotient_difference f pos, h (falling_next p q pos)))

quotient_degree_within : (p q : ℕ) → Falling p q → quotient_degree p q + common_degree p q ≤ degree p
quotient_degree_within = euclid_ind (λ p q. Falling p q → quotient_degree p q + common_degree p q ≤ degree p)
    (λ p f. omega (arith, quotient_degree_zero p, common_degree_zero p))
    (λ p q pos h f. omega (arith, quotient_degree_more p q pos, common_degree_more p q pos, quotient_difference f pos, h (falling_next p q pos)))

-- 1 has degree 0, and no other
one_flat : degree 1 ≡ 0
one_flat = degree_unique 1 0 (power_degree 0)

one_degree : (p : ℕ) → 0 < p → degree p ≡ 0 → p ≡ 1
one_degree p pos e = let h = rw e at (degree_is p pos) in omega arith

-- THE TEST BY THE TWO NUMBERS.
abbrev Told : ℕ → ℕ → Type 0
Told p q = Falling p q → (linear_quotients p q ≡ true) ↔ ((quotient_degree p q ≤ 1) × (common_degree p q ≡ 0))

told_zero : (p : ℕ) → Told p 0
told_zero p f = (
  λ t.
      let one : p ≡ 1 = eqb-true p 1 (sym (linear_quotients_zero p) ∙ t) in
      (omega (arith, quotient_degree_zero p), common_degree_zero p ∙ ap degree one ∙ one_flat),
  λ h. linear_quotients_zero p ∙ eq-eqb p 1 (one_degree p f.some (sym (common_degree_zero p) ∙ h.1)),
)

told_more : (p q : ℕ) → 0 < q → Told q (rem p q) → Told p q
told_more p q pos h f =
    let ih = h (falling_next p q pos) in
    let d = quotient_difference f pos in
    let l = falling_degree f pos in
    let max-is = quotient_degree_more p q pos in (
      λ t.
          let both = (and-eq-true_iff (linear (quot p q)) (linear_quotients q (rem p q))).0 (sym (linear_quotients_step p q pos) ∙ t) in
          let rest = ih.0 both.1 in
          (omega (arith, eqb-true (degree (quot p q)) 1 both.0, rest.0), common_degree_more p q pos ∙ rest.1),
      λ k.
          let here : degree (quot p q) ≡ 1 = omega (arith, k.0) in
          let rest : quotient_degree q (rem p q) ≤ 1 = omega (arith, k.0) in
          linear_quotients_step p q pos
          ∙ (and-eq-true_iff (linear (quot p q)) (linear_quotients q (rem p q))).1
          (eq-eqb (degree (quot p q)) 1 here, ih.1 (rest, sym (common_degree_more p q pos) ∙ k.1)),
    )

told : (p q : ℕ) → Told p q
told = euclid_ind Told told_zero told_more

-- ---- the common factor, in words

-- what divides p and q divides each remainder, and so the last divisor
divisor_next : (g p q : ℕ) → 0 < g → 0 < q → rem p g ≡ 0 → rem q g ≡ 0 → rem (rem p q) g ≡ 0
divisor_next g p q pos nonzero left right =
    let product : rem (prod (quot p q) q) g ≡ 0 = sym (rem_prod_right g pos (quot p q) q) ∙ rw (right, prod_zero) (rem_zero g) in
    (rw (rem-⊕ g pos, product, zero-⊕) at (ap (λ z. rem z g) (division q nonzero p))) ∙ left

common_greatest : (g : ℕ) → 0 < g → (p q : ℕ) → rem p g ≡ 0 → rem q g ≡ 0 → rem (expansion p q).common g ≡ 0
unfolding found
common_greatest g pos = euclid_ind (λ p q. rem p g ≡ 0 → rem q g ≡ 0 → rem (expansion p q).common g ≡ 0) (λ p left right. rw expansion_zero left)
    (λ p q nonzero h left right. rw (expansion_more p q nonzero) (h right (divisor_next g p q pos nonzero left right)))

-- d is the degree of the greatest common factor of p and q, which every common factor divides.
pub record CommonFactor (p q d : ℕ) : Type 0 where
  pub factor : ℕ
  pub divides : Divides factor p q
  pub greatest : (g : ℕ) → Divides g p q → rem factor g ≡ 0
  pub has : degree factor ≡ d

pub common_degree_factor : (p q : ℕ) → 0 < p → CommonFactor p q (common_degree p q)
unfolding common_degree
common_degree_factor p q some = record {
  factor = (expansion p q).common;
  divides = common_divides p q some;
  greatest = λ g h. common_greatest g h.positive p q h.left h.right;
  has = refl;
}

-- a polynomial other than 0 has at least the degree of one that divides it, so two that divide each other have one degree
divisor_degree : (a g : ℕ) → 0 < a → 0 < g → rem a g ≡ 0 → degree g ≤ degree a
divisor_degree a g some pos none =
    degree_least a (degree g) (le_unless (λ (l : a < 2 ^ degree g). omega (arith, rem_small g pos a l)))

pub factor_common_degree : (p q d : ℕ) → 0 < p → CommonFactor p q d → common_degree p q ≡ d
factor_common_degree p q d some h =
    let k = common_degree_factor p q some in
    let a = k.factor in
    let b = h.factor in
    let up = divisor_degree a b k.divides.positive h.divides.positive (k.greatest b h.divides) in
    let down = divisor_degree b a h.divides.positive k.divides.positive (h.greatest a k.divides) in
    omega (arith, k.has, h.has)

-- There is none where only 1 divides both.
pub no_common : (p q : ℕ) → 0 < p → (common_degree p q ≡ 0) ↔ ((g : ℕ) → 0 < g → rem p g ≡ 0 → rem q g ≡ 0 → g ≡ 1)
unfolding common_degree
no_common p q some =
    let d = common_divides p q some in (
      λ none g pos left right.
          let one : (expansion p q).common ≡ 1 = one_degree _ d.positive none in
          let gone : rem 1 g ≡ 0 = rw one at (common_greatest g pos p q left right) in
          let small : g ≤ 1 = le_unless (λ large. omega (arith, rem_one g large)) in
          omega arith,
      λ only. ap degree (only (expansion p q).common d.positive d.left d.right) ∙ one_flat,
    )

-- ---- well-formed pairs

module _ {m p q : ℕ} (w : WellFormed m p q) where
  pub well_formed_falling : Falling p q
  well_formed_falling = record { some = positive w.degree_p; smaller = rw (degree_unique p m w.degree_p) w.smaller }

  pub quotient_degree_least : 1 ≤ quotient_degree p q
  quotient_degree_least = quotient_degree_some well_formed_falling w.nonzero

  pub quotient_degree_most : quotient_degree p q + common_degree p q ≤ m
  quotient_degree_most = omega (arith, quotient_degree_within p q well_formed_falling, degree_unique p m w.degree_p)

  -- THE DEGREES OF THE QUOTIENTS AND OF THE COMMON FACTOR ADD UP TO m.
  pub degrees_sum : total_degree p q + common_degree p q ≡ m
  degrees_sum = degrees_together p q well_formed_falling ∙ degree_unique p m w.degree_p

  pub total_degree_sum : common_degree p q ≡ 0 → total_degree p q ≡ m
  total_degree_sum none = omega (arith, degrees_sum)

  -- THE QUOTIENTS ARE LINEAR just where K = 1 and there is no common factor,
  pub linear_degrees : (linear_quotients p q ≡ true) ↔ ((quotient_degree p q ≡ 1) × (common_degree p q ≡ 0))
  linear_degrees = (
    λ t. let h = (told p q well_formed_falling).0 t in (omega (arith, h.0, quotient_degree_least), h.1),
    λ h. (told p q well_formed_falling).1 (omega (arith, h.0), h.1),
  )

  -- and where they are not, and there is none, K is 2 at least.
  pub quotient_degree_other : common_degree p q ≡ 0 → linear_quotients p q ≡ false → 2 ≤ quotient_degree p q
  quotient_degree_other none fails =
      let h : quotient_degree p q < 2 → ⊥ = λ l. not_both ((told p q well_formed_falling).1 (omega arith, none)) fails in
      le_unless h

-- THE TREE has just the well-formed pairs with K = 1 and no common factor.
pub tree_degrees : (m p q : ℕ) → 1 ≤ m
    → Memᴰ (record { p = p; q = q }) (tree m) ↔ (WellFormed m p q × (quotient_degree p q ≡ 1) × (common_degree p q ≡ 0))
tree_degrees m p q least = (
  λ i.
      let t = tree_sound m (record { p = p; q = q }) least i in
      let w = (well_formed_is m p q).0 t.is_well_formed in
      let h = (linear_degrees w).0 t.quotients in
      (w, h.0, h.1),
  λ h.
      tree_complete m (record { p = p; q = q })
      (record { is_well_formed = (well_formed_is m p q).1 h.0; quotients = (linear_degrees h.0).1 (h.1, h.2) }),
)
