-- Partial quotients as Euclid's algorithm has them: p = A1 q + r1, q = A2 r1 + r2, .., each remainder of smaller degree than its divisor, until the
-- remainder is 0. There is one such list, the definition's, as division has one quotient and one remainder. The last divisor divides p and q;
-- so where q has an inverse modulo p it is 1, and what is asked of the pair is the degree of its quotients alone. Assumes nothing.
use Rattle.std.specs.Prelude.{◌≡◌, refl, ◌↔◌, true, false, not, ℕ, ◌^◌, ◌≤◌, ◌<◌}
use Rattle.std.proofs.Common.{sym, ap, ap₂, ◌∙◌, subst, arith}
use Rattle.std.proofs.Math.Bool.{and-true}
use Rattle.std.proofs.lemmas.Bool.{false≢true, eqb-false, not-true}
use mathlib.Core.List.{List, [], ◌∷◌, Memᴰ}
use Rattle.definitions.specs.Number.{all}
use Rattle.definitions.specs.Polynomial.{◌⊕◌, degree, prod, quot, rem}
use Rattle.definitions.specs.Generator.{found, expansion, linear, linear_quotients}
use Rattle.number_laws.specs.Truth.{by_test, le_unless, truth_false}
use Rattle.polynomial_laws.specs.Sum.{⊕_zero}
use Rattle.polynomial_laws.specs.Product.{zero_prod, one_prod, prod_zero}
use Rattle.polynomial_laws.specs.Degree.{HasDegree, degree_unique}
use Rattle.polynomial_laws.specs.Division.{division, division_unique, rem_lt, rem_zero, rem-⊕, rem_multiple, rem_prod_left, rem_prod_right, rem_of_factor}
use Rattle.polynomial_laws.specs.Power.{rem_one}
use Rattle.fraction_laws.specs.Expansion.{expansion_zero, expansion_more, euclid_ind}
use Rattle.fraction_laws.specs.Quotients.{Linear, one, linear_quotients_is}

-- `PartialQuotients p q l`: l are the quotients of Euclid's algorithm on (p, q), so q/p = [0; l].
pub data PartialQuotients : ℕ → ℕ → List ℕ → Type 0 where
  ended : {p : ℕ} → PartialQuotients p 0 []
  divided : {p q a r : ℕ} {l : List ℕ} → 0 < q → prod a q ⊕ r ≡ p → r < 2 ^ degree q → PartialQuotients q r l → PartialQuotients p q (a ∷ l)

-- Every partial quotient of q/p has degree one.
pub record EveryQuotientLinear (p q : ℕ) : Type 0 where
  pub quotients : List ℕ
  pub euclid : PartialQuotients p q quotients
  pub linear : Linear quotients

-- Some partial quotient of q/p has another degree.
pub record SomeQuotientNotLinear (p q : ℕ) : Type 0 where
  pub quotients : List ℕ
  pub euclid : PartialQuotients p q quotients
  pub quotient : ℕ
  pub among : Memᴰ quotient quotients
  pub other : ¬ HasDegree quotient 1

-- ---- the definition's list, and no other

pub expansion_euclid : (p q : ℕ) → PartialQuotients p q (expansion p q).quotients
unfolding found
expansion_euclid = euclid_ind (λ p q. PartialQuotients p q (expansion p q).quotients) (λ p. rw expansion_zero ended)
    (λ p q pos w. rw (expansion_more p q pos) (divided pos (division q pos p) (rem_lt q pos p) w))

pub euclid_expansion : {p q : ℕ} {l : List ℕ} → PartialQuotients p q l → l ≡ (expansion p q).quotients
unfolding found
euclid_expansion (ended {p}) = rw expansion_zero
euclid_expansion (divided {p} {q} {a} {r} {l} pos e small w) =
    let d = division_unique q pos p a r e small in
    rw (expansion_more p q pos) (ap₂ ◌∷◌ d.0 (euclid_expansion w ∙ ap (λ x. (expansion q x).quotients) d.1))

-- ---- the last divisor divides both

pub record Divides (g p q : ℕ) : Type 0 where
  pub positive : 0 < g
  pub left : rem p g ≡ 0
  pub right : rem q g ≡ 0

-- from (q, r) with p = A q + r to (p, q)
divides_step : (g a p q r : ℕ) → prod a q ⊕ r ≡ p → Divides g q r → Divides g p q
divides_step g a p q r whole h =
    let pos = h.positive in
    let product : rem (prod a q) g ≡ 0 = sym (rem_prod_right g pos a q) ∙ rw (h.left, prod_zero) (rem_zero g) in
    record { positive = pos; left = rw (← whole, rem-⊕ g pos, product, h.right) (⊕_zero 0); right = h.left }

divides_last : (p : ℕ) → 0 < p → Divides (expansion p 0).common p 0
divides_last p pos = rw expansion_zero (record { positive = pos; left = rw one_prod at (rem_multiple p pos 1); right = rem_zero p })

pub common_divides : (p q : ℕ) → 0 < p → Divides (expansion p q).common p q
unfolding found
common_divides = euclid_ind (λ p q. 0 < p → Divides (expansion p q).common p q) divides_last (λ p q pos h some.
    rw (expansion_more p q pos) (divides_step _ (quot p q) p q (rem p q) (division q pos p) (h pos)))

-- AN INVERTIBLE q HAS NO COMMON FACTOR WITH p: modulo a common factor g, q r = 1 would be 0.
pub inverse_only : (p q r g : ℕ) → 0 < p → rem (prod q r) p ≡ 1 → 0 < g → rem p g ≡ 0 → rem q g ≡ 0 → g ≡ 1
inverse_only p q r g some inverse pos left right =
    let modulo-p : rem 1 g ≡ rem (prod q r) g = ap (λ x. rem x g) (sym inverse) ∙ rem_of_factor g p pos some left (prod q r) in
    let vanishes : rem 1 g ≡ 0 = modulo-p ∙ sym (rem_prod_left g pos q r) ∙ rw (right, zero_prod) (rem_zero g) in
    let small : g ≤ 1 = le_unless (λ large. omega (arith, rem_one g large)) in
    omega arith

inverse_coprime : (p q r : ℕ) → 0 < p → rem (prod q r) p ≡ 1 → (expansion p q).common ≡ 1
inverse_coprime p q r some inverse =
    let d = common_divides p q some in
    inverse_only p q r (expansion p q).common some inverse d.positive d.left d.right

-- ---- the test, where q has an inverse

not_linear : (l : List ℕ) → all linear l ≡ false → (a : ℕ) × Memᴰ a l × (¬ HasDegree a 1)
unfolding all
not_linear [] f = absurd (false≢true (sym f))
not_linear (a ∷ l) f =
    by_test (linear a)
    (λ t. let rest = not_linear l (rw t at f) in (rest.0, Memᴰ.tail rest.1, rest.2))
    (λ t. (a, Memᴰ.head refl, λ h. eqb-false (degree a) 1 t (degree_unique a 1 h)))

member_linear : {l : List ℕ} {a : ℕ} → Linear l → Memᴰ a l → HasDegree a 1
member_linear Linear.none i = elim i [ ]
member_linear (one h rest) (Memᴰ.head e) = rw e h
member_linear (one h rest) (Memᴰ.tail i) = member_linear rest i

coprime_test : (p q : ℕ) → (expansion p q).common ≡ 1 → linear_quotients p q ≡ all linear (expansion p q).quotients
unfolding linear_quotients
coprime_test p q e = rw e (and-true (all linear (expansion p q).quotients))

module _ (p q r : ℕ) (some : 0 < p) (inverse : rem (prod q r) p ≡ 1) where
  -- WHERE q HAS AN INVERSE, the quotients' degrees are all that is tested,
  pub linear_quotients_every : (linear_quotients p q ≡ true) ↔ EveryQuotientLinear p q
  linear_quotients_every = (
    λ t. record { quotients = _; euclid = expansion_euclid p q; linear = ((linear_quotients_is p q).0 t).linear },
    λ h. (linear_quotients_is p q).1 (record { linear = subst Linear (euclid_expansion h.euclid) h.linear; coprime = inverse_coprime p q r some inverse }),
  )

  -- and where the test fails some quotient has another degree.
  pub linear_quotients_other : (not (linear_quotients p q) ≡ true) ↔ SomeQuotientNotLinear p q
  linear_quotients_other = (to, from)
    where
      to : not (linear_quotients p q) ≡ true → SomeQuotientNotLinear p q
      to t =
          let a = not_linear (expansion p q).quotients (sym (coprime_test p q (inverse_coprime p q r some inverse)) ∙ not-true _ t) in
          record { quotients = _; euclid = expansion_euclid p q; quotient = a.0; among = a.1; other = a.2 }

      from : SomeQuotientNotLinear p q → not (linear_quotients p q) ≡ true
      from h =
          let fails : linear_quotients p q ≡ false =
          truth_false _ (λ t. h.other (member_linear ((linear_quotients_is p q).0 t).linear (rw (euclid_expansion h.euclid) at h.among))) in
          rw fails
