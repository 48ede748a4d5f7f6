-- One level of the tree. Down by a quotient of degree one, p has one degree more and one linear quotient more; Euclid's step is the way back. So
-- every pair with linear quotients, p of degree m + 1, hangs below one whose p has degree m, and it has as many quotients as levels.
-- Assumes nothing.
use Rattle.std.specs.Prelude.{◌≡◌, true, length}
use Rattle.std.proofs.Math.Path.{refl}
use Rattle.std.proofs.Common.{sym, ap, ◌∙◌, subst, eqb-true}
use Rattle.std.proofs.Math.Bool.{and-eq-true_iff}
use Prim.Native.Nat.{ℕ, zero, suc, ◌+◌, ◌^◌, ◌≤◌, ◌<◌}
use native.Mathlib.Omega.{arith}
use Rattle.definitions.specs.Polynomial.{◌⊕◌, degree, prod, quot, rem}
use Rattle.definitions.specs.Generator.{found, expansion, linear, linear_quotients, Pair, child}
use Rattle.polynomial_laws.specs.Degree.{HasDegree, degree_is, degree_unique, add_degree}
use Rattle.polynomial_laws.specs.Product.{product_degree}
use Rattle.polynomial_laws.specs.Division.{division, quot_unique, rem_unique, rem_lt, quotient_degree_lem}
use Rattle.fraction_laws.specs.WellFormed.{Proper, proper_positive, proper_smaller, proper_degree}
use Rattle.fraction_laws.specs.Expansion.{expansion_zero, expansion_more}
use Rattle.fraction_laws.specs.Quotients.{LinearQuotients, linear_degree, linear_quotients_is, linear_quotients_zero, linear_quotients_step}
use Rattle.fraction_laws.specs.Quotients.{linear_quotients_next}

abbrev pub root : Pair
root = record { p = 1; q = 0 }

pub child_def : (a : ℕ) (s : Pair) → child a s ≡ record { p = prod a s.p ⊕ s.q; q = s.p }
child_def a s = unfold child in refl

-- One level up: Euclid's step.
unfoldable pub parent : Pair → Pair
parent s = record { p = s.q; q = rem s.p s.q }

-- ---- one level down and back
module _ (m a : ℕ) (s : Pair) where
  pub child_proper : HasDegree a 1 → Proper m s → Proper (suc m) (child a s)
  unfolding child
  child_proper ha h =
      let e : 1 + m ≡ suc m = omega arith in
      let k : HasDegree (prod a s.p) (suc m) = rw e at (product_degree 1 ha h.degree_p) in
      record { degree_p = add_degree k (omega (arith, h.smaller)); smaller = omega (arith, h.degree_p.most) }

  pub quotient_child : Proper m s → quot (child a s).p (child a s).q ≡ a
  unfolding child
  quotient_child h = quot_unique s.p (proper_positive h) a s.q (proper_smaller h)

  pub parent_child : Proper m s → parent (child a s) ≡ s
  unfolding child parent
  parent_child h = λ i. record { p = s.p; q = rem_unique s.p (proper_positive h) a s.q (proper_smaller h) i }

child_parent : (s : Pair) → 0 < s.q → child (quot s.p s.q) (parent s) ≡ s
unfolding child parent
child_parent s pos = λ i. record { p = division s.q pos s.p i; q = s.q }

-- ---- what grows on the tree at level m
pub record Grown (m : ℕ) (s : Pair) : Type 0 where
  pub proper : Proper m s
  pub quotients : linear_quotients s.p s.q ≡ true

pub root_proper : Proper 0 root
root_proper = record { degree_p = record { least = omega arith; most = omega arith }; smaller = omega arith }

pub root_grown : Grown 0 root
root_grown = record { proper = root_proper; quotients = linear_quotients_zero 1 }

pub proper_root : (s : Pair) → Proper 0 s → s ≡ root
proper_root s h =
    let one : s.p ≡ 1 = omega arith in
    let none : s.q ≡ 0 = omega arith in
    λ i. record { p = one i; q = none i }

pub child_grown : {m a : ℕ} {s : Pair} → HasDegree a 1 → Grown m s → Grown (suc m) (child a s)
unfolding child parent
child_grown {m} {a} {s} ha g =
    let h = child_proper m a s ha g.proper in
    record {
      proper = h;
      quotients = linear_quotients_next h.degree_p g.proper.degree_p ∙ ap (λ (t : Pair). linear_quotients t.p t.q) (parent_child m a s g.proper) ∙ g.quotients;
    }

pub grown_nonzero : (m p q : ℕ) → Grown (suc m) (record { p = p; q = q }) → 0 < q
grown_nonzero m p zero g =
    let one : p ≡ 1 = eqb-true p 1 (sym (linear_quotients_zero p) ∙ g.quotients) in
    absurd (omega (arith, g.proper.degree_p.least))
grown_nonzero m p (suc q) g = omega arith

-- s is one level below `above`, by the quotient a
pub record Hangs (m : ℕ) (s : Pair) : Type 0 where
  pub a : ℕ
  pub above : Pair
  pub linear_a : HasDegree a 1
  pub grown : Grown m above
  pub is : child a above ≡ s

pub grown_hangs : (m : ℕ) (s : Pair) → Grown (suc m) s → Hangs m s
unfolding parent
grown_hangs m s g = record { a = a; above = parent s; linear_a = one; grown = record { proper = proper; quotients = both.1 }; is = child_parent s pos }
  where
    pos : 0 < s.q
    pos = grown_nonzero m s.p s.q g

    a : ℕ
    a = quot s.p s.q

    both : (linear (quot s.p s.q) ≡ true) × (linear_quotients s.q (rem s.p s.q) ≡ true)
    both = (and-eq-true_iff _ _).0 (sym (linear_quotients_step s.p s.q pos) ∙ g.quotients)

    one : HasDegree (quot s.p s.q) 1
    one = linear_degree _ (eqb-true _ 1 both.0)

    degree_q : degree s.q ≡ m
    degree_q =
        let l : 2 ^ degree s.q ≤ s.p = omega (arith, (degree_is s.q pos).least, g.proper.smaller, g.proper.degree_p.least) in
        omega (arith, quotient_degree_lem s.q pos s.p l, proper_degree g.proper, degree_unique _ 1 one)

    proper : Proper m (parent s)
    proper = record {
      degree_p = subst (HasDegree s.q) degree_q (degree_is s.q pos);
      smaller = rw (← degree_q) (rem_lt s.q pos s.p);
    }

-- ---- the quotients are as many as levels
expansion_child : (m a : ℕ) (s : Pair) → Proper m s → expansion (child a s).p (child a s).q ≡ found a (expansion s.p s.q)
unfolding parent
expansion_child m a s h =
    let nonzero : 0 < (child a s).q = rw child_def (proper_positive h) in
    expansion_more (child a s).p (child a s).q nonzero
    ∙ rw (quotient_child m a s h) (ap (λ (t : Pair). found a (expansion t.p t.q)) (parent_child m a s h))

grown_count : (m : ℕ) (s : Pair) → Grown m s → length (expansion s.p s.q).quotients ≡ m
unfolding found
grown_count zero s g = ap (λ (t : Pair). length (expansion t.p t.q).quotients) (proper_root s g.proper) ∙ rw expansion_zero
grown_count (suc m) s g =
    let h = grown_hangs m s g in
    ap (λ (t : Pair). length (expansion t.p t.q).quotients) (sym h.is)
    ∙ rw (expansion_child m h.a h.above h.grown.proper) (ap suc (grown_count m h.above h.grown))

pub quotients_count : (m : ℕ) (s : Pair) → Proper m s → LinearQuotients s.p s.q → length (expansion s.p s.q).quotients ≡ m
quotients_count m s h t = grown_count m s (record { proper = h; quotients = (linear_quotients_is s.p s.q).1 t })
