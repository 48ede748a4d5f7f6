-- Well-formed by degrees: p is not 0 and has the degree m, and q is not 0 and has a smaller one. Assumes nothing.
use mathlib.Core.Path.{◌≡◌}
use mathlib.Core.Bool.{false}
use Prim.Native.Nat.{ℕ, suc, ◌^◌, ◌≤◌, ◌<◌}
use native.Mathlib.Nat.{pow-suc}
use native.Mathlib.Omega.{arith}
use lib.Dec.{ltb}
use lib.Pow.{pow_mono}
use borrow.Author.Tests.{lt-ltb, ltb-true}
use Rattle.definitions.specs.Polynomial.{degree}
use Rattle.definitions.specs.Generator.{well_formed}
use Rattle.number_laws.specs.Truth.{truth_false, truth_equal}
use Rattle.polynomial_laws.specs.Degree.{HasDegree, degree_is, degree_unique, degree_most, positive}
use Rattle.fraction_laws.specs.WellFormed.{well_formed_is}

module _ (m p q : ℕ) where
  pub zero_p : p ≡ 0 → well_formed m p q ≡ false
  zero_p e = truth_false _ (λ t. omega (arith, positive ((well_formed_is m p q).0 t).degree_p))

  pub wrong_degree : (degree p ≡ m → ⊥) → well_formed m p q ≡ false
  wrong_degree other = truth_false _ (λ t. other (degree_unique p m ((well_formed_is m p q).0 t).degree_p))

  pub zero_q : q ≡ 0 → well_formed m p q ≡ false
  zero_q e = truth_false _ (λ t. omega (arith, ((well_formed_is m p q).0 t).nonzero))

  pub smaller_degree : 0 < p → degree p ≡ m → 0 < q → ltb (degree q) m ≡ well_formed m p q
  smaller_degree pos same some = truth_equal (ltb (degree q) m) (well_formed m p q) (
    λ t.
        let below : 2 ^ suc (degree q) ≤ 2 ^ m = pow_mono (ltb-true (degree q) m t) in
        let of_p : HasDegree p m = rw same at (degree_is p pos) in
        (well_formed_is m p q).1
        (record { degree_p = of_p; nonzero = some; smaller = omega (arith, (degree_is q some).most, pow-suc 2 (degree q)) }),
    λ t. lt-ltb (degree q) m (degree_most q m some ((well_formed_is m p q).0 t).smaller),
  )
