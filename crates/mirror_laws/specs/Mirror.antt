-- The mirror of an accepted pair (p, q) is p with the inverse of q modulo p. There is one inverse; it has q's quotients in reverse order; and it is the
-- power of x that completes q to x^(2^m - 1) = 1, so its step is 2^m - 1 less that of q, and coprime to 2^m - 1 as that is. So the mirror is accepted,
-- its mirror is the pair, and it is another pair, since 2^m - 1 is odd. Assumes nothing.
use Rattle.std.specs.Prelude.{◌≡◌, ◌≢◌, true, reverse, ℕ, zero, suc, ◌+◌, ◌-◌, ◌^◌, ◌≤◌, ◌<◌}
use Rattle.std.proofs.Common.{sym, ap, ◌∙◌, arith, pow_pos}
use Rattle.std.proofs.Math.Nat.{dvd-sub}
use Rattle.std.proofs.Math.Dec.{eqb}
use borrow.Author.Tests.{eq-eqb, ne_eqb}
use Rattle.definitions.specs.Number.{first, gcd}
use Rattle.definitions.specs.Polynomial.{degree, prod, rem}
use Rattle.definitions.specs.Generator.{least_degree, period, well_formed, expansion, step, accepted, Pair}
use Rattle.number_laws.specs.First.{first_unique}
use Rattle.number_laws.specs.Gcd.{gcd_divides, coprime_only}
use Rattle.polynomial_laws.specs.Degree.{HasDegree, positive, degree_unique}
use Rattle.polynomial_laws.specs.Product.{one_prod, prod_comm, prod_factors}
use Rattle.polynomial_laws.specs.Division.{rem_lt, rem_small, rem_prod_left}
use Rattle.polynomial_laws.specs.Power.{rem_power_add}
use Rattle.fraction_laws.specs.WellFormed.{WellFormed, well_formed_is, well_formed_proper}
use Rattle.fraction_laws.specs.Level.{Grown, grown_nonzero}
use Rattle.order_laws.specs.Powers.{IsOrder}
use Rattle.order_laws.specs.Primitive.{primitive_order}
use Rattle.order_laws.specs.Cycle.{degree_big}
use Rattle.order_laws.specs.Step.{step_unique}
use Rattle.order_laws.specs.Orbit.{coprime_step_is}
use Rattle.order_laws.specs.Accepted.{Accepted, accepted_is, IsStep, coprime_step_lem}
use Rattle.mirror_laws.specs.Continuant.{Reversed, reversed}

-- The inverse of q modulo p of degree m: the first r with q r ≡ 1 (mod p); 2^m where there is none.
unfoldable pub inverse : ℕ → ℕ → ℕ → ℕ
inverse m p q = first (2 ^ m) 0 (λ (r : ℕ). eqb (rem (prod q r) p) 1)

abbrev pub mirror : ℕ → Pair → Pair
mirror m s = record { p = s.p; q = inverse m s.p s.q }

-- ---- a residue has one inverse at most

module _ (p : ℕ) (pos : 0 < p) (q : ℕ) where
  undone : (r s : ℕ) → r < 2 ^ degree p → rem (prod q s) p ≡ 1 → rem (prod (prod q s) r) p ≡ r
  undone r s small e = sym (rem_prod_left p pos (prod q s) r) ∙ rw (e, one_prod) (rem_small p pos r small)

  inverse_once : (r s : ℕ) → r < 2 ^ degree p → s < 2 ^ degree p → rem (prod q r) p ≡ 1 → rem (prod q s) p ≡ 1 → r ≡ s
  inverse_once r s below below' e e' =
      let same : prod (prod q s) r ≡ prod (prod q r) s = simp prod_factors in
      sym (undone r s below e') ∙ ap (λ (x : ℕ). rem x p) same ∙ undone s r below' e

module _ (m p : ℕ) (d : HasDegree p m) where
  pub inverse_unique : (q r : ℕ) → r < 2 ^ m → rem (prod q r) p ≡ 1 → inverse m p q ≡ r
  unfolding inverse
  inverse_unique q r small e =
      first_unique (2 ^ m) 0 (λ (r : ℕ). eqb (rem (prod q r) p) 1) r (omega arith) (omega arith) (eq-eqb _ 1 e)
      (λ i from less. ne_eqb (rem (prod q i) p) 1 (λ k.
      let of_p : degree p ≡ m = degree_unique p m d in
      omega (arith, inverse_once p (positive d) q i r (rw of_p (omega arith)) (rw of_p small) k e)))

above_root : (m p r : ℕ) → 1 ≤ m → Grown m (record { p = p; q = r }) → 0 < r
above_root zero p r low g = absurd (omega arith)
above_root (suc m) p r low g = grown_nonzero m p r g

period_odd : (m e : ℕ) → 1 ≤ m → e + e ≢ period m
period_odd zero e low half = absurd (omega arith)
period_odd (suc m) e low half = omega (arith, pow_pos m)

-- ---- an accepted pair

module _ (m p q : ℕ) (low : least_degree ≤ m) (w : well_formed m p q ≡ true) (t : accepted m p q ≡ true) where
  well : WellFormed m p q
  well = (well_formed_is m p q).0 w

  judged : Accepted m p q
  judged = (accepted_is m p q).0 t

  of_p : HasDegree p m
  of_p = well.degree_p

  big : 2 ≤ p
  big = degree_big m p (omega arith) of_p

  order : IsOrder p (period m)
  order = primitive_order m p (omega arith) judged.primitive_p

  -- ---- the quotients

  turned : Reversed m p q
  turned = reversed m p q big (record { proper = well_formed_proper well; quotients = judged.linear })

  inverse_turned : inverse m p q ≡ turned.r
  inverse_turned = inverse_unique m p of_p q turned.r turned.grown.proper.smaller turned.inverse

  pub mirror_inverse : rem (prod q (inverse m p q)) p ≡ 1
  mirror_inverse = rw inverse_turned turned.inverse

  pub mirror_quotients : (expansion p (inverse m p q)).quotients ≡ reverse (expansion p q).quotients
  mirror_quotients = rw inverse_turned turned.quotients

  pub mirror_well_formed : well_formed m p (inverse m p q) ≡ true
  mirror_well_formed =
      rw inverse_turned ((well_formed_is m p turned.r).1
      (record { degree_p = of_p; nonzero = above_root m p turned.r (omega arith) turned.grown; smaller = turned.grown.proper.smaller }))

  -- ---- the step

  σ : IsStep m p q (step m p q)
  σ = coprime_step_lem m p q low judged.coprime

  -- x^σ and x^(2^m - 1 - σ) are inverse
  pub mirror_power : inverse m p q ≡ rem (2 ^ (period m - step m p q)) p
  mirror_power =
      let e = step m p q in
      let power = rem (2 ^ (period m - e)) p in
      let whole : e + (period m - e) ≡ period m = omega (arith, σ.below) in
      let small : power < 2 ^ m = rw (degree_unique p m of_p) at (rem_lt p (positive of_p) (2 ^ (period m - e))) in
      let one : rem (prod (rem (2 ^ e) p) power) p ≡ 1 = sym (rem_power_add p big e (period m - e)) ∙ rw whole order.holds in
      inverse_unique m p of_p q power small (rw σ.gives at one)

  pub mirror_step : step m p (inverse m p q) ≡ period m - step m p q
  mirror_step =
      step_unique m p (omega arith) of_p judged.primitive_p (inverse m p q) (period m - step m p q)
      (omega (arith, σ.below)) (omega (arith, σ.positive, σ.below)) (sym mirror_power)

  pub mirror_steps : step m p q + step m p (inverse m p q) ≡ period m
  mirror_steps = omega (arith, mirror_step, σ.below)

  coprime : gcd (period m - step m p q) (period m) ≡ 1
  coprime =
      let e = step m p q in
      let g = gcd (period m - e) (period m) in
      let both = gcd_divides (period m - e) (period m) in
      let rest : period m - (period m - e) ≡ e = omega (arith, σ.below) in
      coprime_only e (period m) g ((coprime_step_is m p q).0 judged.coprime) (rw rest at (dvd-sub g both.1 both.0)) both.1

  pub mirror_accepted : accepted m p (inverse m p q) ≡ true
  mirror_accepted =
      (accepted_is m p (inverse m p q)).1
      (record {
        primitive_p = judged.primitive_p;
        linear = rw inverse_turned turned.grown.quotients;
        coprime = (coprime_step_is m p (inverse m p q)).1 (rw mirror_step coprime);
      })

  -- ---- another pair, and back

  pub mirror_other : inverse m p q ≢ q
  mirror_other same = period_odd m (step m p q) (omega arith) (rw same at mirror_steps)

  pub mirror_back : inverse m p (inverse m p q) ≡ q
  mirror_back =
      inverse_unique m p of_p (inverse m p q) q well.smaller (ap (λ (x : ℕ). rem x p) (prod_comm (inverse m p q) q) ∙ mirror_inverse)
