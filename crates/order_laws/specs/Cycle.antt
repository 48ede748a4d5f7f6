-- The full cycle: where x has the order N, the powers x^0 .. x^(N-1) are distinct and none is 0, since each has a power that completes it to x^N = 1.
-- For N = 2^m - 1 they are as many as the nonzero residues, so by the pigeonhole principle each of these is one of them, once, and has an inverse.
-- Assumes nothing.
use Rattle.std.specs.Prelude.{◌≡◌, ◌≢◌, true, ℕ, suc, ◌+◌, ◌-◌, ◌*◌, ◌%◌, ◌^◌, ◌≤◌, ◌<◌}
use Rattle.std.proofs.Common.{sym, ap, ◌∙◌, mod-lt, mul-suc, le_antisymm, arith, pow_mono}
use Rattle.definitions.specs.Polynomial.{prod, rem}
use Rattle.definitions.specs.Generator.{period, primitive}
use Rattle.number_laws.specs.Truth.{le_unless}
use Rattle.number_laws.specs.Pigeon.{Numbering, pigeonhole}
use Rattle.polynomial_laws.specs.Degree.{HasDegree, degree_unique}
use Rattle.polynomial_laws.specs.Product.{zero_prod}
use Rattle.polynomial_laws.specs.Division.{rem_lt, rem_zero}
use Rattle.polynomial_laws.specs.Power.{rem_one, rem_power_add}
use Rattle.order_laws.specs.Powers.{IsOrder, rounds, returns_mod}
use Rattle.order_laws.specs.Primitive.{primitive_order}

module _ (p : ℕ) (big : 2 ≤ p) (N : ℕ) (order : IsOrder p N) where
  completed : (e : ℕ) → e ≤ N → rem (prod (rem (2 ^ e) p) (rem (2 ^ (N - e)) p)) p ≡ 1
  completed e below =
      let whole : e + (N - e) ≡ N = omega arith in
      sym (rem_power_add p big e (N - e)) ∙ rw whole order.holds

  pub power_nonzero : (e : ℕ) → rem (2 ^ e) p ≢ 0
  power_nonzero e none =
      let small : e % N < N = mod-lt e order.positive in
      omega (arith, rw (returns_mod p big e N order.holds, none, zero_prod, rem_zero) at (completed (e % N) (omega arith)))

  -- exponents that differ by less than the order: a power of x^i takes x^i to 1, and x^j to x^(j - i)
  returns_late : (i j : ℕ) → i < j → j < i + N → rem (2 ^ i) p ≡ rem (2 ^ j) p → ⊥
  returns_late i j later near same =
      let back : ℕ → ℕ = λ y. rem (prod (rem (2 ^ (i * (N - 1))) p) y) p in
      omega (arith, order.least (j - i) (omega arith) (sym (taken j (j - i) (omega arith)) ∙ ap back (sym same) ∙ taken i 0 (omega arith) ∙ rem_one p big))
    where
      taken : (k d : ℕ) → k ≡ i + d → rem (prod (rem (2 ^ (i * (N - 1))) p) (rem (2 ^ k) p)) p ≡ rem (2 ^ d) p
      taken k d e =
          let whole : suc (N - 1) ≡ N = omega (arith, order.positive) in
          let round : i * (N - 1) + k ≡ i * N + d = omega (arith, ap (λ n. i * n) whole, mul-suc i (N - 1)) in
          sym (rem_power_add p big (i * (N - 1)) k) ∙ rw round (rounds p big d N order.holds i)

  pub powers_near : (i j : ℕ) → i < j + N → j < i + N → rem (2 ^ i) p ≡ rem (2 ^ j) p → i ≡ j
  powers_near i j h l same = le_antisymm (le_unless (λ k. returns_late j i k h (sym same))) (le_unless (λ k. returns_late i j k l same))

  pub powers_apart : (i j : ℕ) → i < N → j < N → rem (2 ^ i) p ≡ rem (2 ^ j) p → i ≡ j
  powers_apart i j h l = powers_near i j (omega arith) (omega arith)

-- p of degree m at least 1 is x or more.
pub degree_big : (m p : ℕ) → 1 ≤ m → HasDegree p m → 2 ≤ p
degree_big m p h d = omega (arith, pow_mono h, d.least)

-- The residue y is the power e of x, e below the period.
pub record PowerOf (m p y : ℕ) : Type 0 where
  pub exponent : ℕ
  pub below : exponent < period m
  pub gives : rem (2 ^ exponent) p ≡ y

-- Modulo a primitive p of degree m each nonzero residue is a power of x.
pub full_cycle : (m p : ℕ) → 1 ≤ m → HasDegree p m → primitive m p ≡ true → (y : ℕ) → 0 < y → y < 2 ^ m → PowerOf m p y
full_cycle m p positive d t y nonzero residue =
    let r = pigeonhole powers y nonzero (omega arith) in
    record { exponent = r.argument; below = r.below; gives = r.gives }
  where
    big : 2 ≤ p
    big = degree_big m p positive d

    order : IsOrder p (period m)
    order = primitive_order m p positive t

    powers : Numbering (period m) (λ e. rem (2 ^ e) p)
    powers = record {
      positive = λ e l. omega (arith, power_nonzero p big (period m) order e);
      most = λ e l. omega (arith, rw (degree_unique p m d) at (rem_lt p (omega (arith, big)) (2 ^ e)));
      apart = powers_apart p big (period m) order;
    }

-- So each has an inverse: the power that completes it.
pub cycle_inverse : (m p : ℕ) → 1 ≤ m → HasDegree p m → primitive m p ≡ true → (y : ℕ) → 0 < y → y < 2 ^ m → (r : ℕ) × (rem (prod y r) p ≡ 1)
cycle_inverse m p low d t y nonzero residue =
    let w = full_cycle m p low d t y nonzero residue in
    let e = w.exponent in
    let power = completed p (degree_big m p low d) (period m) (primitive_order m p low t) e (omega (arith, w.below)) in
    (rem (2 ^ (period m - e)) p, rw w.gives at power)
