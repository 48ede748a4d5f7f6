-- What the degrees of quotients rest on: a remainder, leading term by leading term, and K and the common factor's degree, division by division.
-- Assumes nothing.
use mathlib.Core.Path.{◌≡◌, refl, sym, ap, ◌∙◌}
use Prim.Native.Nat.{ℕ, zero, suc, ◌+◌, ◌-◌, ◌*◌, ◌%◌, ◌^◌, ◌≤◌, ◌<◌, max}
use native.Mathlib.Nat.{mul_comm, mod-eq_of_lt}
use native.Mathlib.Omega.{arith}
use lib.Bits.{bit_xor}
use lib.Count.{count_leading_zeros, leading_of_zero}
use lib.Pow.{pow_pos, pow_mono}
use Rattle.definitions.specs.Polynomial.{degree, rem}
use Rattle.definitions.specs.Generator.{quotient_degree, common_degree}
use Rattle.polynomial_laws.specs.Sum.{⊕_def, ⊕_zero}
use Rattle.polynomial_laws.specs.Degree.{HasDegree, degree_is, degree_least, degree_most, power_degree, leads_cancel}
use Rattle.polynomial_laws.specs.Product.{product_degree}
use Rattle.polynomial_laws.specs.Division.{rem-⊕, rem_multiple, rem_small}
use Rattle.polynomial_laws.specs.Power.{power_prod}
use Rattle.fraction_laws.specs.Expansion.{rem_less}
use Rattle.fraction_laws.specs.Degrees.{quotient_degree_zero, quotient_degree_more, common_degree_zero, common_degree_more, quotient_drop}
use Rattle.polynomial.specs.Digits.{leading_degree}

-- ---- the loop that a remainder is: what holds of the rest before each step

pub record Rest (a b rest : ℕ) : Type 0 where
  pub word : rest < 2 ^ 32
  pub same : rem rest b ≡ rem a b

module _ {a b rest : ℕ} (pos : 0 < b) (h : Rest a b rest) where
  -- One term of the quotient, x^n: b times it has the leading term of the rest, which falls away.
  module _ (some : 0 < rest) (n : ℕ) (whole : n + degree b ≡ degree rest) where
    term : HasDegree (b * 2 ^ n) (degree rest)
    term = rw (mul_comm b (2 ^ n), ← power_prod n b, ← whole) (product_degree n (power_degree n) (degree_is b pos))

    moved : b * 2 ^ n % 2 ^ 32 ≡ b * 2 ^ n
    moved =
        let below : 2 ^ suc (degree rest) ≤ 2 ^ 32 = pow_mono (degree_most rest 32 some h.word) in
        mod-eq_of_lt (omega (arith, term.most))

    term_less : bit_xor rest (b * 2 ^ n % 2 ^ 32) < rest
    term_less = rw (moved, ← ⊕_def rest (b * 2 ^ n)) (omega (arith, leads_cancel (degree_is rest some) term, (degree_is rest some).least))

    term_taken : Rest a b (bit_xor rest (b * 2 ^ n % 2 ^ 32))
    term_taken = record {
      word = omega (arith, term_less, h.word);
      same = rw (moved, ← ⊕_def rest (b * 2 ^ n), mul_comm b (2 ^ n), ← power_prod n b, rem-⊕ b pos, rem_multiple b pos (2 ^ n), ⊕_zero) h.same;
    }

  module _ (fits : b < 2 ^ 32) where
    -- A rest with more leading zeros than b has a smaller degree: it is the remainder.
    pub rest_end : count_leading_zeros 32 b < count_leading_zeros 32 rest → rest ≡ rem a b
    rest_end low = sym (rem_small b pos rest (small rest h.word low)) ∙ h.same
      where
        small : (c : ℕ) → c < 2 ^ 32 → count_leading_zeros 32 b < count_leading_zeros 32 c → c < 2 ^ degree b
        small zero w l = pow_pos (degree b)
        small (suc c) w l =
            let lower : 2 ^ suc (degree (suc c)) ≤ 2 ^ degree b =
            pow_mono (omega (arith, leading_degree b pos fits, leading_degree (suc c) (omega arith) w)) in
            omega (arith, (degree_is (suc c) (omega arith)).most)

    -- Any other has a further term, told by leading zeros.
    module _ (high : count_leading_zeros 32 rest ≤ count_leading_zeros 32 b) where
      rest_some : 0 < rest
      rest_some = go rest high
        where
          go : (c : ℕ) → count_leading_zeros 32 c ≤ count_leading_zeros 32 b → 0 < c
          go zero l = absurd (omega (arith, leading_of_zero 32, leading_degree b pos fits))
          go (suc c) l = omega arith

      rest_degree : count_leading_zeros 32 b - count_leading_zeros 32 rest + degree b ≡ degree rest
      rest_degree = omega (arith, leading_degree b pos fits, leading_degree rest rest_some h.word)

      pub rest_less : bit_xor rest (b * 2 ^ (count_leading_zeros 32 b - count_leading_zeros 32 rest) % 2 ^ 32) < rest
      rest_less = term_less rest_some _ rest_degree

      pub rest_again : Rest a b (bit_xor rest (b * 2 ^ (count_leading_zeros 32 b - count_leading_zeros 32 rest) % 2 ^ 32))
      rest_again = term_taken rest_some _ rest_degree

-- Before the first step the quotient's leading term is taken.
module _ {a b n : ℕ} (pos : 0 < b) (below : b ≤ a) (fits : a < 2 ^ 32) (drop : n ≡ degree a - degree b) where
  falls : degree b ≤ degree a
  falls = degree_least a (degree b) (omega (arith, (degree_is b pos).least))

  pub drop_fits : n < 32
  drop_fits = omega (arith, degree_most a 32 (omega arith) fits)

  pub rest_start : Rest a b (bit_xor a (b * 2 ^ n % 2 ^ 32))
  rest_start = term_taken pos (record { word = fits; same = refl }) (omega arith) n (omega (arith, falls))

-- ---- the loop that Euclid's algorithm is: what holds of a, b, the degree d of a and the largest degree k so far before each division

pub record Divided (p q a b d k : ℕ) : Type 0 where
  pub some : 0 < a
  pub below : b ≤ a
  pub degree_a : d ≡ degree a
  pub largest : max k (quotient_degree a b) ≡ quotient_degree p q
  pub common : common_degree a b ≡ common_degree p q

module _ {p q a b d k : ℕ} (h : Divided p q a b d k) where
  pub divided_end : b ≡ 0 → (k ≡ quotient_degree p q) × (d ≡ common_degree p q)
  divided_end none = (
    omega (arith, h.largest, ap (quotient_degree a) none, quotient_degree_zero a),
    h.degree_a ∙ sym (common_degree_zero a) ∙ ap (common_degree a) (sym none) ∙ h.common,
  )

  -- The divisor's degree is no larger.
  pub divided_degree : 0 < b → degree b ≤ d
  divided_degree pos = rw h.degree_a (degree_least a (degree b) (omega (arith, (degree_is b pos).least, h.below)))

  pub divided_next : {e l r : ℕ} → 0 < b → e ≡ degree b → l ≡ max k (d - e) → r ≡ rem a b → Divided p q b r e l
  divided_next {r = r} pos e-is l-is r-is = record {
    some = pos;
    below = omega (arith, rem_less a b pos);
    degree_a = e-is;
    largest = rw r-is (omega (arith, h.largest, h.degree_a, quotient_degree_more a b pos, quotient_drop a b pos));
    common = rw r-is (sym (common_degree_more a b pos) ∙ h.common);
  }
