-- The order of q modulo a primitive p of degree m: q^i = x^(i step), so q^i ≡ 1 just where N = 2^m - 1 divides i times the step; q^N ≡ 1 in any case.
-- The step is coprime to N exactly where q^(N/r) ≢ 1 for each prime divisor r of N. Then q^0 .. q^(N-1) are distinct, for modulo N the multiples of
-- a coprime step are, and so they run through every nonzero residue once. Assumes nothing.
use Rattle.std.specs.Prelude.{◌≡◌, ◌≢◌, ◌↔◌, Bool, true, ℕ, suc, ◌+◌, ◌*◌, ◌/◌, ◌%◌, ◌^◌, ◌≤◌, ◌<◌, eqb}
use Rattle.std.proofs.Common.{sym, ap, ◌∙◌, mod-lt, arith, pow_pos}
use mathlib.Core.List.{Memᴰ}
use Rattle.std.specs.Int.{◌∣◌}
use Rattle.std.proofs.Math.Nat.{dvd-mul_right}
use Rattle.definitions.specs.Number.{gcd, count, bit}
use Rattle.definitions.specs.Polynomial.{rem}
use Rattle.definitions.specs.Generator.{period, primitive, step, coprime_step}
use Rattle.definitions.specs.Points.{state}
use Rattle.number_laws.specs.Bounds.{LawfulDegree}
use Rattle.number_laws.specs.Truth.{eqb_is, truth_equal}
use Rattle.number_laws.specs.Gcd.{multiples_apart, remainder_mul}
use Rattle.number_laws.specs.Primes.{PrimeDivisors}
use Rattle.number_laws.specs.Covers.{coprime_apart, apart_coprime}
use Rattle.number_laws.specs.Pigeon.{Numbering, Reached, numbering_counts, pigeonhole}
use Rattle.polynomial_laws.specs.Degree.{HasDegree}
use Rattle.order_laws.specs.Exponents.{smallest_divides, none_of, none_of_is}
use Rattle.order_laws.specs.Powers.{Returns, IsOrder, returns_mod, returns_multiple, returns_closed}
use Rattle.order_laws.specs.Table.{divisors_of, table_rule}
use Rattle.order_laws.specs.Primitive.{primitive_order}
use Rattle.order_laws.specs.Cycle.{power_nonzero, powers_apart, degree_big}
use Rattle.order_laws.specs.Step.{step_power}
use Rattle.order_laws.specs.State.{state_of_power, state_lt}

-- q^e ≡ 1 (mod p), as a fact and computed.
abbrev pub Recurs : ℕ → ℕ → ℕ → Type 0
Recurs p q e = state p q e ≡ 1

abbrev pub recurs : ℕ → ℕ → ℕ → Bool
recurs p q e = eqb (state p q e) 1

pub coprime_step_is : (m p q : ℕ) → (coprime_step m p q ≡ true) ↔ (gcd (step m p q) (period m) ≡ 1)
coprime_step_is m p q = unfold coprime_step in eqb_is (gcd (step m p q) (period m)) 1

-- The powers of q up to the period are told apart.
abbrev pub Apart : ℕ → ℕ → ℕ → Type 0
Apart m p q = (i j : ℕ) → i < period m → j < period m → state p q i ≡ state p q j → i ≡ j

-- A nonzero residue q modulo a primitive p of degree m.
module _ (m p : ℕ) (positive : 1 ≤ m) (d : HasDegree p m) (t : primitive m p ≡ true) (q : ℕ) (nonzero : 0 < q) (residue : q < 2 ^ m) where
  big : 2 ≤ p
  big = degree_big m p positive d

  order : IsOrder p (period m)
  order = primitive_order m p positive t

  -- ---- the states as powers of x
  state_exponent : (i : ℕ) → state p q i ≡ rem (2 ^ (i * step m p q)) p
  state_exponent i = ap (λ r. state p r i) (sym (step_power m p positive d t q nonzero residue)) ∙ state_of_power p big (step m p q) i

  reduced : (i : ℕ) → rem (2 ^ (i * step m p q % period m)) p ≡ state p q i
  reduced i = returns_mod p big (i * step m p q) (period m) order.holds ∙ sym (state_exponent i)

  pub state_nonzero : (i : ℕ) → state p q i ≢ 0
  state_nonzero i e = power_nonzero p big (period m) order (i * step m p q) (sym (state_exponent i) ∙ e)

  -- round the period they repeat
  pub state_mod : (i : ℕ) → state p q (i % period m) ≡ state p q i
  state_mod i = sym (reduced (i % period m)) ∙ rw remainder_mul (reduced i)

  recurs_divides : (i : ℕ) → Recurs p q i ↔ (period m ∣ i * step m p q)
  recurs_divides i = (
    λ e. smallest_divides (Returns p) (returns_closed p big) (period m) (i * step m p q) order (sym (state_exponent i) ∙ e),
    λ k. state_exponent i ∙ returns_multiple p big (i * step m p q) (period m) k order.holds,
  )

  pub period_recurs : Recurs p q (period m)
  period_recurs = (recurs_divides (period m)).1 (dvd-mul_right (period m) (step m p q))

  -- ---- a coprime step by powers of q alone, over the table: the step need not be known
  pub coprime_step_none_of : LawfulDegree m → coprime_step m p q ≡ none_of (recurs p q) (period m) (divisors_of m)
  coprime_step_none_of lawful =
      truth_equal _ _ (
        λ c.
            computed.1 (λ r k e.
            coprime_apart (period m) (divisors_of m) order.positive rule (step m p q) ((coprime_step_is m p q).0 c) r k ((recurs_divides (period m / r)).0 e)),
        λ c.
            (coprime_step_is m p q).1 (apart_coprime (period m) (divisors_of m) order.positive rule (step m p q)
            (λ r k e. computed.0 c r k ((recurs_divides (period m / r)).1 e))),
      )
    where
      rule : PrimeDivisors (period m) (divisors_of m)
      rule = table_rule m lawful

      computed : (none_of (recurs p q) (period m) (divisors_of m) ≡ true) ↔ ((r : ℕ) → Memᴰ r (divisors_of m) → ¬ Recurs p q (period m / r))
      computed = none_of_is (Recurs p q) (recurs p q) (λ e. eqb_is (state p q e) 1) (period m) (divisors_of m)

  -- ---- a coprime step: the states run through every nonzero residue, once
  module _ (coprime : coprime_step m p q ≡ true) where
    pub states_apart : Apart m p q
    states_apart i j h k same =
        multiples_apart (period m) (step m p q) ((coprime_step_is m p q).0 coprime) i j h k
        (powers_apart p big (period m) order _ _ (mod-lt (i * step m p q) order.positive) (mod-lt (j * step m p q) order.positive)
        (reduced i ∙ same ∙ sym (reduced j)))

    numbering : Numbering (period m) (state p q)
    numbering = record {
      positive = λ i l. omega (arith, state_nonzero i);
      most = λ i l. omega (arith, state_lt m p q i positive d);
      apart = states_apart;
    }

    pub states_reach : (y : ℕ) → 0 < y → y < 2 ^ m → Reached (period m) (state p q) y
    states_reach y h l = pigeonhole numbering y h (omega arith)

    -- counting over the polynomials of degree below m is counting 0 and the states
    pub states_count : (test : ℕ → Bool) → count (2 ^ m) test ≡ count (period m) (λ i. test (state p q i)) + bit (test 0)
    states_count test =
        let whole : 2 ^ m ≡ suc (period m) = omega (arith, pow_pos m) in
        ap (λ k. count k test) whole ∙ numbering_counts numbering test
