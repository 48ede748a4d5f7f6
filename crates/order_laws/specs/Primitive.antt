-- `primitive m p` says that 2^m - 1 is the order of x modulo p, and is the test by the table of prime divisors.
-- Assumes nothing.
use Rattle.std.specs.Prelude.{◌≡◌, ◌↔◌, Bool, true, ℕ, ◌^◌, ◌≤◌, eqb}
use Rattle.std.proofs.Math.Path.{refl}
use Rattle.std.proofs.Common.{sym, ◌∙◌, arith, eqb-true, eq-eqb}
use Rattle.definitions.specs.Number.{first}
use Rattle.definitions.specs.Polynomial.{rem}
use Rattle.definitions.specs.Generator.{period, order, primitive}
use Rattle.number_laws.specs.Bounds.{LawfulDegree}
use Rattle.number_laws.specs.First.{first_passes, first_before, first_unique}
use Rattle.number_laws.specs.Truth.{eqb_is, truth_equal, truth_false, not_both, le_unless}
use Rattle.order_laws.specs.Exponents.{Tested, smallest_test, tested, tested_is}
use Rattle.order_laws.specs.Powers.{Returns, IsOrder, returns_closed}
use Rattle.order_laws.specs.Table.{divisors_of, table_rule, period_positive}

-- x^e ≡ 1 (mod p), computed.
abbrev pub returns : ℕ → ℕ → Bool
returns p e = eqb (rem (2 ^ e) p) 1

returns_is : (p e : ℕ) → (returns p e ≡ true) ↔ Returns p e
returns_is p e = eqb_is (rem (2 ^ e) p) 1

primitive_def : (m p : ℕ) → primitive m p ≡ eqb (first (period m) 1 (returns p)) (period m)
primitive_def m p = unfold primitive order in refl

-- ---- the definition's smallest e is the order
module _ (m p : ℕ) (positive : 1 ≤ m) where
  pub primitive_order : primitive m p ≡ true → IsOrder p (period m)
  primitive_order t =
      let found : first (period m) 1 (returns p) ≡ period m = eqb-true _ _ (sym (primitive_def m p) ∙ t) in
      let at_end = first_passes (period m) 1 (returns p) (omega arith) in
      record {
        positive = period_positive m positive;
        holds = (returns_is p (period m)).0 (rw found at at_end);
        least = λ e h k. le_unless (λ l. not_both ((returns_is p e).1 k) (first_before (period m) 1 (returns p) e h (omega arith)));
      }

  order_primitive : IsOrder p (period m) → primitive m p ≡ true
  order_primitive o =
      primitive_def m p ∙ eq-eqb _ _
      (first_unique (period m) 1 (returns p) (period m) o.positive (omega arith) ((returns_is p (period m)).1 o.holds)
      (λ e h l. truth_false _ (λ t. omega (arith, o.least e h ((returns_is p e).0 t)))))

  pub primitive_is : (primitive m p ≡ true) ↔ IsOrder p (period m)
  primitive_is = (primitive_order, order_primitive)

-- ---- the ordinary test over the table
module _ (m p : ℕ) (h : LawfulDegree m) (big : 2 ≤ p) where
  pub primitive_table : primitive m p ≡ tested (returns p) (period m) (divisors_of m)
  primitive_table = truth_equal _ _ (λ t. computed.1 (meaning.0 (order.0 t)), λ t. order.1 (meaning.1 (computed.0 t)))
    where
      order : (primitive m p ≡ true) ↔ IsOrder p (period m)
      order = primitive_is m p (omega (arith, h.low))

      meaning : IsOrder p (period m) ↔ Tested (Returns p) (period m) (divisors_of m)
      meaning =
          smallest_test (Returns p) (returns_closed p big) (period m) (divisors_of m) (period_positive m (omega (arith, h.low))) (table_rule m h)

      computed : (tested (returns p) (period m) (divisors_of m) ≡ true) ↔ Tested (Returns p) (period m) (divisors_of m)
      computed = tested_is (Returns p) (returns p) (returns_is p) (period m) (divisors_of m)
