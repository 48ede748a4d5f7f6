-- `reduce`, one turn: v is the row and a sum of chosen vectors, and the vector at its degree is added.
-- Assumes nothing.
use mathlib.Core.Path.{◌≡◌, refl, sym, ap, ◌∙◌, subst}
use mathlib.Core.List.{List}
use Prim.Native.Nat.{ℕ, ◌/◌, ◌^◌, ◌<◌}
use native.Mathlib.Omega.{arith}
use lib.Bits.{bit_xor, bit_and, and_mask}
use Rattle.definitions.specs.Polynomial.{◌⊕◌, degree}
use Rattle.polynomial_laws.specs.Sum.{⊕_def, ⊕_zero, ⊕_assoc}
use Rattle.polynomial_laws.specs.Degree.{HasDegree, leads_cancel}
use Rattle.polynomial_laws.specs.Additive.{digit_at, digit_at_lt}
use Rattle.net_laws.specs.Share.{first_rows}
use Rattle.relation_laws.specs.Relation.{sum_nothing, sum_is, sum_sums}
use Rattle.relation_laws.specs.Leading.{Spanned, spanned_one}
use Rattle.relation_laws.specs.Mask.{chosen, chosen_is}
use Rattle.relations.specs.Slots.{slot, Occupied, Apart, Reduced}
use Rattle.relations.proofs.WordLaws.{place, Leading, leading}

pub record Reducing (basis : List ℕ) (mask row v h : ℕ) : Type 0 where
  pub added : ℕ
  pub of : Spanned (chosen mask (slot basis)) 64 added
  pub is : v ≡ row ⊕ added
  pub fits : v < 2 ^ 64
  pub some : 0 < v
  pub at : h ≡ place v
  pub lead : Leading v

-- the code's test of a digit
digit_test : (mask h : ℕ) → bit_and (mask / 2 ^ h) 1 ≡ digit_at h mask
unfolding digit_at
digit_test mask h = and_mask (mask / 2 ^ h) 1

module _ (basis : List ℕ) (mask row : ℕ) (apart : Apart basis mask row) where
  pub row_some : 0 < row
  row_some = rw ⊕_zero at (apart.some 0 (sum_nothing (first_rows (chosen mask (slot basis)) 64)))

  pub reducing_start : row < 2 ^ 64 → Reducing basis mask row row (place row)
  reducing_start fits = record {
    added = 0;
    of = sum_nothing (first_rows (chosen mask (slot basis)) 64);
    is = sym (⊕_zero row);
    fits = fits;
    some = row_some;
    at = refl;
    lead = leading row row_some fits;
  }

  module _ (occupied : Occupied basis mask) (v h : ℕ) (inv : Reducing basis mask row v h) (test : bit_and (mask / 2 ^ h) 1 ≡ 1) where
    one : digit_at h mask ≡ 1
    one = sym (digit_test mask h) ∙ test

    top : HasDegree v h
    top = rw inv.at inv.lead.has

    abbrev next : ℕ
    next = bit_xor v (slot basis h)

    next_is : next ≡ v ⊕ slot basis h
    next_is = sym (⊕_def v (slot basis h))

    sum : next ≡ row ⊕ (inv.added ⊕ slot basis h)
    sum = next_is ∙ ap (λ (z : ℕ). z ⊕ slot basis h) inv.is ∙ ⊕_assoc row inv.added (slot basis h)

    of : Spanned (chosen mask (slot basis)) 64 (inv.added ⊕ slot basis h)
    of =
        sum_sums inv.of
        (sum_is (chosen_is (slot basis) h mask one) (spanned_one (chosen mask (slot basis)) 64 h (omega (arith, inv.at, inv.lead.low))))

    next_some : 0 < bit_xor v (slot basis h)
    next_some = subst (λ (z : ℕ). 0 < z) (sym sum) (apart.some (inv.added ⊕ slot basis h) of)

    pub next_less : bit_xor v (slot basis h) < v
    next_less = subst (λ (z : ℕ). z < v) (sym next_is) (omega (arith, leads_cancel top (occupied.has h one), top.least))

    pub reducing_more : Reducing basis mask row (bit_xor v (slot basis h)) (place (bit_xor v (slot basis h)))
    reducing_more =
        let few : bit_xor v (slot basis h) < 2 ^ 64 = omega (arith, next_less, inv.fits) in
        record {
          added = inv.added ⊕ slot basis h;
          of = of;
          is = sum;
          fits = few;
          some = next_some;
          at = refl;
          lead = leading (bit_xor v (slot basis h)) next_some few;
        }

  pub reduced : (v h : ℕ) → Reducing basis mask row v h → (bit_and (mask / 2 ^ h) 1 ≡ 1 → ⊥) → Reduced basis mask row v
  reduced v h inv test = record {
    added = inv.added;
    of = inv.of;
    is = inv.is;
    fits = inv.fits;
    free = free;
  }
    where
      free : digit_at (degree v) mask ≡ 0
      free =
          let e : h ≡ degree v = inv.at ∙ inv.lead.is in
          let n : ¬ (bit_and (mask / 2 ^ h) 1 ≡ 1) = test in
          rw (sym e) (omega (arith, digit_test mask h, digit_at_lt h mask))
