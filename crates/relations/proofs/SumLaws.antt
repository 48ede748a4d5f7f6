-- `lightest_sum`, one call: nothing is chosen, or the mask's leading vector and the rest of it; and `scan`.
-- Assumes nothing.
use mathlib.Core.Path.{◌≡◌, sym, ap, ◌∙◌, subst}
use mathlib.Core.List.{List, ◌∷◌}
use Prim.Native.Nat.{ℕ, ◌+◌, ◌*◌, ◌%◌, ◌^◌, ◌≤◌, ◌<◌, min}
use native.Mathlib.Omega.{arith}
use lib.Bits.{bit_xor}
use Rattle.definitions.specs.Polynomial.{◌⊕◌}
use Rattle.number_laws.specs.Bounds.{one_shl_in}
use Rattle.polynomial_laws.specs.Sum.{⊕_def}
use Rattle.polynomial_laws.specs.Degree.{power_degree, leads_cancel}
use Rattle.relation_laws.specs.Scan.{weight, Lowest}
use Rattle.relation_laws.specs.Offset.{lowest_one}
use Rattle.relation_laws.specs.Starts.{starts}
use Rattle.relation_laws.specs.Mask.{Chosen, chosen_one, chosen_more}
use Rattle.relations.specs.Slots.{slot, Weighed, Summed, Scanning}
use Rattle.relations.proofs.WordLaws.{place, Leading, leading}

-- The mask without its leading digit.
abbrev pub rest : ℕ → ℕ
rest mask = bit_xor mask (1 * 2 ^ place mask % 2 ^ 64)

module _ (mask : ℕ) (some : 0 < mask) (fits : mask < 2 ^ 64) where
  rest_is : rest mask ≡ mask ⊕ 2 ^ place mask
  rest_is =
      let t = leading mask some fits in
      ap (bit_xor mask) (one_shl_in 64 (place mask) (omega (arith, t.low))) ∙ sym (⊕_def mask (2 ^ place mask))

  pub rest_less : rest mask < mask
  rest_less =
      let t = leading mask some fits in
      rw rest_is (omega (arith, leads_cancel t.has (power_degree (place mask)), t.has.least))

  pub summed_more : (σ x : ℕ) (basis : List ℕ) (w u r : ℕ) → Summed σ x (rest mask) basis w u
      → Summed σ (bit_xor x (slot basis (place mask))) (rest mask) basis u r → Summed σ x mask basis w r
  summed_more σ x basis w u r out with_it = record { less = omega (arith, out.less, with_it.less); lowest = λ h hs same. low h hs same }
    where
      t : Leading mask
      t = leading mask some fits

      low : (h : ℕ) (hs : List ℕ) → σ ≡ starts (h ∷ hs) → Lowest (Chosen (slot basis) 64 mask x) (weight 32 (h ∷ hs)) w r
      low h hs same =
          chosen_more (slot basis) 64 (weight 32 (h ∷ hs)) mask (place mask) x w u r t.has (omega (arith, t.low))
          (subst (λ (z : ℕ). Lowest (Chosen (slot basis) 64 z x) (weight 32 (h ∷ hs)) w u) rest_is (out.lowest h hs same))
          (subst (λ (z : ℕ). Lowest (Chosen (slot basis) 64 z (x ⊕ slot basis (place mask))) (weight 32 (h ∷ hs)) u r) rest_is
          (subst (λ (y : ℕ). Lowest (Chosen (slot basis) 64 (rest mask) y) (weight 32 (h ∷ hs)) u r) (sym (⊕_def x (slot basis (place mask))))
          (with_it.lowest h hs same)))

pub summed_one : (σ x mask : ℕ) (basis : List ℕ) (w v r : ℕ) → mask ≡ 0 → Weighed σ x v → r ≡ min w v → Summed σ x mask basis w r
summed_one σ x mask basis w v r none weighed e = record { less = omega arith; lowest = λ h hs same. low h hs same }
  where
    low : (h : ℕ) (hs : List ℕ) → σ ≡ starts (h ∷ hs) → Lowest (Chosen (slot basis) 64 mask x) (weight 32 (h ∷ hs)) w r
    low h hs same =
        let g = weight 32 (h ∷ hs) in
        let is : min w (g x) ≡ r = sym (e ∙ ap (min w) (weighed.is h hs same)) in
        subst (λ (z : ℕ). Lowest (Chosen (slot basis) 64 z x) g w r) (sym none)
        (subst (Lowest (Chosen (slot basis) 64 0 x) g w) is (chosen_one (slot basis) 64 g x w (min w (g x)) (lowest_one g x w)))

-- ---- `scan`
abbrev pub limit : ℕ → ℕ
limit digits = 1 * 2 ^ (digits + 32) % 2 ^ 64

limit_is : (digits : ℕ) → digits ≤ 30 → limit digits ≡ 2 ^ (digits + 32)
limit_is digits l = one_shl_in 64 (digits + 32) (omega arith)

module _ (σ v mask digits : ℕ) (basis : List ℕ) (w r : ℕ) (fits : digits ≤ 30) where
  pub scanning_few : v < limit digits → Summed σ v (mask % limit digits) basis w r → Scanning σ v mask digits basis w r
  scanning_few l s = record {
    less = s.less;
    few = λ b. subst (λ (z : ℕ). Summed σ v (mask % z) basis w r) (limit_is digits fits) s;
    many = λ b. absurd (omega (arith, limit_is digits fits));
  }

  pub scanning_many : limit digits ≤ v → r ≡ w → Scanning σ v mask digits basis w r
  scanning_many l e = record { less = omega arith; few = λ b. absurd (omega (arith, limit_is digits fits)); many = λ b. e }
