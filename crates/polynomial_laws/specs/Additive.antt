-- Additive functions, f (a ⊕ b) = f a ⊕ f b. Two that agree at the powers of x below x^d agree at all numbers below 2^d: a number with the leading
-- term x^(d-1) is that and something smaller. The digit at a place is additive.
-- Assumes nothing.
use Rattle.std.specs.Prelude.{◌≡◌, ℕ, zero, suc, ◌/◌, ◌%◌, ◌^◌, ◌<◌}
use Rattle.std.proofs.Common.{sym, ap, ap₂, ◌∙◌, pow-suc, arith}
use Rattle.std.proofs.Math.Nat.{div-eq_of_lt}
use Rattle.std.proofs.Math.Decide.{dec_lt}
use Rattle.std.proofs.Math.Arith.{lt-one}
use Rattle.std.proofs.lemmas.Nat.{xor_mod}
use Rattle.definitions.specs.Polynomial.{◌⊕◌}
use Rattle.polynomial_laws.specs.Sum.{⊕_def, ⊕_self, ⊕_shr, ⊕_sums}
use Rattle.polynomial_laws.specs.Degree.{HasDegree, power_degree, leading_one, leads_cancel}

abbrev pub Additive : (ℕ → ℕ) → Type 0
Additive f = (a b : ℕ) → f (a ⊕ b) ≡ f a ⊕ f b

-- The digit of v at place k.
unfoldable pub digit_at : ℕ → ℕ → ℕ
digit_at k v = v / 2 ^ k % 2

pub zero_additive : Additive (λ a. 0)
zero_additive a b = sym (⊕_self 0)

pub additive_zero : (f : ℕ → ℕ) → Additive f → f 0 ≡ 0
additive_zero f sums = ap f (zero_additive 0 0) ∙ sums 0 0 ∙ ⊕_self (f 0)

pub additive_agree : (f g : ℕ → ℕ) → Additive f → Additive g → (d : ℕ) → ((i : ℕ) → i < d → f (2 ^ i) ≡ g (2 ^ i)) → (v : ℕ) → v < 2 ^ d → f v ≡ g v
additive_agree f g f-sums g-sums zero powers v small = rw (lt-one small) (additive_zero f f-sums ∙ sym (additive_zero g g-sums))
additive_agree f g f-sums g-sums (suc d) powers v small = at (dec_lt v (2 ^ d)) (additive_agree f g f-sums g-sums d (λ i l. powers i (omega arith)))
  where
    at : Dec (v < 2 ^ d) → ((u : ℕ) → u < 2 ^ d → f u ≡ g u) → f v ≡ g v
    at (yes l) below = below v l
    at (no l) below =
        let degree-v : HasDegree v d = record { least = omega arith; most = omega (arith, pow-suc 2 d) } in
        let rest = v ⊕ 2 ^ d in
        let back : rest ⊕ 2 ^ d ≡ v = simp ⊕_sums in
        ap f (sym back) ∙ f-sums rest (2 ^ d) ∙ ap₂ ◌⊕◌ (below rest (leads_cancel degree-v (power_degree d))) (powers d (omega arith))
        ∙ sym (g-sums rest (2 ^ d)) ∙ ap g back

-- ---- the digit at a place
pub digit_at_lt : (k v : ℕ) → digit_at k v < 2
unfolding digit_at
digit_at_lt k v = omega arith

pub digit_at_additive : (k : ℕ) → Additive (digit_at k)
unfolding digit_at
digit_at_additive k a b = rw (⊕_shr a b k, ⊕_def (a / 2 ^ k) (b / 2 ^ k), ⊕_def) (xor_mod (a / 2 ^ k) (b / 2 ^ k) 1)

pub digit_at_small : (k v : ℕ) → v < 2 ^ k → digit_at k v ≡ 0
unfolding digit_at
digit_at_small k v small = rw (div-eq_of_lt small)

pub digit_at_leading : (k v : ℕ) → HasDegree v k → digit_at k v ≡ 1
unfolding digit_at
digit_at_leading k v h = rw (leading_one h)
