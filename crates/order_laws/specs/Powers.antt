-- The exponents e with x^e ≡ 1 (mod p) hold remainders and multiples: exponents may be reduced modulo one of them. Modulo an odd p, x may be
-- cancelled. Assumes nothing.
use Rattle.std.specs.Prelude.{◌≡◌, ◌↔◌, ℕ, zero, suc, ◌+◌, ◌*◌, ◌/◌, ◌%◌, ◌^◌, ◌≤◌, ◌<◌}
use Rattle.std.proofs.Common.{sym, ◌∙◌, zero-add, zero-mul, div-add-mod', arith}
use Rattle.std.specs.Int.{◌∣◌}
use Rattle.std.proofs.Math.Nat.{mod-eq-zero_of_dvd}
use Rattle.std.proofs.Math.Decide.{dec_lt}
use Rattle.definitions.specs.Polynomial.{◌⊕◌, degree, rem}
use Rattle.polynomial_laws.specs.Sum.{⊕_lt, ⊕_self, ⊕-equal, ⊕_double}
use Rattle.polynomial_laws.specs.Product.{one_prod}
use Rattle.polynomial_laws.specs.Division.{rem_lt, rem_rem, rem_small, rem_once, rem-⊕}
use Rattle.polynomial_laws.specs.Power.{one_small, rem_one, rem_power_add, rem_power_suc}
use Rattle.order_laws.specs.Exponents.{Smallest, Closed}

-- x^e ≡ 1 (mod p).
abbrev pub Returns : ℕ → ℕ → Type 0
Returns p e = rem (2 ^ e) p ≡ 1

-- n is the order of x modulo p: the smallest e ≥ 1 with x^e ≡ 1.
abbrev pub IsOrder : ℕ → ℕ → Type 0
IsOrder p n = Smallest (Returns p) n

module _ (p : ℕ) (big : 2 ≤ p) where
  module _ (a b : ℕ) (returns : Returns p b) where
    pub rounds : (k : ℕ) → rem (2 ^ (k * b + a)) p ≡ rem (2 ^ a) p
    rounds zero = rw (zero-mul, zero-add)
    rounds (suc k) =
        let e : suc k * b + a ≡ b + (k * b + a) = omega arith in
        rw (e, rem_power_add p big, returns, one_prod, rem_rem p (omega arith)) (rounds k)

  pub returns_mod : (a b : ℕ) → Returns p b → rem (2 ^ (a % b)) p ≡ rem (2 ^ a) p
  returns_mod a b h = sym (rounds (a % b) b h (a / b)) ∙ rw div-add-mod'

  pub returns_multiple : (a b : ℕ) → b ∣ a → Returns p b → Returns p a
  returns_multiple a b part h = sym (returns_mod a b h) ∙ rw (mod-eq-zero_of_dvd b part) (rem_one p big)

  pub returns_closed : Closed (Returns p)
  returns_closed = record { remainder = λ a b h k. returns_mod a b k ∙ h; multiple = returns_multiple }

  -- ---- x has an inverse modulo an odd p: x^(e+1) ≡ x just where x^e ≡ 1
  module _ (odd : p % 2 ≡ 1) where
    -- twice a residue is not p, which is odd
    odd_cancels : (c : ℕ) → c < 2 ^ degree p → rem (2 * c) p ≡ 0 → c ≡ 0
    odd_cancels c small none = go (dec_lt (2 * c) (2 ^ degree p))
      where
        go : Dec (2 * c < 2 ^ degree p) → c ≡ 0
        go (yes l) = omega (arith, rem_small p (omega arith) (2 * c) l)
        go (no l) =
            let same : 2 * c ≡ p = ⊕-equal (2 * c) p (sym (rem_once p (omega arith) (2 * c) (record { least = omega arith; most = omega arith })) ∙ none) in
            absurd (omega arith)

    pub odd_returns : (e : ℕ) → (rem (2 ^ suc e) p ≡ rem 2 p) ↔ Returns p e
    odd_returns e = (
      λ back.
          let sum : rem (2 * (rem (2 ^ e) p ⊕ 1)) p ≡ 0 =
          rw (⊕_double, rem-⊕ p (omega arith), ← rem_power_suc p big e, back) (⊕_self (rem 2 p)) in
          let small = ⊕_lt (degree p) (rem (2 ^ e) p) 1 (rem_lt p (omega arith) (2 ^ e)) (one_small p big) in
          ⊕-equal (rem (2 ^ e) p) 1 (odd_cancels (rem (2 ^ e) p ⊕ 1) small sum),
      λ one. rem_power_suc p big e ∙ rw one,
    )
