-- Powers by look-ups: what a table of squares or of products with q says of a residue, and x squared m times, which is x again just where x^N ≡ 1
-- for N = 2^m - 1. Assumes nothing.
use mathlib.Core.Path.{◌≡◌, refl, sym, ap, ◌∙◌}
use mathlib.Core.Bool.{Bool, false}
use mathlib.Core.List.{List}
use Prim.Native.Nat.{ℕ, suc, ◌+◌, ◌%◌, ◌^◌, ◌≤◌, ◌<◌}
use native.Mathlib.Omega.{arith}
use lib.Pow.{pow_pos, pow-add}
use borrow.Author.Tests.{eq-eqb, ne_eqb}
use Rattle.definitions.specs.Polynomial.{prod, power, rem}
use Rattle.definitions.specs.Generator.{period, primitive}
use Rattle.definitions.specs.Points.{state}
use Rattle.number_laws.specs.Bounds.{LawfulDegree, lead_low}
use Rattle.polynomial_laws.specs.Degree.{HasDegree}
use Rattle.polynomial_laws.specs.Product.{prod_comm}
use Rattle.polynomial_laws.specs.Power.{rem_power_add}
use Rattle.order_laws.specs.Exponents.{none_of, tested}
use Rattle.order_laws.specs.Powers.{odd_returns}
use Rattle.order_laws.specs.Primitive.{returns, primitive_table}
use Rattle.order_laws.specs.State.{state_power}
use Rattle.order_laws.specs.Table.{divisors_of}
use Rattle.polynomial.specs.Modulus.{Modulus, lawful_modulus, residue_lt, residue_small}
use Rattle.linear_maps.specs.Maps.{image_of, Maps}

abbrev pub Squares : ℕ → ℕ → List ℕ → Type 0
Squares p lead t = Maps (λ a. rem (prod a a) p) lead t

abbrev pub Products : ℕ → ℕ → ℕ → List ℕ → Type 0
Products p q lead t = Maps (λ a. rem (prod q a) p) lead t

module _ {p lead : ℕ} (h : Modulus p lead) (t : List ℕ) {v r : ℕ} (residue : v < lead) (is : r ≡ image_of t v) where
  pub squared : Squares p lead t → (r ≡ rem (prod v v) p) × (r < lead)
  squared squares =
      let e : r ≡ rem (prod v v) p = is ∙ squares v residue in
      (e, rw e (residue_lt h (prod v v)))

  pub multiplied : (q : ℕ) → Products p q lead t → (r ≡ rem (prod v q) p) × (r < lead)
  multiplied q products =
      let e : r ≡ rem (prod v q) p = is ∙ products v residue ∙ rw (prod_comm q v) in
      (e, rw e (residue_lt h (prod v q)))

-- A power of q, as the test over the divisors takes it.
pub power_state : (p q : ℕ) → 2 ≤ p → (e v : ℕ) → v ≡ rem (power q e) p → v ≡ state p q e
power_state p q big e v is = rw (state_power p big q) is

-- x squared i times.
pub record Squared (m p i v : ℕ) : Type 0 where
  pub place : i ≤ m
  pub residue : v < 2 ^ m
  pub is : v ≡ rem (2 ^ (2 ^ i)) p

module _ {m p : ℕ} (lawful : LawfulDegree m) (d : HasDegree p m) where
  modulus : Modulus p (2 ^ m)
  modulus = lawful_modulus lawful d refl

  two_small : 2 < 2 ^ m
  two_small = omega (arith, lead_low lawful)

  two_is : rem 2 p ≡ 2
  two_is = residue_small modulus 2 two_small

  pub squared_start : Squared m p 0 2
  squared_start = record { place = omega arith; residue = two_small; is = sym two_is }

  pub squared_more : (t : List ℕ) {i v r : ℕ} → Squares p (2 ^ m) t → Squared m p i v → i < m → r ≡ image_of t v → Squared m p (i + 1) r
  squared_more t {i} {v} {r} squares at less e =
      let next = squared modulus t at.residue e squares in
      let twice : 2 ^ i + 2 ^ i ≡ 2 ^ (i + 1) = omega (arith, pow-add 2 i 1) in
      record {
        place = omega arith;
        residue = next.1;
        is = next.0 ∙ rw at.is (sym (rem_power_add p modulus.large (2 ^ i) (2 ^ i)) ∙ ap (λ (k : ℕ). rem (2 ^ k) p) twice);
      }

  -- ---- all squarings done
  module _ (odd : p % 2 ≡ 1) {i v : ℕ} (at : Squared m p i v) (done : m ≤ i) where
    last : v ≡ rem (2 ^ suc (period m)) p
    last =
        let all : i ≡ m = omega (arith, at.place) in
        let whole : 2 ^ m ≡ suc (period m) = omega (arith, pow_pos m) in
        at.is ∙ ap (λ (k : ℕ). rem (2 ^ (2 ^ k)) p) all ∙ ap (λ (k : ℕ). rem (2 ^ k) p) whole

    meaning : primitive m p ≡ tested (returns p) (period m) (divisors_of m)
    meaning = primitive_table m p lawful modulus.large

    pub not_back : (v ≡ 2 → ⊥) → false ≡ primitive m p
    unfolding tested
    not_back other =
        let no : rem (2 ^ period m) p ≡ 1 → ⊥ = λ one. other (last ∙ (odd_returns p modulus.large odd (period m)).1 one ∙ two_is) in
        sym (meaning ∙ rw (ne_eqb _ _ no))

    pub back : {b : Bool} → v ≡ 2 → b ≡ none_of (returns p) (period m) (divisors_of m) → b ≡ primitive m p
    unfolding tested
    back same none =
        let one : rem (2 ^ period m) p ≡ 1 = (odd_returns p modulus.large odd (period m)).0 (sym last ∙ same ∙ sym two_is) in
        none ∙ sym (meaning ∙ rw (eq-eqb _ _ one))
