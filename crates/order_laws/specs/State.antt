-- The states X_i are the powers of q modulo p; where q is x^s, X_i is x^(i s).
-- Assumes nothing.
use Rattle.std.specs.Prelude.{◌≡◌, ℕ, zero, suc, ◌*◌, ◌^◌, ◌≤◌, ◌<◌}
use Rattle.std.proofs.Math.Path.{refl}
use Rattle.std.proofs.Common.{ap, zero-mul, arith, pow_mono}
use Rattle.definitions.specs.Polynomial.{prod, power, rem}
use Rattle.definitions.specs.Points.{state}
use Rattle.polynomial_laws.specs.Degree.{HasDegree, positive, degree_unique}
use Rattle.polynomial_laws.specs.Division.{rem_lt, rem_prod, rem_prod_right}
use Rattle.polynomial_laws.specs.Power.{powers_prod, power_zero, power_suc, rem_one}

state_zero : (p q : ℕ) → state p q 0 ≡ 1
state_zero p q = unfold state in refl

pub state_suc : (p q i : ℕ) → state p q (suc i) ≡ rem (prod q (state p q i)) p
state_suc p q i = unfold state in refl

module _ (p : ℕ) (big : 2 ≤ p) where
  pub state_power : (q i : ℕ) → state p q i ≡ rem (power q i) p
  state_power q zero = rw (state_zero, power_zero, rem_one p big)
  state_power q (suc i) = rw (state_suc, state_power q i, rem_prod_right p (omega arith), power_suc)

  pub state_of_power : (s i : ℕ) → state p (rem (2 ^ s) p) i ≡ rem (2 ^ (i * s)) p
  state_of_power s zero = rw (state_zero, zero-mul, rem_one p big)
  state_of_power s (suc i) =
      rw (state_suc, state_of_power s i, rem_prod p (omega arith), powers_prod s (i * s)) (ap (λ e. rem (2 ^ e) p) (omega arith))

-- A state is a residue.
pub state_lt : (m p q i : ℕ) → 1 ≤ m → HasDegree p m → state p q i < 2 ^ m
state_lt m p q zero h d = rw state_zero (omega (arith, pow_mono h))
state_lt m p q (suc i) h d = rw (state_suc, ← degree_unique p m d) (rem_lt p (positive d) (prod q (state p q i)))
