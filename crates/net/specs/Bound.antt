-- How little can be to come: one digit row less where q has an inverse modulo p, as in an accepted pair, whose powers of q come back to 1.
-- Assumes nothing.
use Rattle.std.specs.Prelude.{◌≡◌, true, ℕ, suc, ◌-◌, ◌^◌, ◌≤◌, ◌<◌}
use Rattle.std.proofs.Common.{sym, ap, ◌∙◌, arith, pow_mono}
use Rattle.definitions.specs.Polynomial.{prod, rem}
use Rattle.definitions.specs.Generator.{period, accepted, linear_quotients}
use Rattle.definitions.specs.Points.{state}
use Rattle.polynomial_laws.specs.Degree.{HasDegree}
use Rattle.polynomial_laws.specs.Product.{prod_comm}
use Rattle.polynomial_laws.specs.Power.{rem_one}
use Rattle.fraction_laws.specs.Inverse.{linear_invertible}
use Rattle.order_laws.specs.Cycle.{degree_big}
use Rattle.order_laws.specs.State.{state_suc}
use Rattle.order_laws.specs.Accepted.{full_period}
use Rattle.net_laws.specs.TValue.{StopBound, stop_one, stop_two}
pub use Rattle.least_weight.specs.Search.{largest_bound}

-- What is to come weighs f at least.
pub record Stop (m p q f : ℕ) : Type 0 where
  pub low : 1 ≤ f
  pub high : f ≤ largest_bound
  pub sound : StopBound m p q f

pub stop_any : (m p q : ℕ) → HasDegree p m → Stop m p q 1
stop_any m p q h = record { low = omega arith; high = omega arith; sound = stop_one m p h q }

stop_inverse : (m p q r : ℕ) → HasDegree p m → rem (prod r q) p ≡ rem 1 p → Stop m p q largest_bound
stop_inverse m p q r h inverse = record { low = omega arith; high = omega arith; sound = stop_two m p h q r inverse }

pub stop_accepted : (m p q : ℕ) → 1 ≤ m → HasDegree p m → 0 < q → q < 2 ^ m → accepted m p q ≡ true → Stop m p q largest_bound
stop_accepted m p q low h some small t =
    let n = period m - 1 in
    let back = (full_period m p q low h some small t).back in
    let more : period m ≡ suc n = omega (arith, pow_mono low) in
    let once : rem (prod q (state p q n)) p ≡ 1 = sym (state_suc p q n) ∙ ap (state p q) (sym more) ∙ back in
    let inverse = ap (λ (z : ℕ). rem z p) (prod_comm (state p q n) q) ∙ once ∙ sym (rem_one p (degree_big m p low h)) in
    stop_inverse m p q (state p q n) h inverse

pub stop_linear : (m p q : ℕ) → 1 ≤ m → HasDegree p m → linear_quotients p q ≡ true → Stop m p q largest_bound
stop_linear m p q low h t =
    let big = degree_big m p low h in
    let i = linear_invertible p q big t in
    stop_inverse m p q i.r h (ap (λ (z : ℕ). rem z p) (prod_comm i.r q) ∙ i.inverse ∙ sym (rem_one p big))
