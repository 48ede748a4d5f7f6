-- The floor of steps: a step reaches it where it is not smaller, and a pair is accepted at it where it is accepted besides. Every step is 1 at least,
-- so the floors 0 and 1 leave nothing out. Assumes nothing.
use Rattle.std.specs.Prelude.{◌≡◌, refl, ◌↔◌, true, false, ◌&&◌, ℕ, ◌≤◌, ◌<◌}
use Rattle.std.proofs.Math.Bool.{and-eq-true_iff}
use Rattle.std.proofs.Common.{arith}
use borrow.Author.Tests.{leb-true, le-leb, lt-leb}
use Rattle.definitions.specs.Generator.{step, accepted, reaches_floor, accepted_at}
use Rattle.number_laws.specs.Truth.{truth_equal}
use Rattle.order_laws.specs.Step.{step_from}
use Rattle.order_laws.specs.Accepted.{Accepted, accepted_is}

-- ---- the step and the floor

module _ (m floor p q : ℕ) where
  pub reaches_floor_is : (reaches_floor m floor p q ≡ true) ↔ (floor ≤ step m p q)
  unfolding reaches_floor
  reaches_floor_is = (leb-true floor (step m p q), le-leb floor (step m p q))

  pub below_floor : step m p q < floor → reaches_floor m floor p q ≡ false
  unfolding reaches_floor
  below_floor h = lt-leb floor (step m p q) h

  -- ---- accepted at a floor

  pub accepted_at_both : (accepted_at m floor p q ≡ true) ↔ ((accepted m p q ≡ true) × (reaches_floor m floor p q ≡ true))
  unfolding accepted_at
  accepted_at_both = and-eq-true_iff (accepted m p q) (reaches_floor m floor p q)

  pub accepted_at_accepted : accepted_at m floor p q ≡ true → accepted m p q ≡ true
  accepted_at_accepted t = (accepted_at_both.0 t).0

-- Demand 2's conditions, and one more.
pub record AcceptedAt (m floor p q : ℕ) : Type 0 where
  pub judged : Accepted m p q
  pub reaches : floor ≤ step m p q

pub accepted_at_is : (m floor p q : ℕ) → (accepted_at m floor p q ≡ true) ↔ AcceptedAt m floor p q
accepted_at_is m floor p q = (
  λ t.
      let both = (accepted_at_both m floor p q).0 t in
      record { judged = (accepted_is m p q).0 both.0; reaches = (reaches_floor_is m floor p q).0 both.1 },
  λ h. (accepted_at_both m floor p q).1 ((accepted_is m p q).1 h.judged, (reaches_floor_is m floor p q).1 h.reaches),
)

-- ---- floors that leave nothing out

pub small_floor_reached : (m floor p q : ℕ) → floor ≤ 1 → reaches_floor m floor p q ≡ true
small_floor_reached m floor p q h = (reaches_floor_is m floor p q).1 (omega (arith, step_from m p q))

pub small_floor_accepted : (m floor p q : ℕ) → floor ≤ 1 → accepted_at m floor p q ≡ accepted m p q
small_floor_accepted m floor p q h =
    truth_equal (accepted_at m floor p q) (accepted m p q)
    (accepted_at_accepted m floor p q, λ t. (accepted_at_both m floor p q).1 (t, small_floor_reached m floor p q h))
