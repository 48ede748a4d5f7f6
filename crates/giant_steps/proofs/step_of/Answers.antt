-- `giant_steps::step_of` meets its contract. Assumes nothing.
use mathlib.Core.Path.{refl, sym, ap, ◌∙◌}
use Prim.Native.Nat.{ℕ, ◌*◌, ◌/◌, ◌%◌, ◌^◌}
use native.Mathlib.Omega.{arith}
use lib.Pow.{pow_mono}
use Rattle.definitions.specs.Polynomial.{rem}
use Rattle.number_laws.specs.Bounds.{one_shl}
use Rattle.polynomial_laws.specs.Power.{power_of_x}
use Rattle.order_laws.specs.Giant.{giant_start}
use Rattle.giant_steps.proofs.StepLaws.{Ground, exponent_fits, place_within, step_told, giant_more, nearer}
use Rattle.giant_steps.proofs.step_of.Goals as goal
use Rattle.giant_steps.proofs.step_of.Goals.{After-times_map-map}

-- what stays as it is in the walk; the code's power of two is that of the digits' half
ground : (c : After-times_map-map) → let steps = c.of-steps.result in
    Ground c.args.m c.args.p c.args.q c.modulo-residues.result.lead (1 * 2 ^ (c.args.m / 2) % 2 ^ 32) steps.first steps.next steps.value
    c.power-factor.result c.times_map-map.result
ground c =
    let pre = c.requires in
    let is = c.modulo-residues.ensures in
    record {
      lawful = pre.lawful_degree;
      formed = pre.well_formed;
      full = pre.p_value;
      leading = is.1;
      half = one_shl (c.args.m / 2) (omega (arith, pre.lawful_degree.high));
      held = rw is.0 at c.of-steps.ensures.steps;
      width = (rw is.0 at c.power-factor.ensures.0) ∙ ap (λ (y : ℕ). rem y c.args.p) (power_of_x _);
      maps = rw is.0 at c.times_map-map.ensures;
    }

pub power-factor-requires : goal.power-factor-requires
power-factor-requires c = omega (arith, c.modulo-residues.ensures.1, pow_mono {i = 2} {j = c.args.m} c.requires.lawful_degree.low)

pub loop-place-init : goal.loop-place-init
loop-place-init c = giant_start _ _ _ _ (ground c).width

pub overflow_add-step : goal.overflow_add-step
overflow_add-step c = omega (arith, exponent_fits (ground (goal.at.overflow_add-step c).After-times_map-map) c.loop-place.invariant)

pub overflow_sub-step : goal.overflow_sub-step
overflow_sub-step c =
    let found = rw c.of-steps.ensures.count at c.in-Some.ensures in
    omega (arith, place_within (ground (goal.at.overflow_sub-step c).After-times_map-map) c.loop-place.invariant found.0)

pub overflow_add-e : goal.overflow_add-e
overflow_add-e c = omega (arith, exponent_fits (ground (goal.at.overflow_add-e c).After-times_map-map) c.loop-place.invariant)

pub loop-place-smaller : goal.loop-place-smaller
loop-place-smaller c =
    let none = sym (rw c.of-steps.ensures.count at c.in_default.ensures) in
    nearer (ground (goal.at.loop-place-smaller c).After-times_map-map) c.loop-place.invariant none refl

pub loop-place-preserved : goal.loop-place-preserved
loop-place-preserved c =
    let none = sym (rw c.of-steps.ensures.count at c.in_default.ensures) in
    giant_more (ground (goal.at.loop-place-preserved c).After-times_map-map) c.loop-place.invariant none c.image-giant.ensures refl

pub returns : goal.returns
returns c =
    let found = rw c.of-steps.ensures.count at c.in-Some.ensures in
    step_told (ground (goal.at.returns c).After-times_map-map) c.loop-place.invariant found.0 (λ none. omega (arith, found.1))
