-- The walk of giant steps: where the giant step at hand has a place among the baby steps, that place tells the step; where it has none, the step is larger.
-- Assumes nothing.
use mathlib.Core.Path.{◌≡◌, sym, ◌∙◌}
use mathlib.Core.Bool.{true}
use mathlib.Core.List.{List}
use Prim.Native.Nat.{ℕ, suc, ◌+◌, ◌-◌, ◌*◌, ◌/◌, ◌^◌, ◌≤◌, ◌<◌}
use native.Mathlib.Omega.{arith}
use lib.Pow.{pow_pos, pow_mono}
use borrow.Author.Tests.{eq-eqb}
use Rattle.definitions.specs.Number.{largest}
use Rattle.definitions.specs.Polynomial.{prod, rem}
use Rattle.definitions.specs.Generator.{largest_degree, period, primitive, step}
use Rattle.number_laws.specs.Bounds.{Between, LawfulDegree, lead_high}
use Rattle.number_laws.specs.Largest.{largest_to, largest_passes, largest_least}
use Rattle.fraction_laws.specs.WellFormed.{WellFormed}
use Rattle.polynomial.specs.Modulus.{lawful_modulus, residue_lt}
use Rattle.order_laws.specs.Cycle.{degree_big}
use Rattle.order_laws.specs.Step.{step_to}
use Rattle.order_laws.specs.Giant.{GiantAt, half_below, giant_found, giant_before, giant_next}
use Rattle.linear_maps.specs.Maps.{image_of, Maps}
use Rattle.baby_steps.specs.Chains.{baby_steps, holds, BabySteps}
use Rattle.baby_steps.proofs.ChainLaws.{holds_out}

-- As many baby steps as there are numbers of half the digits.
pub count_fits : {m count : ℕ} → LawfulDegree m → count ≡ 2 ^ (m / 2) → Between 1 baby_steps count
count_fits {m} h half = record {
  low = omega (arith, pow_pos (m / 2));
  high = omega (arith, pow_mono {i = m / 2} {j = largest_degree / 2} (omega (arith, h.high)));
}

-- What stays as it is from one giant step to the next, which the map takes each of them to.
pub record Ground (m p q lead count : ℕ) (first next value : List ℕ) (factor : ℕ) (map : List ℕ) : Type 0 where
  pub lawful : LawfulDegree m
  pub formed : WellFormed m p q
  pub full : primitive m p ≡ true
  pub leading : lead ≡ 2 ^ m
  pub half : count ≡ 2 ^ (m / 2)
  pub held : BabySteps p q count count first next value
  pub width : factor ≡ rem (2 ^ count) p
  pub maps : Maps (λ a. rem (prod factor a) p) lead map

module _ {m p q lead count : ℕ} {first next value : List ℕ} {factor : ℕ} {map : List ℕ} (g : Ground m p q lead count first next value factor map)
    {giant e : ℕ} (at : GiantAt m p q count e giant) where
  low : 1 ≤ m
  low = omega (arith, g.lawful.low)

  few : count ≤ period m
  few = omega (arith, half_below m low, g.half)

  -- far below 2^32
  pub exponent_fits : e + count < 2 ^ largest_degree + 2 * baby_steps
  exponent_fits = omega (arith, at.most, step_to m p q low, lead_high g.lawful, (count_fits g.lawful g.half).high)

  module _ {place : ℕ} (looked_up : place ≡ largest count (holds value giant)) where
    pub place_within : place ≤ e
    place_within = omega (arith, looked_up, largest_to (holds value giant) count, at.least)

    pub step_told : (place ≡ 0 → ⊥) → e + 1 - place ≡ step m p q
    step_told met =
        let w = g.formed in
        let whole : suc (place - 1) ≡ place = omega (arith, met) in
        let fits : place - 1 < count = omega (arith, met, looked_up, largest_to (holds value giant) count) in
        let holding : holds value giant (suc (place - 1)) ≡ true =
        rw (whole, looked_up) (largest_passes (holds value giant) count (omega (arith, met, looked_up))) in
        let sum : step m p q + (place - 1) ≡ e =
        giant_found m p q low w.degree_p g.full w.nonzero w.smaller few at (place - 1) fits
        (sym (g.held.each (place - 1) fits) ∙ holds_out value giant (place - 1) holding) in
        omega (arith, met)

    pub step_larger : place ≡ 0 → e < step m p q
    unfolding holds
    step_larger none =
        let w = g.formed in
        giant_before m p q low w.degree_p g.full w.nonzero w.smaller few at (λ j l same.
        let passes : holds value giant (suc j) ≡ true = eq-eqb _ giant (g.held.each j l ∙ same) in
        omega (arith, none, looked_up, largest_least (holds value giant) count (suc j) (omega arith) (omega arith) passes))

    -- one giant step more comes nearer to the step
    pub giant_more : {image : ℕ} → image ≡ image_of map giant → place ≡ 0 → GiantAt m p q count (e + count) image
    giant_more image-is none =
        giant_next m p q count (degree_big m p low g.formed.degree_p) at g.width (image-is ∙ g.maps giant residue) (step_larger none)
      where
        residue : giant < lead
        residue = rw at.is (residue_lt (lawful_modulus g.lawful g.formed.degree_p g.leading) (2 ^ e))

    pub nearer : place ≡ 0 → step m p q - (e + count) < step m p q - e
    nearer none = omega (arith, step_larger none, (count_fits g.lawful g.half).low)
