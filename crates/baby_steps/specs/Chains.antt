-- Residues in chains by their low digits: each chain has the places whose residues have them, the last first. The place of the residue at j is j + 1.
-- Assumes nothing.
use Rattle.std.specs.Prelude.{◌≡◌, Bool, false, List, ℕ, zero, suc, ◌-◌, ◌/◌, ◌^◌, ◌<◌, eqb, length, get_or}
use Rattle.std.specs.Int.Bits.{bit_and}
use Rattle.definitions.specs.Number.{largest}
use Rattle.definitions.specs.Generator.{largest_degree}
use Rattle.order_laws.specs.Giant.{baby_step}

-- The most baby steps.
abbrev pub baby_steps : ℕ
baby_steps = 2 ^ (largest_degree / 2)

-- Place j + 1 holds the residue w.
unfoldable pub holds : List ℕ → ℕ → ℕ → Bool
holds value w zero = false
holds value w (suc j) = eqb (get_or value j 0) w

-- Place j + 1 holds a residue that has the digits k under the mask.
unfoldable pub holds_low : ℕ → List ℕ → ℕ → ℕ → Bool
holds_low mask value k zero = false
holds_low mask value k (suc j) = eqb (bit_and (get_or value j 0) mask) k

-- The places 1 to n are chained: `first` has the last place of each chain, and `next` has the place before each in its chain, 0 where there is none.
pub record Chained (mask n : ℕ) (first next value : List ℕ) : Type 0 where
  pub first_room : length first ≡ baby_steps
  pub next_room : length next ≡ baby_steps
  pub value_room : length value ≡ baby_steps
  pub begins : (k : ℕ) → k < baby_steps → get_or first k 0 ≡ largest n (holds_low mask value k)
  pub leads : (j : ℕ) → j < n → get_or next j 0 ≡ largest j (holds_low mask value (bit_and (get_or value j 0) mask))

-- The first n places hold the first n baby steps, chained by the low digits of numbers below the count.
pub record BabySteps (p q count n : ℕ) (first next value : List ℕ) : Type 0 where
  pub chained : Chained (count - 1) n first next value
  pub each : (j : ℕ) → j < n → get_or value j 0 ≡ baby_step p q j
