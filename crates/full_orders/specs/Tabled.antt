-- Powers by two tables. Assumes nothing.
use Rattle.std.specs.Prelude.{◌≡◌, ℕ, List, ◌<◌}
use Rattle.definitions.specs.Polynomial.{prod, power, rem}
use Rattle.polynomial.specs.Modulus.{Modulus}
use Rattle.linear_maps.specs.Maps.{Maps}

-- v is q to the e modulo p, for the q and the p whose tables are given.
pub record TabledPower (products squares : List ℕ) (e v : ℕ) : Type 0 where
  pub is : (p lead q : ℕ) → Modulus p lead → Maps (λ a. rem (prod a a) p) lead squares → Maps (λ a. rem (prod q a) p) lead products
      → (v ≡ rem (power q e) p) × (v < lead)
