-- What the functions on packed rows answer. Labels have 32 digits and vectors 64; σ has a 1 where the rows of each coordinate start.
-- Assumes nothing.
use Rattle.std.specs.Prelude.{◌≡◌, List, ◌∷◌, ℕ, ◌+◌, ◌%◌, ◌^◌, ◌≤◌, ◌<◌, get_or}
use Rattle.definitions.specs.Polynomial.{◌⊕◌, degree}
use Rattle.polynomial_laws.specs.Degree.{HasDegree}
use Rattle.polynomial_laws.specs.Additive.{digit_at}
use Rattle.relation_laws.specs.Scan.{weight, Lowest}
use Rattle.relation_laws.specs.Leading.{Spanned}
use Rattle.relation_laws.specs.Starts.{starts}
use Rattle.relation_laws.specs.Mask.{chosen, Chosen}

-- Slot h of an array.
abbrev pub slot : List ℕ → ℕ → ℕ
slot basis h = get_or basis h 0

-- r is the weight of the packed sum x, over all shares whose coordinates start so.
pub record Weighed (σ x r : ℕ) : Type 0 where
  pub is : (h : ℕ) (hs : List ℕ) → σ ≡ starts (h ∷ hs) → r ≡ weight 32 (h ∷ hs) x

-- r is the least of w and of the weights of x and of its sums with vectors that the mask chooses.
pub record Summed (σ x mask : ℕ) (basis : List ℕ) (w r : ℕ) : Type 0 where
  pub less : r ≤ w
  pub lowest : (h : ℕ) (hs : List ℕ) → σ ≡ starts (h ∷ hs) → Lowest (Chosen (slot basis) 64 mask x) (weight 32 (h ∷ hs)) w r

-- Slot h holds a vector of degree h, where the mask chooses it.
pub record Occupied (basis : List ℕ) (mask : ℕ) : Type 0 where
  pub has : (h : ℕ) → digit_at h mask ≡ 1 → HasDegree (slot basis h) h

-- No sum of the row and of chosen vectors is 0.
pub record Apart (basis : List ℕ) (mask row : ℕ) : Type 0 where
  pub some : (s : ℕ) → Spanned (chosen mask (slot basis)) 64 s → 0 < row ⊕ s

-- The row is reduced to v: chosen vectors are added, and none is chosen at its degree.
pub record Reduced (basis : List ℕ) (mask row v : ℕ) : Type 0 where
  pub added : ℕ
  pub of : Spanned (chosen mask (slot basis)) 64 added
  pub is : v ≡ row ⊕ added
  pub fits : v < 2 ^ 64
  pub free : digit_at (degree v) mask ≡ 0

-- r is w, or the least weight met where v has few enough digits.
pub record Scanning (σ v mask digits : ℕ) (basis : List ℕ) (w r : ℕ) : Type 0 where
  pub less : r ≤ w
  pub few : v < 2 ^ (digits + 32) → Summed σ v (mask % 2 ^ (digits + 32)) basis w r
  pub many : 2 ^ (digits + 32) ≤ v → r ≡ w
