-- Resolution: how many leading digits of each coordinate the points show equally often, and the sum of resolution gaps Δ. Document 001, Definition 5,
-- over the points and the boxes of the t-value. Assumes nothing.
use Rattle.std.specs.Prelude.{◌-◌, ◌/◌, ◌^◌}
use Rattle.definitions.specs.Base.{Bool, List, ℕ, eqb, replicate}
use Rattle.definitions.specs.Number.{largest, count, sum}
use Rattle.definitions.specs.Net.{every_box, in_box}

-- How many of the 2^m points lie in the cube of dimension s in which the leading l digits of each coordinate are rs.
unfoldable pub held : ℕ → ℕ → ℕ → ℕ → ℕ → List ℕ → ℕ
held m p q s l rs = count (2 ^ m) (in_box p q 0 (replicate s l) rs)

-- The 2^(s l) congruent cubes hold equally many points: each as many as the one at the origin.
unfoldable pub even_cubes : ℕ → ℕ → ℕ → ℕ → ℕ → Bool
even_cubes m p q s l = every_box (replicate s l) (λ rs. eqb (held m p q s l rs) (held m p q s l (replicate s 0)))

-- Resolution l_s: the largest l in 1..m for which they do, and 0 if none.
unfoldable pub resolution : ℕ → ℕ → ℕ → ℕ → ℕ
resolution m p q s = largest m (even_cubes m p q s)

-- The gap in dimension s: floor(m/s) - l_s.
unfoldable pub resolution_gap : ℕ → ℕ → ℕ → ℕ → ℕ
resolution_gap m p q s = m / s - resolution m p q s

-- Sum of resolution gaps Δ: over s = 1..m.
unfoldable pub sum_of_gaps : ℕ → ℕ → ℕ → ℕ
sum_of_gaps m p q = sum m (resolution_gap m p q)
