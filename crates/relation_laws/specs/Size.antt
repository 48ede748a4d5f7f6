-- How many binary digits a number has: v has at most d just where v < 2^d, and one more than its degree.
-- Assumes nothing.
use Rattle.std.specs.Prelude.{◌≡◌, ◌↔◌, ℕ, zero, suc, ◌^◌, ◌≤◌, ◌<◌}
use Rattle.std.proofs.Common.{pow-suc, lt_of_not-le, arith, pow_pos, pow_mono}
use Rattle.definitions.specs.Polynomial.{degree}
use Rattle.polynomial_laws.specs.Degree.{HasDegree, degree_is, degree_most}

unfoldable pub size : ℕ → ℕ
size zero = 0
size (suc v) = suc (degree (suc v))

pub size_le : (v d : ℕ) → (v < 2 ^ d) ↔ (size v ≤ d)
unfolding size
size_le zero d = (λ l. omega arith, λ l. pow_pos d)
size_le (suc v) d = (
  degree_most (suc v) d (omega arith),
  λ l. omega (arith, (degree_is (suc v) (omega arith)).most, pow-suc 2 (degree (suc v)), pow_mono l),
)

pub size_more : (k v : ℕ) → k < size v → 2 ^ k ≤ v
size_more k v l = let n : ¬ (v < 2 ^ k) = λ b. omega (arith, (size_le v k).0 b) in omega arith

pub size_degree : {v k : ℕ} → HasDegree v k → size v ≡ suc k
size_degree {v} {k} d =
    let n : k < size v = lt_of_not-le λ (l : size v ≤ k). omega (arith, (size_le v k).1 l, d.least) in
    omega (arith, (size_le v (suc k)).0 (omega (arith, d.most, pow-suc 2 k)))
