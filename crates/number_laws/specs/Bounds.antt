-- What the library covers, as facts: a degree, a top dimension or a dimension that passes its test lies between the bounds of the definitions;
-- and a one shifted by a degree is its leading term, since every degree is far below the digits of a word. Assumes nothing.
use Rattle.std.specs.Prelude.{◌≡◌, ◌↔◌, Bool, true, ◌&&◌, ℕ, ◌*◌, ◌%◌, ◌^◌, ◌≤◌, ◌<◌, leb}
use Rattle.std.proofs.Common.{◌∙◌, one-mul, mod-eq_of_lt, arith, pow_mono, leb-true, le-leb}
use Rattle.std.proofs.Math.Bool.{and-eq-true_iff}
use Rattle.std.proofs.Math.Pow.{pow-lt}
use Rattle.definitions.specs.Generator.{least_degree, largest_degree, lawful_degree}
use Rattle.definitions.specs.Calls.{largest_counted, counted_degree}
use Rattle.definitions.specs.Ranking.{least_top, largest_top, lawful_top, lawful_dimension}

-- x lies between two bounds, both included.
pub record Between (least most x : ℕ) : Type 0 where
  pub low : least ≤ x
  pub high : x ≤ most

pub between_is : (least most x : ℕ) → ((leb least x && leb x most) ≡ true) ↔ Between least most x
between_is least most x = (
  λ t. let b = (and-eq-true_iff (leb least x) (leb x most)).0 t in record { low = leb-true _ _ b.0; high = leb-true _ _ b.1 },
  λ h. (and-eq-true_iff (leb least x) (leb x most)).1 (le-leb _ _ h.low, le-leb _ _ h.high),
)

abbrev pub LawfulDegree : ℕ → Type 0
LawfulDegree m = Between least_degree largest_degree m

-- The degrees that are counted.
abbrev pub CountedDegree : ℕ → Type 0
CountedDegree m = Between least_degree largest_counted m

abbrev pub LawfulTop : ℕ → Type 0
LawfulTop top = Between least_top largest_top top

abbrev pub LawfulDimension : ℕ → Type 0
LawfulDimension s = Between 1 largest_top s

pub lawful_degree_is : (m : ℕ) → (lawful_degree m ≡ true) ↔ LawfulDegree m
lawful_degree_is m = between_is least_degree largest_degree m

pub counted_degree_is : (m : ℕ) → (counted_degree m ≡ true) ↔ CountedDegree m
counted_degree_is m = between_is least_degree largest_counted m

pub counted_lawful : {m : ℕ} → CountedDegree m → LawfulDegree m
counted_lawful h = record { low = h.low; high = omega (arith, h.high) }

pub lawful_top_is : (top : ℕ) → (lawful_top top ≡ true) ↔ LawfulTop top
lawful_top_is top = between_is least_top largest_top top

pub lawful_dimension_is : (s : ℕ) → (lawful_dimension s ≡ true) ↔ LawfulDimension s
lawful_dimension_is s = between_is 1 largest_top s

-- The code's 1 << k, in a word of w digits; and of 32.
pub one_shl_in : (w k : ℕ) → k < w → 1 * 2 ^ k % 2 ^ w ≡ 2 ^ k
one_shl_in w k h = mod-eq_of_lt (rw one-mul (pow-lt h)) ∙ one-mul (2 ^ k)

pub one_shl : (k : ℕ) → k < 32 → 1 * 2 ^ k % 2 ^ 32 ≡ 2 ^ k
one_shl = one_shl_in 32

module _ {m : ℕ} (h : LawfulDegree m) where
  pub lead_is : 1 * 2 ^ m % 2 ^ 32 ≡ 2 ^ m
  lead_is = one_shl m (omega (arith, h.high))

  pub lead_low : 2 ^ least_degree ≤ 2 ^ m
  lead_low = pow_mono h.low

  pub lead_high : 2 ^ m ≤ 2 ^ largest_degree
  lead_high = pow_mono h.high
