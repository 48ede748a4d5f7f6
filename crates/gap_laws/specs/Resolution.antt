-- The sum of resolution gaps by digits in place of dimensions. A gap m/s - l_s is the number of l with s l ≤ m whose cubes do not hold equally many;
-- so Δ is the number of such pairs (s, l), and also the sum over l of m/l - s_l, where s_l is the largest dimension in which cubes of l digits do.
-- From l > m/2 on these are 0, since in dimension 1 cubes always do. From s = 2 on m/s is at most m/2, so that one byte holds Δ.
-- Assumes nothing.
use Rattle.std.specs.Prelude.{◌≡◌, true, ◌&&◌, leb}
use Rattle.std.proofs.Math.Path.{sym, ap}
use Rattle.std.proofs.Common.{◌∙◌, mul_comm, suc-mul, mul-le-mul, mul-le-mul_left, div-lt_iff_lt-mul, le-div_iff_mul-le, div-mul-le_self, div-one}
use Rattle.std.proofs.Math.Bool.{not}
use Prim.Native.Nat.{ℕ, zero, suc, ◌+◌, ◌-◌, ◌*◌, ◌/◌, ◌≤◌, ◌<◌}
use Rattle.std.proofs.Math.Nat.{div-le_self}
use native.Mathlib.Omega.{arith}
use Rattle.definitions.specs.Number.{bit, largest, sum}
use Rattle.definitions.specs.Gaps.{even_cubes, resolution, resolution_gap, sum_of_gaps}
use Rattle.definitions.proofs.Honest.{gaps_at_most}
use Rattle.number_laws.specs.Largest.{largest_least}
use Rattle.polynomial_laws.specs.Degree.{HasDegree, positive}
use Rattle.net_laws.specs.Cell.{Free}
use Rattle.gap_laws.specs.Sums.{sum_ext, sum_exchange, sum_shorter, sum_cut}
use Rattle.gap_laws.specs.Largest.{largest_found, largest_fits, Falling, gap_sum_lem}
use Rattle.gap_laws.specs.Cubes.{cube_rows, FreeCubes, free_coordinate_less, free_digit_less, even_cubes_fits, even_cubes_free}

-- ---- definitions

-- s_l: the largest dimension in 1..m in which the cubes of l digits a side hold equally many points, and 0 if none.
unfoldable pub dimensions : ℕ → ℕ → ℕ → ℕ → ℕ
dimensions m p q l = largest m (λ s. even_cubes m p q s l)

-- floor(m/l) - s_l.
unfoldable pub dimension_gap : ℕ → ℕ → ℕ → ℕ → ℕ
dimension_gap m p q l = m / l - dimensions m p q l

module _ (m p : ℕ) (of : HasDegree p m) (q : ℕ) where
  -- ---- with a coordinate or a digit less, and in dimension 1
  pub coordinate_less : (l : ℕ) → l ≤ m → Falling (λ s. even_cubes m p q s l) m
  coordinate_less l fits zero low high t = absurd (omega arith)
  coordinate_less l fits (suc s) low high t =
      (even_cubes_free m p of q s l fits).1 (free_coordinate_less p q l s ((even_cubes_free m p of q (suc s) l fits).0 t))

  pub digit_less : (s : ℕ) → Falling (even_cubes m p q (suc s)) m
  digit_less s l low high t =
      (even_cubes_free m p of q s l (omega arith)).1 (free_digit_less p q l s ((even_cubes_free m p of q s (suc l) high).0 t))

  pub even_cubes_first : (l : ℕ) → l ≤ m → even_cubes m p q 1 l ≡ true
  unfolding cube_rows Free
  even_cubes_first l fits = (even_cubes_free m p of q 0 l fits).1 tt

  -- ---- no gap is below 0
  fits_by_dimension : (s l : ℕ) → even_cubes m p q s l ≡ true → s * l ≤ m
  fits_by_dimension s l = even_cubes_fits m p q s l (positive of)

  fits_by_digits : (l s : ℕ) → even_cubes m p q s l ≡ true → l * s ≤ m
  fits_by_digits l s t = rw (mul_comm l s) (fits_by_dimension s l t)

  pub resolution_most : (s : ℕ) → 1 ≤ s → resolution m p q s ≤ m / s
  unfolding resolution
  resolution_most s some = largest_fits m s (even_cubes m p q s) some (fits_by_dimension s)

  pub dimensions_most : (l : ℕ) → 1 ≤ l → dimensions m p q l ≤ m / l
  unfolding dimensions
  dimensions_most l some = largest_fits m l (λ s. even_cubes m p q s l) some (fits_by_digits l)

  -- ---- the table of the pairs (s, l) with s l ≤ m whose cubes do not hold equally many
  abbrev uneven : ℕ → ℕ → ℕ
  uneven s l = bit (leb (s * l) m && not (even_cubes m p q s l))

  gap_uneven : (s : ℕ) → 1 ≤ s → resolution_gap m p q s ≡ sum m (uneven s)
  unfolding resolution_gap resolution
  gap_uneven zero low = absurd (omega arith)
  gap_uneven (suc s) low = gap_sum_lem m (suc s) (even_cubes m p q (suc s)) low (fits_by_dimension (suc s)) (digit_less s)

  dimension_gap_uneven : (l : ℕ) → 1 ≤ l → l ≤ m → dimension_gap m p q l ≡ sum m (λ s. uneven s l)
  unfolding dimension_gap dimensions
  dimension_gap_uneven l low fits =
      gap_sum_lem m l (λ s. even_cubes m p q s l) low (fits_by_digits l) (coordinate_less l fits)
      ∙ sum_ext m _ _ (λ s some most. ap (λ (n : ℕ). bit (leb n m && not (even_cubes m p q s l))) (mul_comm l s))

  -- Δ is the sum over l of floor(m/l) - s_l.
  pub gaps_by_digits : sum_of_gaps m p q ≡ sum m (dimension_gap m p q)
  unfolding sum_of_gaps
  gaps_by_digits =
      sum_ext m _ _ (λ s low high. gap_uneven s low) ∙ sum_exchange m m uneven ∙ sym (sum_ext m _ _ (λ l low high. dimension_gap_uneven l low high))

  -- ---- one half of the digits
  upper_half : (l : ℕ) → m / 2 < l → l ≤ m → dimension_gap m p q l ≡ 0
  unfolding dimension_gap dimensions
  upper_half l low high =
      let some : 0 < l = omega arith in
      let least = largest_least (λ s. even_cubes m p q s l) m 1 (omega arith) (omega arith) (even_cubes_first l high) in
      omega (arith, (div-lt_iff_lt-mul {k = l} {x = m} {y = 2} some).1 (omega arith))

  pub gaps_by_half : sum_of_gaps m p q ≡ sum (m / 2) (dimension_gap m p q)
  gaps_by_half =
      let e : m - m / 2 + m / 2 ≡ m = omega arith in
      gaps_by_digits ∙ (rw e at (sum_cut (m - m / 2) (m / 2) (dimension_gap m p q) (λ l low high. upper_half l low (omega arith))))

  -- no sum on the way is larger
  pub gaps_so_far : (n : ℕ) → n ≤ m / 2 → sum n (dimension_gap m p q) ≤ sum_of_gaps m p q
  gaps_so_far n few =
      let e : m / 2 - n + n ≡ m / 2 = omega arith in
      omega (arith, gaps_by_half, rw e at (sum_shorter (m / 2 - n) n (dimension_gap m p q)))

  -- ---- s_l found upwards: free in s + 1 dimensions and not in one more, or s + 1 the most that fit
  pub dimensions_found : (s l : ℕ) → 1 ≤ l → l ≤ m → suc s ≤ m / l → FreeCubes p q l s → (suc s < m / l → FreeCubes p q l (suc s) → ⊥)
      → suc s ≡ dimensions m p q l
  unfolding dimensions
  dimensions_found s l low high fits free full =
      largest_found (λ s. even_cubes m p q s l) m (coordinate_less l high) (suc s) (omega arith) (omega (arith, div-le_self m l))
      ((even_cubes_free m p of q s l high).1 free)
      (λ below t. full ((le-div_iff_mul-le low).1 (fits_by_dimension (suc (suc s)) l t)) ((even_cubes_free m p of q (suc s) l high).0 t))

-- ---- how large it can be
-- from 2 on a quotient is at most the half
quotient_half : (m s : ℕ) → m / suc (suc s) ≤ m / 2
quotient_half m s =
    let k = suc (suc s) in
    (le-div_iff_mul-le {k = 2} (omega arith)).1 (omega (arith, div-mul-le_self m k, mul-le-mul_left {m = 2} {n = k} (m / k) (omega arith)))

quotients_most : (m n : ℕ) → sum (suc n) (λ s. m / s) ≤ m + n * (m / 2)
unfolding sum
quotients_most m zero = omega (arith, div-one m)
quotients_most m (suc n) = omega (arith, quotients_most m n, quotient_half m n, suc-mul n (m / 2))

pub gaps_most : (m p q : ℕ) → sum_of_gaps m p q ≤ m + (m - 1) * (m / 2)
unfolding sum
gaps_most m p q = go m (gaps_at_most m p q)
  where
    go : (m : ℕ) → sum_of_gaps m p q ≤ sum m (λ s. m / s) → sum_of_gaps m p q ≤ m + (m - 1) * (m / 2)
    go zero most = omega arith
    go (suc n) most = let e : suc n - 1 ≡ n = omega arith in rw e (omega (arith, quotients_most (suc n) n))

-- Degrees go to 16, and to 20 in document 02's request h.
pub gaps_fit_byte : (m p q : ℕ) → m ≤ 20 → sum_of_gaps m p q < 256
gaps_fit_byte m p q few =
    let rest : (m - 1) * (m / 2) ≤ 19 * 10 = mul-le-mul {n₂ = 19} {m₂ = 10} (omega arith) (omega arith) in
    omega (arith, gaps_most m p q)
