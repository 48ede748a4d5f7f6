-- Sizes in a catalogue's bytes, as facts for every degree: what a number, a row count, an entry and a row take at least and at most, and that
-- a number of a degree fits its bytes. What else is said of catalogues cites these, so that other sizes change this page alone.
-- Assumes nothing.
use Rattle.std.specs.Prelude.{◌≡◌, Bool, ℕ, zero, suc, ◌+◌, ◌-◌, ◌*◌, ◌^◌, ◌<◌, ◌≤◌}
use Rattle.std.proofs.Math.Path.{refl}
use Rattle.std.proofs.Common.{mul-le-mul_left, mul-le-mul_right, suc-mul}
use native.Mathlib.Omega.{arith}
use Rattle.std.proofs.Math.Pow.{pow_mono}
use Rattle.definitions.specs.Generator.{largest_degree}
use Rattle.definitions.specs.Number.{bit}
use Rattle.definitions.specs.Ranking.{largest_top}
use Rattle.definitions.specs.Catalogue.{number_size, count_size, offset_size, entry_size, numbers_size, values_size, row_size}
use Rattle.number_laws.specs.Bounds.{LawfulDegree, lead_high}
use Rattle.number_laws.specs.Count.{bit_most}

-- The most bytes of a number that is read into a machine word of 32 digits.
abbrev pub widest : ℕ
widest = 4

-- Bounds that hold for every degree: of an entry and of a row, in bytes, and of a row count.
abbrev pub longest_entry : ℕ
longest_entry = 2 + widest + offset_size

abbrev pub longest_row_size : ℕ
longest_row_size = 3 * widest + values_size largest_top + 1

abbrev pub row_counts : ℕ
row_counts = 2 ^ 16

-- A body, in bytes.
abbrev pub longest_body : ℕ
longest_body = row_counts * longest_row_size

module _ (m : ℕ) where
  pub number_size_least : 1 ≤ number_size m
  unfolding number_size
  number_size_least = omega arith

  pub number_size_most : number_size m ≤ widest
  unfolding number_size
  number_size_most = omega arith

  -- p without its leading term, q and σ are below 2^m.
  pub number_fits : LawfulDegree m → 2 ^ m ≤ 256 ^ number_size m
  unfolding number_size
  number_fits h = pow_mono {i = m} {j = largest_degree} h.high

  -- The leading term and a number of the degree's bytes together fit a machine word of 32 digits.
  pub lead_room : LawfulDegree m → (n : ℕ) → n < 2 ^ (8 * number_size m) → 2 ^ m + n < 2 ^ 32
  unfolding number_size
  lead_room h n l = omega (arith, lead_high h)

  pub count_size_most : count_size m ≤ widest
  unfolding count_size
  count_size_most = omega arith

  -- A number below 2^m fits the bytes of a row count.
  pub count_fits : LawfulDegree m → 2 ^ m ≤ 256 ^ count_size m
  unfolding count_size
  count_fits h = pow_mono {i = m} {j = largest_degree} h.high

  pub count_most : 256 ^ count_size m ≤ row_counts
  unfolding count_size
  count_most = omega arith

  pub entry_size_is : entry_size m ≡ 2 + count_size m + offset_size
  unfolding entry_size
  entry_size_is = refl

  pub entry_size_least : 2 ≤ entry_size m
  unfolding entry_size
  entry_size_least = omega arith

  pub entry_size_most : entry_size m ≤ longest_entry
  unfolding entry_size
  entry_size_most = omega (arith, count_size_most)

  module _ (top : ℕ) (gaps : Bool) where
    pub row_size_is : row_size m top gaps ≡ numbers_size m + values_size top + bit gaps
    unfolding row_size
    row_size_is = refl

    pub row_size_least : 1 ≤ row_size m top gaps
    unfolding row_size
    row_size_least = omega (arith, number_size_least)

    pub row_size_most : top ≤ largest_top → row_size m top gaps ≤ longest_row_size
    unfolding row_size
    row_size_most h = omega (arith, number_size_most, bit_most gaps)

    -- A body whose rows are counted in a machine word of 32 digits has its size in one of 64.
    pub body_size_fits : top ≤ largest_top → (rows : ℕ) → rows < 2 ^ 32 → rows * row_size m top gaps < 2 ^ 64
    body_size_fits h rows k =
        let size = row_size_most h in
        let most : rows * row_size m top gaps ≤ rows * longest_row_size = mul-le-mul_left rows size in
        omega arith

-- The numbers and the t-values of a row that ends before n, whichever kind it is.
pub values_within : (m top place n : ℕ) (gaps : Bool) → place + row_size m top gaps ≤ n → place + numbers_size m + values_size top ≤ n
values_within m top place n gaps h = omega (arith, row_size_is m top gaps)

-- ---- a walk over n parts of w bytes each from `at` on, the last part first

-- What is known where `left` parts are left and `place` lies behind them.
pub record BackTurn (at w left place length : ℕ) : Type 0 where
  pub room : w ≤ place
  pub within : place - w + w ≤ length
  pub next : place - w ≡ at + (left - 1) * w

pub back_turn : (at n w left place length : ℕ) → 0 < left → left ≤ n → place ≡ at + left * w → at + n * w ≤ length → BackTurn at w left place length
back_turn at n w zero place length l h e f = absurd (omega arith)
back_turn at n w (suc left) place length l h e f =
    let d : suc left - 1 ≡ left = omega arith in
    let less : suc left * w ≡ left * w + w = suc-mul left w in
    let most : suc left * w ≤ n * w = mul-le-mul_right w h in
    record { room = omega arith; within = omega arith; next = rw d (omega arith) }
