-- What the numbers of the search keep from call to call, and how wide a range may be.
-- Assumes nothing.
use Prim.Native.Nat.{ℕ, suc, ◌+◌, ◌-◌, ◌*◌, ◌/◌, ◌≤◌, ◌<◌}
use native.Mathlib.Nat.{div-lt_iff_lt-mul, mul-le-mul_left}
use native.Mathlib.Omega.{arith}
use Rattle.definitions.specs.Generator.{largest_degree}
use Rattle.definitions.specs.Ranking.{largest_top}
use Rattle.least_weight.specs.Search.{Room, Leaving}

-- a part, rounded up, is no more than the whole
pub width_low : (s c : ℕ) → 2 ≤ c → (s + c - 2) / (c - 1) ≤ s
width_low s c l =
    let d = c - 1 in
    let some : 0 < d = omega arith in
    let more : s * 1 ≤ s * d = mul-le-mul_left s some in
    let n : s + c - 2 < suc s * d = omega arith in
    let q : (s + c - 2) / d < suc s = (div-lt_iff_lt-mul some).1 n in
    omega arith

-- Numbers where a row is taken.
pub record Taking (m c n i low w : ℕ) : Type 0 where
  pub digit : i < m
  pub degree_high : m ≤ largest_degree
  pub room : n < 31
  pub least : w ≤ 31
  pub some : 1 ≤ c
  pub coordinate : c < largest_top
  pub on : low + i + 1 < w

module _ {m f c n i l h low w : ℕ} (r : Room m f c n i l h low w) where
  pub taking : low + i + f < w → Taking m c n i low w
  taking on = record {
    digit = omega (arith, r.numbers.least, r.numbers.bound_low);
    degree_high = r.numbers.degree_high;
    room = omega (arith, r.share, r.numbers.degree_high, r.numbers.bound_low);
    least = omega (arith, r.numbers.least, r.numbers.degree_high);
    some = r.numbers.coordinate_low;
    coordinate = r.numbers.coordinate_high;
    on = omega (arith, r.numbers.bound_low);
  }

  pub room_next : {u : ℕ} → u ≤ w → i < h → low + i + f < w → Room m f c (n + 1) (i + 1) l h low u
  room_next less more on = record {
    numbers = record {
      bound_low = r.numbers.bound_low;
      bound_high = r.numbers.bound_high;
      degree_high = r.numbers.degree_high;
      coordinate_low = r.numbers.coordinate_low;
      coordinate_high = r.numbers.coordinate_high;
      least = omega (arith, r.numbers.least);
      counted = omega (arith, r.numbers.counted);
      rows_few = omega (arith, r.share, r.numbers.degree_high, r.numbers.bound_low, on);
      begins = omega (arith, r.numbers.begins);
    };
    reaches = omega arith;
    ordered = r.ordered;
    ends = r.ends;
    share = omega (arith, r.share);
    wide = λ b. omega (arith, r.wide b);
  }

-- Numbers where coordinates below are gone through.
pub record Deep (m c n l low w : ℕ) : Type 0 where
  pub two : 2 ≤ c
  pub spare : n + w ≤ m + 1 + low + l
  pub counted : low + l ≤ n
  pub least : w ≤ m + 1
  pub small : m ≤ largest_degree
  pub place : n < 32
  pub coordinate : c < largest_top

module _ {m f c n i l low w : ℕ} (r : Leaving m f c n i l low w) (two : 2 ≤ c) (on : low + l + f < w) where
  pub deep : Deep m c n l low w
  deep =
      let a = r.closes on in
      let b = r.spare two in
      record {
        two = two;
        spare = omega arith;
        counted = omega (arith, r.numbers.counted);
        least = omega (arith, r.numbers.least);
        small = r.numbers.degree_high;
        place = omega (arith, r.numbers.degree_high);
        coordinate = r.numbers.coordinate_high;
      }

  pub room_below : {to : ℕ} → to ≤ 32 → (2 ≤ c - 1 → to ≤ m + 1 + (low + l) - n - w) → Room m f (c - 1) n 0 0 to (low + l) w
  room_below most part = record {
    numbers = record {
      bound_low = r.numbers.bound_low;
      bound_high = r.numbers.bound_high;
      degree_high = r.numbers.degree_high;
      coordinate_low = omega (arith, two);
      coordinate_high = omega (arith, deep.coordinate);
      least = r.numbers.least;
      counted = omega (arith, deep.counted);
      rows_few = omega (arith, deep.place);
      begins = omega arith;
    };
    reaches = omega arith;
    ordered = omega arith;
    ends = omega arith;
    share = omega (arith, deep.spare);
    wide = λ b. omega (arith, part b, deep.spare);
  }
