-- The points in an array, and shapes asked of it.
-- Assumes nothing.
use Rattle.std.specs.Prelude.{◌≡◌, Bool, List, ℕ, ◌+◌, ◌-◌, ◌*◌, ◌/◌, ◌^◌, ◌≤◌, ◌<◌, length, get_or, take}
use Rattle.definitions.specs.Points.{leading, coordinate}
use Rattle.number_laws.specs.Bounds.{CountedDegree}
use Rattle.net_laws.specs.Net.{total}
use Rattle.counting_laws.specs.Boxes.{box_of, evenly_filled}

-- Each number of the array has m digits at most.
abbrev pub Digits : ℕ → List ℕ → Type 0
Digits m w = (i : ℕ) → get_or w i 0 < 2 ^ m

-- The array holds the points: coordinate j of the point h at j 2^m + h, by its first m digits.
pub record Built (m p q : ℕ) (w : List ℕ) : Type 0 where
  pub small : Digits m w
  pub each : (h j : ℕ) → h < 2 ^ m → j < 8 → get_or w (j * 2 ^ m + h) 0 ≡ leading p m (coordinate p q j h)

-- The points and a shape of s coordinates, with m digits at most together.
pub record Shaped (m s : ℕ) (w shape : List ℕ) : Type 0 where
  pub degree : CountedDegree m
  pub small : Digits m w
  pub sized : length shape ≡ 8
  pub most : s ≤ 8
  pub room : total (take s shape) ≤ m

-- The points and a shape that has its digits up to coordinate j, with `left` of the m - t digits left to share from there on.
pub record Begun (m s t : ℕ) (w shape : List ℕ) (j left : ℕ) : Type 0 where
  pub degree : CountedDegree m
  pub small : Digits m w
  pub sized : length shape ≡ 8
  pub most : s ≤ 8
  pub place : j < s
  pub within : t ≤ m
  pub sum : total (take j shape) + left ≡ m - t

-- The first d digits of coordinate j of the point h, as the array has them.
abbrev pub digits_at : ℕ → List ℕ → ℕ → ℕ → ℕ → ℕ
digits_at m w j d h = get_or w (j * 2 ^ m + h) 0 / 2 ^ (m - d)

-- Each point's number has room for d digits of coordinate j,
pub record Appendable (m : ℕ) (w : List ℕ) (j d : ℕ) (boxes : List ℕ) : Type 0 where
  pub degree : CountedDegree m
  pub place : j < 8
  pub most : d ≤ m
  pub room : (h : ℕ) → h < 2 ^ m → get_or boxes h 0 * 2 ^ d + digits_at m w j d h < 2 ^ 32

-- and the first n have these digits behind them.
pub record Appended (m : ℕ) (w : List ℕ) (j d : ℕ) (boxes : List ℕ) (n : ℕ) (longer : List ℕ) : Type 0 where
  pub kept : length longer ≡ 256
  pub each : (h : ℕ) → h < n → get_or longer h 0 ≡ get_or boxes h 0 * 2 ^ d + digits_at m w j d h

-- The number of the box of the shape ds that the point h lies in.
abbrev pub box_at : ℕ → List ℕ → List ℕ → ℕ → ℕ
box_at m w ds h = box_of (digits_at m w) 0 ds h 0

-- The numbers of all points' boxes.
abbrev pub Boxed : ℕ → List ℕ → List ℕ → List ℕ → Type 0
Boxed m w ds boxes = (h : ℕ) → h < 2 ^ m → get_or boxes h 0 ≡ box_at m w ds h

-- The points fill a shape evenly: each of its boxes has 2^t points of the array.
unfoldable pub fills_evenly : ℕ → List ℕ → ℕ → List ℕ → Bool
fills_evenly m w t = evenly_filled (digits_at m w) (2 ^ m) (2 ^ t)
