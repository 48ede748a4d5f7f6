-- What the functions of the search are asked and what they answer. Packed rows have labels of 32 digits, and vectors stand in 64 slots.
-- Letters: i rows of coordinate c are among the n taken; its range begins at l and ends at h; the coordinates above count `low`; w is the least weight so far;
-- m is the degree, f the bound; σ has a 1 where the rows of each coordinate start.
-- Assumes nothing.
use Rattle.std.specs.Prelude.{◌≡◌, List, ◌∷◌, ℕ, suc, ◌+◌, ◌-◌, ◌%◌, ◌^◌, ◌≤◌, ◌<◌, get_or, length}
use Rattle.definitions.specs.Generator.{largest_degree}
use Rattle.definitions.specs.Net.{t_value}
use Rattle.definitions.specs.Ranking.{largest_top}
use Rattle.polynomial_laws.specs.Degree.{HasDegree}
use Rattle.polynomial_laws.specs.Additive.{digit_at}
use Rattle.net_laws.specs.Point.{digit_row}
use Rattle.net_laws.specs.TValue.{StopBound}
use Rattle.relation_laws.specs.Ranges.{Found}
use Rattle.relation_laws.specs.Turn.{State}
use Rattle.relations.specs.Slots.{slot}
use Rattle.digit_rows.specs.Table.{Rows}

-- The sharpest bound that holds for some pair.
abbrev pub largest_bound : ℕ
largest_bound = 2

-- The numbers of a table are words.
abbrev pub Words : List ℕ → Type 0
Words table = (k : ℕ) → get_or table k 0 < 2 ^ 32

-- The rows taken, i of coordinate c and hs of those above, with the vectors that the mask chooses in the array b.
abbrev pub Taken : (ℕ → ℕ → ℕ) → ℕ → ℕ → ℕ → ℕ → List ℕ → ℕ → List ℕ → Type 0
Taken G c i n σ b mask hs = State G 32 64 c i n σ (slot b) mask hs

-- The path to here: rows of the table have been taken.
pub record Path (table : List ℕ) (m c i n σ : ℕ) (b : List ℕ) (mask : ℕ) : Type 0 where
  pub G : ℕ → ℕ → ℕ
  pub hs : List ℕ
  pub agree : Rows G table m c
  pub state : Taken G c i n σ b mask hs
  pub words : Words table
  pub odd : σ % 2 ≡ 1
  pub sized : length b ≡ 64

-- What the numbers of a search are within.
pub record Numbers (m f c n i l low w : ℕ) : Type 0 where
  pub bound_low : 1 ≤ f
  pub bound_high : f ≤ largest_bound
  pub degree_high : m ≤ largest_degree
  pub coordinate_low : 1 ≤ c
  pub coordinate_high : c < largest_top
  pub least : w ≤ suc m
  pub counted : low + i ≤ n
  pub rows_few : n ≤ 64
  pub begins : l ≤ suc i

-- What they keep: rows taken and digits left are m + 1 at most, however far the range goes.
pub record Room (m f c n i l h low w : ℕ) : Type 0 where
  pub numbers : Numbers m f c n i l low w
  pub reaches : i ≤ h
  pub ordered : l ≤ h
  pub ends : h ≤ 64
  pub share : n + w ≤ suc m + low + i
  pub wide : 2 ≤ c → n + w + h ≤ suc m + low + l + i

-- And where coordinate c is left.
pub record Leaving (m f c n i l low w : ℕ) : Type 0 where
  pub numbers : Numbers m f c n i l low w
  pub few : i ≤ 64
  pub closes : low + l + f < w → l ≤ i
  pub spare : 2 ≤ c → n + w ≤ suc m + low + l

-- The vectors that the mask chooses are kept.
pub record Kept (mask : ℕ) (before after : List ℕ) : Type 0 where
  pub same : (h : ℕ) → digit_at h mask ≡ 1 → slot after h ≡ slot before h
  pub sized : length after ≡ length before

-- r is the least weight from i rows of coordinate c on, where w was it so far.
pub record Searched (table : List ℕ) (m f c n i l low w σ mask : ℕ) (before after : List ℕ) (r : ℕ) : Type 0 where
  pub less : r ≤ w
  pub found : (G : ℕ → ℕ → ℕ) → Rows G table m c → (hs : List ℕ) → Taken G c i n σ before mask hs → Found G f c i l hs low w r
  pub kept : Kept mask before after

-- r is the least weight with rows of the coordinates below c, over the range of c from l to i.
pub record Below (table : List ℕ) (m f c n i l low w σ mask : ℕ) (before after : List ℕ) (r : ℕ) : Type 0 where
  pub less : r ≤ w
  pub found : (G : ℕ → ℕ → ℕ) → Rows G table m c → (hs : List ℕ) → Taken G c i n σ before mask hs → Found G f (c - 1) 0 0 (i ∷ hs) (low + l) w r
  pub kept : Kept mask before after

-- r is the least weight with coordinate c, where w is that without it: m + 1 - t(c + 1), where w is m + 1 - t(c).
pub record LeastFound (table : List ℕ) (m f c w r : ℕ) : Type 0 where
  pub less : r ≤ w
  pub is : (p q : ℕ) → HasDegree p m → StopBound m p q f → Rows (digit_row p q) table m c → w ≡ suc m - t_value m p q c → r ≡ suc m - t_value m p q (suc c)
