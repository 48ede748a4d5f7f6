-- `least_weight`: the search begins with nothing taken, and what it finds is the least weight.
-- Assumes nothing.
use mathlib.Core.Path.{◌≡◌, refl, sym, ap, ◌∙◌}
use mathlib.Core.List.{List, []}
use Prim.Native.Nat.{ℕ, suc, ◌+◌, ◌-◌, ◌*◌, ◌≤◌}
use native.Mathlib.Omega.{arith}
use lib.ListN.{get_or, length}
use Rattle.definitions.specs.Generator.{largest_degree}
use Rattle.definitions.specs.Net.{t_value}
use Rattle.polynomial_laws.specs.Degree.{HasDegree}
use Rattle.net_laws.specs.Point.{digit_row}
use Rattle.net_laws.specs.TValue.{StopBound}
use Rattle.relation_laws.specs.Coordinate.{found_t_value}
use Rattle.relation_laws.specs.Turn.{state_start}
use Rattle.relations.specs.Slots.{slot}
use Rattle.digit_rows.specs.Table.{Rows}
use Rattle.least_weight.specs.Search.{Words, Path, Searched, LeastFound}

-- the rows of the table, as they stand
tabled : List ℕ → ℕ → ℕ → ℕ
tabled table c i = get_or table (c * largest_degree + i) 0

pub path_start : (table : List ℕ) (m c : ℕ) (b : List ℕ) → Words table → length b ≡ 64 → Path table m c 0 0 1 b 0
unfolding tabled
path_start table m c b words sized = record {
  G = tabled table;
  hs = [];
  agree = λ j i some low l. refl;
  state = state_start (tabled table) 32 64 c (slot b);
  words = words;
  odd = refl;
  sized = sized;
}

module _ {table : List ℕ} {m f c w : ℕ} {b : List ℕ} where
  pub least_found : {a : List ℕ} {r : ℕ} → 1 ≤ c → Searched table m f c 0 0 1 0 w 1 0 b a r → LeastFound table m f c w r
  least_found {r = r} some x = record { less = x.less; is = is }
    where
      is : (p q : ℕ) → HasDegree p m → StopBound m p q f → Rows (digit_row p q) table m c → w ≡ suc m - t_value m p q c → r ≡ suc m - t_value m p q (suc c)
      is p q of sound agree before =
          let e : c ≡ suc (c - 1) = omega arith in
          let found = x.found (digit_row p q) agree [] (state_start (digit_row p q) 32 64 c (slot b)) in
          found_t_value m p of q f (c - 1) w r sound (before ∙ ap (λ (s : ℕ). suc m - t_value m p q s) e) (rw e at found)
          ∙ ap (λ (s : ℕ). suc m - t_value m p q (suc s)) (sym e)
