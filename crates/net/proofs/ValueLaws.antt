-- From t(s) to t(s + 1) by one coordinate more: the least weights are what t-values leave of m + 1. Assumes nothing.
use mathlib.Core.Path.{◌≡◌, ap}
use mathlib.Core.List.{List}
use Prim.Native.Nat.{ℕ, suc, ◌+◌, ◌-◌, ◌^◌, ◌≤◌}
use native.Mathlib.Omega.{arith}
use Rattle.definitions.specs.Net.{t_value}
use Rattle.polynomial_laws.specs.Degree.{HasDegree}
use Rattle.net_laws.specs.TValue.{t_value_most}
use Rattle.digit_rows.specs.Table.{Tabled}
use Rattle.least_weight.specs.Search.{LeastFound}
use Rattle.net.specs.Bound.{Stop}

pub value_more : {m p q s f before k : ℕ} {table : List ℕ} → HasDegree p m → 2 ≤ s → Tabled p q (2 ^ m) m s table → Stop m p q f
    → before ≡ t_value m p q (s - 1) → LeastFound table m f (s - 1) (m + 1 - before) k → m + 1 - k ≡ t_value m p q s
value_more {m} {p} {q} {s} d some tabled stop e found =
    let all : suc (s - 1) ≡ s = omega arith in
    let more = found.is p q d stop.sound (λ j i low high l. tabled.rows j i low (omega arith) l) (omega arith) in
    omega (arith, more, ap (t_value m p q) all, t_value_most m p d q s)
