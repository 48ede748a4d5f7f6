use mathlib.Core.Path.{◌≡◌}
use Prim.Native.Nat.{◌+◌, ◌-◌, ◌^◌, ◌≤◌}
use Rattle.definitions.specs.Net.{t_value}
use Rattle.digit_rows.specs.Table.{Tabled}
use Rattle.net.proofs.values.t_at.Given as goal

abbrev pub invariant-loop-dimension : goal.invariant-loop-dimension
invariant-loop-dimension l =
    (l.dimension ≤ l.s + 1) × (l.value ≡ t_value l.degree l.p l.q (l.dimension - 1)) × Tabled l.p l.q (2 ^ l.degree) l.degree (l.dimension - 1) l.table
