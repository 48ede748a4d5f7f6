-- `values::next_t` meets its contract: one coordinate more, from what t(s - 1) leaves of m + 1. Assumes nothing.
use mathlib.Core.Path.{◌≡◌}
use Prim.Native.Nat.{suc, ◌-◌, ◌^◌}
use native.Mathlib.Omega.{arith}
use Rattle.net_laws.specs.TValue.{t_value_most}
use Rattle.digit_rows.specs.Table.{Tabled}
use Rattle.net.proofs.ValueLaws.{value_more}
use Rattle.net.proofs.values.next_t.Goals as goal

-- t(s - 1) is at most the degree
pub overflow_sub-degree : goal.overflow_sub-degree
overflow_sub-degree c =
    let a = c.args in omega (arith, t_value_most _ _ c.requires.lawful_degree.1 a.q (a.s - 1))

pub returns : goal.returns
returns c =
    let a = c.args in
    let pre = c.requires in
    let all : suc (a.s - 1) ≡ a.s = omega arith in
    let rows : Tabled a.p a.q (2 ^ a.degree) a.degree a.s c.add_coordinate.new.table = rw (c.modulo.ensures.0, c.modulo.ensures.1, all) at c.add_coordinate.ensures in
    (value_more pre.lawful_degree.1 pre.le_s.0 rows pre.stop pre.before_value c.least_weight-least.ensures, rows)
