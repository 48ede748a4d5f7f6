-- `full_orders::primitive::have_full_orders` meets its contract: p with the factor x or x + 1 is never primitive. Assumes nothing.
use mathlib.Core.Path.{sym, ◌∙◌}
use native.Mathlib.Omega.{arith}
use Rattle.polynomial_laws.specs.Degree.{positive}
use Rattle.order_laws.specs.Parity.{even_not_primitive, even_parity_not_primitive}
use Rattle.full_orders.proofs.primitive.have_full_orders.Goals as goal
use Rattle.full_orders.proofs.primitive.have_full_orders.Goals.{then-p-eq0-via-then-p-eq0, then-p-eq0-via-else-p-eq0+then-parity-eq0}

pub returns-then-p-eq0 : goal.returns-then-p-eq0
returns-then-p-eq0 c =
    let pre = c.requires in
    elim c.then-p-eq0.branch [
      | then-p-eq0-via-then-p-eq0 w ↦ rw (even_not_primitive c.args.m _ (omega (arith, pre.lawful_degree.low)) (positive pre.well_formed.degree_p) w.if-p-eq0.true)
      | then-p-eq0-via-else-p-eq0+then-parity-eq0 w ↦ rw (even_parity_not_primitive _ _ (omega (arith, pre.lawful_degree.low)) pre.well_formed.degree_p (sym w.parity.ensures ∙ w.if-parity-eq0.true))
    ]
