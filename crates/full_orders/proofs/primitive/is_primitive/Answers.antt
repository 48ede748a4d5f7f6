-- `full_orders::primitive::is_primitive` meets its contract: p with the factor x or x + 1 is never primitive. Assumes nothing.
use mathlib.Core.Path.{◌≡◌, sym, ◌∙◌}
use mathlib.Core.Bool.{false}
use Prim.Native.Nat.{ℕ, ◌%◌}
use lib.Dec.{eqb}
use borrow.Author.Tests.{eq-eqb}
use Rattle.number_laws.specs.Truth.{not_both}
use native.Mathlib.Omega.{arith}
use Rattle.polynomial_laws.specs.Degree.{positive}
use Rattle.order_laws.specs.Parity.{even_not_primitive, even_parity_not_primitive}
use Rattle.full_orders.proofs.primitive.is_primitive.Goals as goal
use Rattle.full_orders.proofs.primitive.is_primitive.Goals.{then-p-eq1, else-p-eq1}

even : (r n : ℕ) → eqb r 1 ≡ false → r ≡ n % 2 → r ≡ 0
even r n other is =
    let l : ¬ (r ≡ 1) = λ e. not_both (eq-eqb r 1 e) other in
    omega arith

pub returns-else-parity-eq1 : goal.returns-else-parity-eq1
returns-else-parity-eq1 c =
    let pre = c.requires in
    c.if-parity-eq1.false
    ∙ elim c.if-p-eq1.branch [
      | then-p-eq1 w ↦ sym (even_parity_not_primitive _ _ (omega (arith, pre.lawful_degree.low)) pre.has_degree (sym w.parity.ensures ∙ even w.parity.result _ (sym w.value-is ∙ c.if-parity-eq1.false) w.parity.ensures))
      | else-p-eq1 w ↦ sym (even_not_primitive _ _ (omega (arith, pre.lawful_degree.low)) (positive pre.has_degree) (omega (arith, w.if-p-eq1.false)))
    ]
