-- `paged_rows::putting::put_step` puts a row and the line of its page behind each other. Assumes nothing.
use Prim.Native.Nat.{ℕ}
use native.Mathlib.Omega.{arith}
use Rattle.paged_rows.specs.Room.{step_room_lem}
use Rattle.paged_rows.proofs.PutRows.{step_put}
use Rattle.paged_rows.proofs.putting.put_step.Goals as goal

pub returns : goal.returns
returns c =
    let a = c.args in
    let few = step_room_lem a.size a.done c.requires.done_lt_most_rows a.further a.row.now c.requires.row_len_bound
    (λ (i : ℕ). omega (arith, c.type_inv.row i)) in
    let put = step_put a.at a.size a.done a.further a.row.now a.text.now (omega (arith, c.requires.step_room_in_bounds))
    c.put_row-end.ensures.value c.put_row-end.ensures.out_after c.put_due.ensures.value c.put_due.ensures.out_after in
    record { value = put.0; text_after = put.1; row_len_bound_2 = few }
