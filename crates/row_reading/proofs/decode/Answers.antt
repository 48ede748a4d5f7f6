-- `row_reading::decode` meets its contract: p with its leading term fits a word. Assumes nothing.
use Rattle.std.proofs.Common.{ℕ, ◌*◌, ◌^◌, ap, arith}
use Rattle.catalogue_laws.specs.Sizes.{lead_room}
use Rattle.row_reading.proofs.decode.Goals as goal

pub overflow_add-result : goal.overflow_add-result
overflow_add-result c =
    let within = ap (λ (w : ℕ). 2 ^ (8 * w)) c.number_size-width.ensures.0 in
    let small = lead_room c.args.form.degree c.args.form.degree_is_lawful c.number.result (omega (arith, c.number.ensures.1, within)) in
    omega (arith, small, c.lead.ensures)
