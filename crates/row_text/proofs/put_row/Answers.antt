-- `row_text::put_row` puts a row's text where it fits. Assumes nothing.
use Rattle.std.proofs.Common.{sym, ◌∙◌, ◌+◌, ◌-◌, ◌<◌, ◌≤◌, length, leb-true, leb-false, arith}
use Rattle.definitions.specs.Listing.{row_text}
use Rattle.slice_laws.proofs.Placing.{put, not_put}
use Rattle.row_text.proofs.put_row.Goals as goal
use Rattle.row_text.proofs.put_row.Goals.{else-at-out-via-then-at-out+else-row_fits, else-at-out-via-else-at-out}

pub write_row-requires : goal.write_row-requires
write_row-requires c =
    let room : length (row_text c.args.row.now) ≤ length c.args.out.now - c.args.at = leb-true _ _ (sym c.row_fits.ensures ∙ c.if-row_fits.true) in
    omega (arith, c.if-at-out.true)

pub returns-then-row_fits : goal.returns-then-row_fits
returns-then-row_fits c =
    let a = c.args in
    let room : length (row_text a.row.now) ≤ length a.out.now - a.at = leb-true _ _ (sym c.row_fits.ensures ∙ c.if-row_fits.true) in
    let all = put a.at (row_text a.row.now) a.out.now (omega (arith, c.if-at-out.true)) c.write_row.ensures.value c.write_row.ensures.out_after in
    record { value = all.0; out_after = all.1 }

pub returns-else-at-out : goal.returns-else-at-out
returns-else-at-out c =
    let a = c.args in
    let short : length a.out.now < a.at + length (row_text a.row.now) =
    elim c.else-at-out.branch [
      | else-at-out-via-then-at-out+else-row_fits w ↦ omega (arith, leb-false (length (row_text a.row.now)) (length a.out.now - a.at) (sym w.row_fits.ensures ∙ w.if-row_fits.false))
      | else-at-out-via-else-at-out w ↦ omega (arith, w.if-at-out.false)
    ] in
    let all = not_put a.at (row_text a.row.now) a.out.now short in record { value = all.0; out_after = all.1 }
