-- `table::add_coordinate` meets its contract: before each turn the first i rows of the coordinate are there, and `row` is the next. Assumes nothing.
use Rattle.std.proofs.Common.{◌+◌, ◌-◌, ◌*◌, arith}
use borrow.Rule.Slice.PartMut.{put_same, mid_len}
use Rattle.digit_rows.proofs.TableLaws.{adding_start, adding_more, tabled_more, set_part}
use Rattle.digit_rows.proofs.table.add_coordinate.Goals as goal

pub loop-place-init : goal.loop-place-init
loop-place-init c =
    let pre = c.requires in
    let start = c.args.coordinate * 16 in
    rw (put_same start (start + c.args.degree - start) c.args.table.now)
    (adding_start c.args.q c.args.residues.modulus pre.one_of c.product-row.result c.args.table.now pre.tabled c.product-row.ensures.0 c.product-row.ensures.1)

pub loop-place-preserved : goal.loop-place-preserved
loop-place-preserved c =
    let l = c.loop-place in
    let next = c.times_x-row in
    let start = c.args.coordinate * 16 in
    let part = mid_len start (start + c.args.degree) c.args.table.now (omega (arith, c.requires.one_of, c.requires.tabled.sized)) in
    let more = adding_more c.args.q c.args.residues.modulus c.requires.one_of l.place-index l.row _ l.invariant (omega arith) next.result next.ensures.0 next.ensures.1 in
    rw (set_part start (start + c.args.degree - start) l.place-index l.row c.args.table.now l.place-items (omega (arith, c.requires.one_of, c.requires.tabled.sized)) (omega (arith, l.auto.place-items))) at more

pub returns : goal.returns
returns c =
    let l = c.loop-place in
    let start = c.args.coordinate * 16 in
    let part = mid_len start (start + c.args.degree) c.args.table.now (omega (arith, c.requires.one_of, c.requires.tabled.sized)) in
    tabled_more c.args.q c.args.residues.modulus c.requires.one_of l.place-index l.row _ l.invariant (omega (arith, part))
