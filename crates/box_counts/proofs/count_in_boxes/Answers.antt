-- `box_counts::count_in_boxes` meets its contract. Assumes nothing.
use mathlib.Core.Path.{◌≡◌, ◌∙◌}
use Prim.Native.Nat.{◌≤◌, ◌<◌, ◌^◌}
use native.Mathlib.Omega.{arith}
use lib.ListN.{take, get_or}
use lib.Seq.{get_or-take}
use Rattle.std.proofs.lemmas.List.{length-take}
use lib.Pow.{pow_mono}
use Rattle.counting_laws.specs.Points.{box_at}
use Rattle.counting_laws.specs.Tally.{tally_start, tally_more, tally_most}
use Rattle.counting_laws.specs.Numbering.{box_counted}
use Rattle.box_counts.proofs.count_in_boxes.Goals as goal
use Rattle.box_counts.proofs.count_in_boxes.Goals.{In-loop-number}

-- one of at most 2^8 points
inside : (c : In-loop-number) → (c.loop-number.number-index < 2 ^ c.args.m) × (2 ^ c.args.m ≤ 256)
inside c = (
  omega (arith, c.loop-number-test.true, length-take c.leading_term-all.result c.boxes_of-boxes.result, c.leading_term-all.ensures),
  pow_mono {j = 8} c.requires.degree.high,
)

-- the number is that of the point's box, which has a counter
box_is : (c : In-loop-number) → let a = c.args in let point = c.loop-number.number-index in
    get_or (take c.leading_term-all.result c.boxes_of-boxes.result) point 0 ≡ box_at a.m a.points.now (take a.s a.shape.now) point
box_is c =
    let point = c.loop-number.number-index in
    get_or-take c.leading_term-all.result c.boxes_of-boxes.result point 0 (omega (arith, inside c, c.leading_term-all.ensures))
    ∙ c.boxes_of-boxes.ensures point (inside c).0

has_counter : (c : In-loop-number) → get_or (take c.leading_term-all.result c.boxes_of-boxes.result) c.loop-number.number-index 0 < 256
has_counter c =
    let a = c.args in
    omega (arith, box_is c, box_counted a.m a.s a.points.now a.shape.now c.requires c.loop-number.number-index)

pub loop-number-init : goal.loop-number-init
loop-number-init c = tally_start _ 256

pub bounds-counts-number : goal.bounds-counts-number
bounds-counts-number c = has_counter (goal.at.bounds-counts-number c).In-loop-number

pub overflow_add-counts : goal.overflow_add-counts
overflow_add-counts c =
    let turn = (goal.at.overflow_add-counts c).In-loop-number in
    let many = tally_most _ 256 c.loop-number.invariant _ (has_counter turn) in
    omega (arith, many, inside turn)

pub bounds-counts-number-in-loop-number : goal.bounds-counts-number-in-loop-number
bounds-counts-number-in-loop-number c = has_counter (goal.at.bounds-counts-number-in-loop-number c).In-loop-number

pub loop-number-preserved : goal.loop-number-preserved
loop-number-preserved c =
    let turn = (goal.at.loop-number-preserved c).In-loop-number in
    tally_more _ 256 c.loop-number.invariant _ (box_is turn) (has_counter turn)
