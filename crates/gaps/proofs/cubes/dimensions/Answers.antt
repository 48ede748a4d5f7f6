-- `cubes::dimensions` meets its contract: before each turn the digit rows of the coordinates up to `last` are free together, and the basis begins
-- with their vectors. Assumes nothing.
use native.Mathlib.Omega.{arith}
use Rattle.std.proofs.Common.{◌∙◌, rules}
use Rattle.net_laws.specs.Point.{digit_row}
use Rattle.gaps.proofs.TakenLaws.{most_least, taken_start, dimensions_are}
use Rattle.gaps.proofs.cubes.dimensions.Goals as goal

pub loop-last-init : goal.loop-last-init
loop-last-init c = taken_start (digit_row c.args.p c.args.q) c.args.digits

pub returns-then-not-take_coordinate : goal.returns-then-not-take_coordinate
returns-then-not-take_coordinate c =
    let pre = c.requires in
    let none = rw c.modulo-residues.ensures.0 at (c.take_coordinate.ensures.not_free (search rules)) in
    dimensions_are pre.lawful_degree.1 c.args.q pre.between (omega arith) c.loop-last.invariant (λ less. none)

pub returns : goal.returns
returns c =
    let pre = c.requires in
    let least = most_least pre.between in
    let found = dimensions_are pre.lawful_degree.1 c.args.q pre.between (omega (arith, least)) c.loop-last.invariant (λ less. absurd (omega (arith, least))) in
    omega (arith, least) ∙ found
