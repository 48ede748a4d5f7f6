-- `cubes::take_coordinate` meets its contract: before each turn i digit rows of the coordinate are free with those before it, and `row` is the next.
-- Assumes nothing.
use mathlib.Core.Path.{◌≡◌, ◌∙◌}
use mathlib.Core.Bool.{true≢false, false≢true}
use Prim.Native.Nat.{suc, ◌+◌, ◌*◌, ◌%◌, ◌^◌, ◌≤◌, ◌<◌}
use native.Mathlib.Nat.{suc-mul}
use native.Mathlib.Omega.{arith}
use Rattle.number_laws.specs.Bounds.{one_shl}
use Rattle.net_laws.specs.Point.{digit_row}
use Rattle.net_laws.specs.Reduction.{reduce}
use Rattle.digit_rows.specs.Basis.{basis_room, newest, newest_front}
use Rattle.gaps.proofs.TakenLaws.{row_fits, row_lt, row_next, taken_row, taken_stops, taken_coordinate}
use Rattle.gaps.proofs.cubes.take_coordinate.Goals as goal
use Rattle.gaps.proofs.cubes.take_coordinate.Goals.{After-reduce-v, In-loop-i}

room : (c : In-loop-i) → c.args.last * c.args.digits + c.loop-i.i < basis_room
room c = omega (arith, row_fits c.args.last c.args.digits c.loop-i.i c.requires.digits_bound c.loop-i-test.true)

-- x to the digits
power_is : (c : In-loop-i) → 1 * 2 ^ c.args.digits % 2 ^ 32 ≡ 2 ^ c.args.digits
power_is c = one_shl c.args.digits (omega (arith, suc-mul c.args.last c.args.digits))

reduces : (c : After-reduce-v)
    → let a = c.args in
    let l = c.loop-i in
    c.reduce-v.result ≡ reduce (newest l.basis (a.last * a.digits + l.i)) (digit_row a.residues.p a.q (suc a.last) l.i)
reduces c =
    let a = c.args in
    let l = c.loop-i in
    let n = a.last * a.digits + l.i in
    let fits = room (goal.at.After-reduce-v c).In-loop-i in
    rw (newest_front l.basis n (omega (arith, l.invariant.1.sized)), l.invariant.0) at c.reduce-v.ensures

-- ---- the goals
pub returns-then-v-digits : goal.returns-then-v-digits
returns-then-v-digits c =
    record {
      taken = λ e. absurd (false≢true e);
      not_free = λ e. taken_stops _ _ c.loop-i.invariant.1 (reduces (goal.at.returns-then-v-digits c).After-reduce-v) c.loop-i-test.true (rw (power_is (goal.at.returns-then-v-digits c).In-loop-i) at c.if-v-digits.true);
    }

pub times_x-row-requires : goal.times_x-row-requires
times_x-row-requires c =
    let a = c.args in row_lt a.residues.modulus a.q (suc a.last) c.loop-i.i c.loop-i.invariant.0

pub loop-i-preserved : goal.loop-i-preserved
loop-i-preserved c =
    let turn = (goal.at.loop-i-preserved c).In-loop-i in
    let a = c.args in
    let l = c.loop-i in
    let new : 2 ^ a.digits ≤ c.reduce-v.result = omega (arith, power_is turn, c.if-v-digits.false) in (
      c.times_x-row.ensures.0 ∙ row_next a.residues.modulus a.q (suc a.last) l.i l.invariant.0,
      taken_row _ _ l.invariant.1 (reduces (goal.at.loop-i-preserved c).After-reduce-v) (room turn) new,
    )

pub returns : goal.returns
returns c =
    record { taken = λ e. taken_coordinate _ _ (omega arith) c.loop-i.invariant.1; not_free = λ e. absurd (true≢false e) }
