-- `rank::weigh` writes the t-values one after the other, and stops where they decide. Assumes nothing.
use Rattle.std.proofs.Common.{ℕ, List, ◌+◌, ◌<◌, sym, ap, ◌∙◌, arith}
use native.Mathlib.Nat.{add-sub_cancel}
use lib.ListN.{set, length-set}
use Rattle.definitions.specs.Net.{t_value}
use Rattle.order_laws.specs.Accepted.{accepted_is}
use Rattle.quotient_laws.specs.Plane.{t_value_linear}
use Rattle.net.specs.Bound.{stop_accepted}
use Rattle.row_places.specs.Places.{values_end}
use Rattle.ranking_laws.specs.Steps.{begun}
use Rattle.search.proofs.RowLaws.{take_next, begun_first, begun_length, begun_at}
use Rattle.search.proofs.RankLaws as laws
use Rattle.search.proofs.rank.weigh.Invariants.{Written}
use Rattle.search.proofs.rank.weigh.Goals as goal
use Rattle.search.proofs.rank.weigh.Goals.{After-next_t-value}

-- ---- with coordinate 1: t(2) is 0, since the quotients are linear
pub add_coordinate-requires-clause-tabled : goal.add_coordinate-requires-clause-tabled
add_coordinate-requires-clause-tabled c = c.first_coordinate-table.ensures.table c.modulo.result.modulus c.args.q c.args.f.now.list.degree

pub loop-s-init : goal.loop-s-init
loop-s-init c =
    let a = c.args in
    let lawful = c.requires.searching.framed.lawful in (
      record {
        from = omega arith;
        to = omega (arith, lawful.top.low);
        sized = simp length-set c.requires.row_len;
        is = begun_first a.f.now.list a.p a.q a.row.now c.requires.row_len;
        last = sym ((t_value_linear c.requires.well_formed).0 ((accepted_is _ _ _).0 c.requires.q_value).linear);
      },
      rw (c.modulo.ensures.0, c.modulo.ensures.1) at c.add_coordinate.ensures,
    )

-- ---- in the loop
pub next_t-value-requires-clause-stop : goal.next_t-value-requires-clause-stop
next_t-value-requires-clause-stop c =
    let formed = c.requires.well_formed in
    stop_accepted _ _ _ (omega (arith, c.requires.searching.framed.lawful.degree.low)) formed.degree_p formed.nonzero formed.smaller c.requires.q_value

-- One t-value more.
abbrev row : After-next_t-value → List ℕ
row c = set c.loop-s.row c.loop-s.s c.next_t-value.result

inside : (c : After-next_t-value) → c.loop-s.s < values_end c.args.f.now.list
inside c = omega (arith, c.values_end-end.ensures)

more : (c : After-next_t-value) → let a = c.args in Written a.f.now.list a.p a.q (row c) c.next_t-value.result (c.loop-s.s + 1)
more c =
    let a = c.args in
    let s = c.loop-s.s in
    let i = inside c in
    let known = c.loop-s.invariant.0 in
    let top = c.requires.searching.framed.lawful.top in
    let value = c.next_t-value.ensures.0 in
    let length-b = begun_length a.f.now.list a.p a.q top.low in
    let at-s = value ∙ sym (begun_at a.f.now.list a.p a.q s known.from i) in
    record {
      from = omega (arith, known.from);
      to = omega arith;
      sized = simp length-set known.sized;
      is = take_next c.loop-s.row (begun a.f.now.list a.p a.q) s c.next_t-value.result (omega (arith, i, top.high, known.sized)) (omega arith) known.is at-s;
      last = value ∙ ap (t_value a.f.now.list.degree a.p a.q) (sym (add-sub_cancel s 1));
    }

-- ---- the key is not above the cut
pub returns-then-is_low : goal.returns-then-is_low
returns-then-is_low c =
    let turn = (goal.at.returns-then-is_low c).After-next_t-value in
    let m = more turn in
    let a = c.args in
    laws.low_known c.requires.searching a.p a.q (row turn) (c.loop-s.s + 1) m.from (omega (arith, m.to)) m.is m.sized c.is_low.ensures c.if-is_low.true

-- ---- the key is behind every row kept, and there is no room left
pub returns-then-is_high : goal.returns-then-is_high
returns-then-is_high c =
    let turn = (goal.at.returns-then-is_high c).After-next_t-value in
    let m = more turn in
    let a = c.args in
    laws.high_known c.requires.searching a.p a.q (row turn) (c.loop-s.s + 1) m.from (omega (arith, m.to)) m.is m.sized c.is_high.ensures c.if-is_high.true

-- ---- neither is known
pub loop-s-preserved : goal.loop-s-preserved
loop-s-preserved c =
    let turn = (goal.at.loop-s-preserved c).After-next_t-value in (more turn, rw (add-sub_cancel c.loop-s.s 1) c.next_t-value.ensures.1)

pub returns : goal.returns
returns c =
    let a = c.args in
    let known = c.loop-s.invariant.0 in
    laws.open_known c.requires.searching a.p a.q c.loop-s.row c.loop-s.s known.from (omega (arith, known.to)) known.is known.sized
    (omega (arith, known.to, c.values_end-end.ensures))
