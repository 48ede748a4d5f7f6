-- `counter::smallest_t` meets its contract. Assumes nothing.
use mathlib.Core.Path.{◌≡◌, sym, ◌∙◌}
use native.Mathlib.Omega.{arith}
use Rattle.counting_laws.specs.Shapes.{shape_start}
use Rattle.counting_laws.specs.Sharing.{begun_start, first_found, first_further, first_last}
use Rattle.counter.proofs.smallest_t.Invariants.{passes}
use Rattle.counter.proofs.smallest_t.Goals as goal
use Rattle.counter.proofs.smallest_t.Goals.{After-every_shape}

-- what the call told of t
told : (c : After-every_shape) → let a = c.args in
    c.every_shape.result ≡ passes a.points.now a.s a.m c.loop-t.t
told c = c.every_shape.ensures ∙ shape_start _ _ _ _

pub every_shape-requires : goal.every_shape-requires
every_shape-requires c =
    let pre = c.requires in
    begun_start _ _ _ _ pre.counted_degree pre.digits pre.lawful_dimension (omega arith)

pub returns-then-every_shape : goal.returns-then-every_shape
returns-then-every_shape c = sym (sym c.loop-t.invariant ∙ first_found _ _ _ c.loop-t-test.true (sym (told (goal.at.returns-then-every_shape c).After-every_shape) ∙ c.if-every_shape.true))

pub loop-t-preserved : goal.loop-t-preserved
loop-t-preserved c = first_further _ _ _ c.loop-t-test.true (sym (told (goal.at.loop-t-preserved c).After-every_shape) ∙ c.if-every_shape.false) ∙ c.loop-t.invariant

pub returns : goal.returns
returns c =
    let l = c.loop-t in
    let all : c.args.m ≡ l.t = omega arith in
    all ∙ sym (first_last _ _ _ (omega arith) c.loop-t-test.false) ∙ l.invariant
