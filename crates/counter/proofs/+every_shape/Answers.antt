-- `counter::every_shape` meets its contract: the last coordinate takes all digits that are left, any other d of them. The coordinates left fall with
-- every call. Assumes nothing.
use mathlib.Core.Path.{sym, ◌∙◌}
use Prim.Native.Nat.{◌+◌}
use native.Mathlib.Omega.{arith}
use Rattle.number_laws.specs.Every.{every_none, every_more}
use Rattle.counting_laws.specs.Sharing.{begun_whole, whole_is, further, begun_more, more_fails, more_holds}
use Rattle.counter.proofs.+every_shape.Goals as goal

-- ---- the last coordinate
pub fills_evenly-requires : goal.fills_evenly-requires
fills_evenly-requires n c =
    let whole = begun_whole c.requires c.if-j-s.true in
    record { shaped = whole.0; t_le_m = (whole.1, whole.2) }

pub returns-then-j-s : goal.returns-then-j-s
returns-then-j-s n c = c.fills_evenly.ensures ∙ sym (whole_is c.requires c.if-j-s.true)

-- ---- d digits for coordinate j
pub loop-d-init : goal.loop-d-init
loop-d-init n c = every_none 0 _ (omega arith)

pub every_shape-requires : goal.every_shape-requires
every_shape-requires n c =
    let begun = c.requires in
    (omega (arith, further begun c.if-j-s.false), begun_more begun c.if-j-s.false c.loop-d.d (omega arith))

pub returns-then-not-every_shape : goal.returns-then-not-every_shape
returns-then-not-every_shape n c =
    let fails = sym c.every_shape.ensures ∙ c.if-not-every_shape.true in
    sym (more_fails c.requires c.loop-d.d (omega arith) fails)

pub loop-d-preserved : goal.loop-d-preserved
loop-d-preserved n c = every_more _ _ c.loop-d.invariant (sym c.every_shape.ensures ∙ c.if-not-every_shape.false)

pub returns-else-not-every_shape : goal.returns-else-not-every_shape
returns-else-not-every_shape n c =
    let d = c.loop-d.d in
    let passed = every_more _ _ c.loop-d.invariant (sym c.every_shape.ensures ∙ c.if-not-every_shape.false) in
    sym (more_holds c.requires (d + 1) (omega arith) (omega arith) passed)
