-- `words::writing::write_many` meets its contract. Assumes nothing.
use Prim.Native.Nat.{◌*◌, ◌<◌}
use native.Mathlib.Omega.{arith}
use Rattle.number_laws.specs.Bounds.{lead_high}
use Rattle.word_tables.specs.Tables.{size}
use Rattle.word_tables.specs.Filling.{upper_unit, next_looked_up, next_small, word_looked_up}
use Rattle.words.proofs.WritingLaws.{writing_start, writing_more, writing_done}
use Rattle.words.proofs.writing.write_many.Goals as goal

pub fill-requires-2-clause-unit : goal.fill-requires-2-clause-unit
fill-requires-2-clause-unit c = upper_unit

pub loop-word-init : goal.loop-word-init
loop-word-init c = (writing_start c.state_at-y.ensures.0, c.state_at-y.ensures.1)

pub loop-word-preserved : goal.loop-word-preserved
loop-word-preserved c =
    let pre = c.requires in
    let d = pre.well_formed.degree_p in
    let inv = c.loop-word.invariant in
    let lower = c.fill.ensures in
    let upper = c.fill-2.ensures in
    -- a state has at most the digits of two halves
    let small_state : c.loop-word.y < size * size = omega (arith, inv.1, lead_high pre.lawful_degree) in
    let next = next_looked_up d _ lower upper _ inv.1 small_state in
    let small = next_small d _ lower upper _ inv.1 small_state in
    let word = word_looked_up d _ lower upper _ inv.1 small_state in
    (writing_more inv.0 (omega arith) word next, small)

pub returns : goal.returns
returns c = writing_done c.loop-word.invariant.0 (omega arith)
