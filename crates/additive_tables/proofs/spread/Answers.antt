-- `additive_tables::spread` meets its contract. Assumes nothing.
use Rattle.additive_tables.specs.Spreading.{spread_start, spread_more}
use Rattle.additive_tables.proofs.spread.Goals as goal

pub loop-i-init : goal.loop-i-init
loop-i-init c = spread_start _ _ _ _

pub loop-i-preserved : goal.loop-i-preserved
loop-i-preserved c = spread_more _ _ _ _ c.requires _ _ c.loop-i.invariant c.loop-i-test.true
