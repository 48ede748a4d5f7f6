-- Invariant: the blocks before `base` are right, nothing stands behind them, and the image is that of the unit.
use Prim.Native.Nat.{◌-◌}
use Rattle.linear_maps.specs.Filling.{Filled}
use Rattle.linear_maps.proofs.maps.fill.Given as goal

abbrev pub invariant-loop-unit : goal.invariant-loop-unit
invariant-loop-unit g l = Filled (goal.N-post g l.next) l.fn.residues.lead l.first l.base l.unit l.table l.image

abbrev pub decreases-loop-unit : goal.decreases-loop-unit
decreases-loop-unit g l = l.fn.residues.lead - l.unit
