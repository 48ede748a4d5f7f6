-- Invariant: n is a power of two, the first n entries of the block are right, and the image is that of the next digit.
use Prim.Native.Nat.{◌-◌}
use Rattle.linear_maps.specs.Maps.{block}
use Rattle.linear_maps.specs.Filling.{Block}
use Rattle.linear_maps.proofs.maps.fill_block.Given as goal

abbrev pub invariant-loop-n : goal.invariant-loop-n
invariant-loop-n g l = Block (goal.N-post g l.next) l.fn.residues.lead l.base l.first l.n l.initial.table l.table l.image

abbrev pub decreases-loop-n : goal.decreases-loop-n
decreases-loop-n g l = block - l.n
