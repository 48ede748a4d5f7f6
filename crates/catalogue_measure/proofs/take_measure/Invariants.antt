-- The invariant: what is summed and what is left are the whole.
use Rattle.definitions.specs.Writing.{entries_of}
use Rattle.catalogue_measure.proofs.MeasureLaws as laws
use Rattle.catalogue_measure.proofs.take_measure.Given as goal

abbrev pub invariant-loop-k : goal.invariant-loop-k
invariant-loop-k l = laws.Measured (entries_of l.floor l.entries) l.k l.contents l.bodies
