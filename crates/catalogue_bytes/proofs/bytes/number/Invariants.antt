-- The invariant: n is the number in the bytes so far, and is below 2^8 for each of them.
use mathlib.Core.Path.{◌≡◌}
use Prim.Native.Nat.{◌*◌, ◌^◌, ◌<◌}
use Rattle.definitions.specs.Catalogue.{number_at}
use Rattle.catalogue_bytes.proofs.bytes.number.Given as goal

abbrev pub invariant-loop-k : goal.invariant-loop-k
invariant-loop-k l = (l.n ≡ number_at l.k l.s l.at) × (l.n < 2 ^ (8 * l.k))
