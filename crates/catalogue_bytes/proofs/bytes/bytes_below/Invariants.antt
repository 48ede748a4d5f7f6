-- The invariant: the bytes before k pass.
use Rattle.std.proofs.Common.{◌≡◌, ℕ, ◌+◌, ltb, true}
use Rattle.definitions.specs.Number.{every}
use Rattle.definitions.specs.Catalogue.{byte_at}
use Rattle.catalogue_bytes.proofs.bytes.bytes_below.Given as goal

abbrev pub invariant-loop-k : goal.invariant-loop-k
invariant-loop-k l = every l.k (λ (k : ℕ). ltb (byte_at l.s (l.at + k)) l.bound) ≡ true
