-- A text put at a place of a buffer: where it fits behind the place, it takes the place of what stood there; where it does not, nothing is written.
-- What a writer does behind its test is what is promised, by cases of the test: `proofs/Placing.antt`. Assumes nothing.
use Rattle.std.specs.Prelude.{true, false, List, ℕ, ◌+◌, leb}
use Rattle.std.proofs.Math.ListN.{length}
use Rattle.definitions.specs.Number.{over}

-- What a buffer holds after a text was put at a place.
unfoldable pub placed : ℕ → List ℕ → List ℕ → List ℕ
placed at text out = elim (leb (at + length text) (length out)) [ true ↦ over at text out | false ↦ out ]

-- The place behind the text; where it did not fit, the place itself.
unfoldable pub behind : ℕ → List ℕ → List ℕ → ℕ
behind at text out = elim (leb (at + length text) (length out)) [ true ↦ at + length text | false ↦ at ]
