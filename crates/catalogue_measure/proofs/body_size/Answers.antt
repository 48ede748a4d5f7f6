-- `body_size`: so many rows, each of one size. Assumes nothing.
use mathlib.Core.Path.{◌≡◌, ap₂}
use Prim.Native.Nat.{◌*◌}
use native.Mathlib.Omega.{arith}
use lib.ListN.{length}
use Rattle.definitions.specs.Ranking.{ranked}
use Rattle.definitions.specs.Catalogue.{row_size}
use Rattle.writing_laws.specs.Turns.{body_size_small}
use Rattle.catalogue_measure.proofs.body_size.Goals as goal
use Rattle.catalogue_measure.proofs.body_size.Goals.{After-row_size}

size_is : (c : After-row_size) → let l = c.args.list in
    c.count_rows.result * c.row_size.result ≡ length (ranked l) * row_size l.degree l.top l.gaps
size_is c = ap₂ ◌*◌ c.count_rows.ensures c.row_size.ensures

pub overflow_mul-result : goal.overflow_mul-result
overflow_mul-result c = omega (arith, size_is c, body_size_small c.args.list c.requires.degree c.requires.top)

pub returns : goal.returns
returns c = size_is c
