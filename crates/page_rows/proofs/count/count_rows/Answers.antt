-- `count::count_rows` walks the tree from its root with room for one row, the longest. Assumes nothing.
use mathlib.Core.Path.{refl}
use Rattle.std.specs.Prelude.{None}
use native.Mathlib.Omega.{arith}
use Rattle.search.specs.Frame.{width_most}
use Rattle.page_rows.proofs.SearchLaws as laws
use Rattle.page_rows.proofs.count.count_rows.Goals as goal

pub visit-found-requires : goal.visit-found-requires
visit-found-requires c =
    let short = width_most c.requires in
    laws.ready c.args.list None _ 1 c.requires tt (omega arith) (omega arith)

pub returns : goal.returns
returns c = laws.counted c.args.list None _ 1 c.requires c.visit-found.ensures refl
