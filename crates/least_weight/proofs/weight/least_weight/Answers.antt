-- `weight::least_weight` meets its contract: the search begins with nothing taken. Assumes nothing.
use mathlib.Core.Path.{refl}
use native.Mathlib.Omega.{arith}
use Rattle.least_weight.proofs.WeightLaws.{path_start, least_found}
use Rattle.least_weight.proofs.weight.least_weight.Goals as goal

pub search_ranges-requires-clause-path : goal.search_ranges-requires-clause-path
search_ranges-requires-clause-path c =
    let a = c.args in path_start a.table.now a.degree a.coordinate _ c.requires.words refl

pub returns : goal.returns
returns c = least_found (omega arith) c.search_ranges.ensures
