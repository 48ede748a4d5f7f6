-- The measure of a file: where its first body lies, and how long it is. Assumes nothing.
use Rattle.std.specs.Prelude.{List, map, length}
use Rattle.definitions.specs.declared.Selection.{Selection}
use Rattle.definitions.specs.Catalogue.{first_entry}
use Rattle.definitions.specs.Writing.{ranked_list, ranked_file, behind_lists}
use Rattle.catalogue_measure.specs.declared.Measure.{Measure}

abbrev pub measure_of : List Selection → Measure
measure_of ls = record { contents = behind_lists (map ranked_list ls) first_entry; length = length (ranked_file ls) }
