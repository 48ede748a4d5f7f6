-- What the tests of all degrees and of all T say. Assumes nothing.
use Rattle.std.specs.Prelude.{List}
use Rattle.definitions.specs.declared.Selection.{Selection}
use Rattle.definitions.specs.Writing.{lawful_degrees, lawful_tops}
use Rattle.entry_tests.specs.declared.Lawful.{Lawful}

abbrev pub lawful_of : List Selection → Lawful
lawful_of l = record { degrees = lawful_degrees l; tops = lawful_tops l }
