-- An entry as the code holds it, as the definitions' entry. Assumes nothing.
use Rattle.definitions.specs.Catalogue.{Entry}
use Rattle.entry_reading.specs.declared.Entry as declared

abbrev pub as_entry : declared.Entry → Entry
as_entry e = record { degree = e.degree; top = e.top; gaps = e.gaps; rows = e.rows; offset = e.offset }
