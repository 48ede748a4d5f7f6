-- An answer about a catalogue as a struct for C: the refusal's number, 0 where there is none, and the answer's values, 0 where it has none.
-- Assumes nothing.
use Rattle.std.specs.Prelude.{List, ℕ, Result, Ok, Err}
use Rattle.definitions.specs.Answers.{refusal_number}
use Rattle.definitions.specs.Number.{bit}
use Rattle.catalogue_seek.specs.declared.BodyPlace.{BodyPlace}
use Rattle.definitions.specs.declared.Refusal.{Refusal}
use Rattle.answers.specs.Values.{value}
use Rattle.catalogue_results.specs.declared.FenyurkaCatalogue.{FenyurkaCatalogue}
use Rattle.catalogue_results.specs.declared.FenyurkaBody.{FenyurkaBody}
use Rattle.catalogue_results.specs.declared.FenyurkaFile.{FenyurkaFile}

abbrev pub catalogue_result : List ℕ → FenyurkaCatalogue
catalogue_result values = record { refusal = value values 0; entries = value values 1 }

-- A body: T, whether the rows have Δ, and how many there are; its place in the file, its length and the size of a row.
abbrev pub body_result : Result BodyPlace Refusal → FenyurkaBody
body_result (Ok b) = record {
  refusal = 0;
  top = b.top;
  gaps = bit b.gaps;
  rows = b.rows;
  offset = b.offset;
  length = b.size;
  row_size = b.stride;
}
body_result (Err r) = record { refusal = refusal_number r; top = 0; gaps = 0; rows = 0; offset = 0; length = 0; row_size = 0 }

abbrev pub file_result : List ℕ → FenyurkaFile
file_result values = record { refusal = value values 0; length = value values 1 }
