-- Laws of catalogues: sizes, the form, lookups and readers; then the bytes of a catalogue, and back; then the form that catalogues had before Δ.
-- Words: a place is a byte offset, of an entry in the file or of a row in its body; a row of a body is its bytes, a `Row` its numbers.
pub mod Sizes
pub mod Kinds
pub mod Form
pub mod Reading
pub mod Lookup
pub mod Missing
pub mod Outcome
pub mod Reader
pub mod Bytes
pub mod Rows
pub mod Written
pub mod Files
pub mod RoundTrip
pub mod Example
pub mod OldForm
pub mod OldReading
pub mod OldFiles
