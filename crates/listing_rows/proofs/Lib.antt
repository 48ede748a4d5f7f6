-- What the proof of the rows that are taken cites.
pub mod TakeRows
