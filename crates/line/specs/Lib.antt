-- A line of numbers: what the contracts cite, and the laws that their proofs rest on.
pub mod Part
pub mod Word
pub mod Numbers
pub mod LongLine
