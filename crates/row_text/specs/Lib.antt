-- The text of a row: what the contracts cite, and the laws that their proofs rest on.
pub mod Rows
