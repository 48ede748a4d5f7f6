-- The laws that the proofs rest on, and how long the line of a refusal is.
pub mod Texts
