-- The law that the code's proofs cite.
pub mod BothLine
