-- What the proofs of the tests share.
pub mod Degrees
