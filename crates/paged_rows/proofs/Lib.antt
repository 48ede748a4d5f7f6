-- What the proofs of the rows share.
pub mod PutRows
