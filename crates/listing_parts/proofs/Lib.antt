-- What the proofs of the parts share.
pub mod Front
pub mod NextRows
