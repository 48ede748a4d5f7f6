-- What the proofs of words and tables share.
pub mod WordLaws
