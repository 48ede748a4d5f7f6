-- What the proofs of writing words share.
pub mod WritingLaws
