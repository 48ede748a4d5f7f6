-- What the proofs about full orders share.
pub mod DivisorLoop
pub mod PowerLaws
