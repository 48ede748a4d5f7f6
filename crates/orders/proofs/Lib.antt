-- What the proofs about orders share.
pub mod DivisorTable
pub mod Finder
