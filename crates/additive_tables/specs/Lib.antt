-- What the contract cites, and the laws that proofs cite.
pub mod Spreading
pub mod Tables
