-- Lines of words and numbers: what the contracts cite, and the laws that their proofs rest on.
pub mod Lines
