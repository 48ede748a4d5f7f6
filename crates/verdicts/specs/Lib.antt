-- What the contracts cite, and the laws that the code's proofs cite.
pub mod Verdicts
pub mod Refusals
