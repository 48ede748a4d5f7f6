-- Decimal digits: the laws that the proofs rest on.
pub mod Decimal
