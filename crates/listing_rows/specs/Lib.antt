-- The rows that are taken: what the contract cites, and its laws.
pub mod Taken
