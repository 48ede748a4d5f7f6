-- What the contract cites, and its laws.
pub mod Written
