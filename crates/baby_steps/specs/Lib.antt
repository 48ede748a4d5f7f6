-- What the contracts cite.
pub mod Chains
