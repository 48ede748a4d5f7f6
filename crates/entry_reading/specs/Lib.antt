-- What the contracts cite.
pub mod Entries
