-- What the contracts cite.
pub mod Taken
