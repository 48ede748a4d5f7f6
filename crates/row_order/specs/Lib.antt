-- What the contracts of this crate cite beside the definitions and page_laws.
pub mod Ranks
