-- The starred examples, and laws that keep the definitions honest.
pub mod Examples
pub mod Honest
