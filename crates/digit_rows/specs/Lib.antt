-- What the contracts of this crate and of those above cite.
pub mod Powers
pub mod Basis
pub mod Table
