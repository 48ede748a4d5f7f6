-- Laws of Euclid's algorithm on binary polynomials, of partial quotients and of the tree of pairs.
pub mod WellFormed
pub mod Expansion
pub mod Quotients
pub mod Level
pub mod Tree
pub mod Inverse
pub mod Euclid
pub mod Degrees
