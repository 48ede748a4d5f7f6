-- What the contracts of this crate cite, and the laws for a loop that reads a list to its end.
pub mod Left
pub mod Passed
pub mod Turns
