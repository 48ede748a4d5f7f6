-- Every definition of documents 01 and 02, in the order in which they build on each other.
pub mod Base
pub mod Number
pub mod Polynomial
pub mod Generator
pub mod Points
pub mod Net
pub mod Gaps
pub mod Pages
pub mod Ranking
pub mod Answers
pub mod Calls
pub mod Catalogue
pub mod Listing
pub mod Recount
pub mod Writing
