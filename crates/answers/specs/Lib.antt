-- The values of an answer one by one, as structs for C have them. Assumes nothing.
pub mod Values
