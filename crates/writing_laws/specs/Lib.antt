-- Laws of the catalogue that is made of ranked lists: how many rows a list has, that each number fits its field, the file, read back, written entry by
-- entry, and no longer than a bound.
pub mod Few
pub mod Fields
pub mod Held
pub mod InBytes
pub mod RankedFile
pub mod Turns
pub mod Longest
