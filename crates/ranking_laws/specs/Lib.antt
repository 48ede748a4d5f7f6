-- Laws of the ranked list: all pairs; a list by its rule, and its reading page by page; the same for a selected list: the rows met on a walk,
-- the ranked list, rows without their steps, lists at floors and the session that reads a list.
pub mod Pairs
pub mod Rule
pub mod Reading
pub mod Met
pub mod Ranked
pub mod Steps
pub mod Floors
pub mod Session
