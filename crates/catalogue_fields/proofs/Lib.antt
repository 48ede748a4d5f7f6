-- Laws that belong to no one function.
pub mod EntryLaws
pub mod RowLaws
