-- Laws of the loops, over plain numbers.
pub mod PowerLaws
pub mod ReductionLaws
pub mod TableLaws
