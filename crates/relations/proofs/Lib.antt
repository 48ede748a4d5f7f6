-- Laws of one turn of each function.
pub mod WordLaws
pub mod WeightLaws
pub mod ReduceLaws
pub mod SumLaws
