-- Laws of one turn, over plain numbers.
pub mod TakenLaws
