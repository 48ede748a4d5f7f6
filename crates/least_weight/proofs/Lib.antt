-- Laws of one turn of each function.
pub mod RoomLaws
pub mod TurnLaws
pub mod WeightLaws
