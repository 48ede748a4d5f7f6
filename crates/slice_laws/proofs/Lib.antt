-- Laws of a text that is put at a place.
pub mod Placing
