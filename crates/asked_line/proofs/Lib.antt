-- What the proof rests on.
pub mod Asked
