-- What the proof of points cites.
pub mod Answering
