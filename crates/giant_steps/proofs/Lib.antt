-- What the proof of this crate cites.
pub mod StepLaws
