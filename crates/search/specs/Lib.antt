-- What the contracts of this crate cite beside the definitions.
pub mod Frame
pub mod Standing
pub mod Walk
