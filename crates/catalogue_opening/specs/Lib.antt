-- What the contract cites, and the laws that its proof rests on.
pub mod Opened
