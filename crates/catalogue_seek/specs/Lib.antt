-- What the contract of `locate` cites.
pub mod Seek
