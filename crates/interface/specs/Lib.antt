-- What the functions that C calls are asked and answer. Assumes nothing.
pub mod Requests
pub mod Located
