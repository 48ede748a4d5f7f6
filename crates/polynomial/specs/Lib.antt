-- What the contracts cite, and its laws.
pub mod Digits
pub mod Modulus
pub mod Powers
