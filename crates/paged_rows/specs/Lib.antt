-- The rows of a list as they are printed: what the contracts cite, and the laws that their proofs and the parts rest on.
pub mod Printed
pub mod Room
