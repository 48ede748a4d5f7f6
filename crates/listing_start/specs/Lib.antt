-- What is left to print, and what is printed upon a line: what the contracts cite, and the laws that their proofs and the parts rest on.
pub mod Left
pub mod Decision
