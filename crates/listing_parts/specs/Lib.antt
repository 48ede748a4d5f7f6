-- The text of the listing in parts: what the contracts cite, and the laws that their proofs and the theorem of the parts rest on.
pub mod Parts
