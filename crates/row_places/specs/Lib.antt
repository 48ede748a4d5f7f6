-- What the contracts cite beside the definitions.
pub mod Places
