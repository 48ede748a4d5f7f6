-- The mirror of an accepted pair: reversed quotients, the inverse residue and its step, the same t-values, and lists of even length.
pub mod Continuant
pub mod Mirror
pub mod Turned
pub mod Involution
pub mod Twins
