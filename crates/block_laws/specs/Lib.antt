-- The point set of an accepted pair, seen as blocks of its output.
pub mod Blocks
