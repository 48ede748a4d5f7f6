-- What the quotient test answers, as its proof and others cite it.
pub mod Testing
