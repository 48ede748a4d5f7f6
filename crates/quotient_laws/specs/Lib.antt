-- How bad a quotient is: the largest degree of the partial quotients and that of the common factor, and what they say of the t-value in dimension 2.
pub mod Degrees
pub mod Approximation
pub mod Relations
pub mod Plane
