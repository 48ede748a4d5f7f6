-- Laws of orders: the smallest exponent that gives 1, the table of prime divisors, primitive polynomials, the full cycle, the step, giant steps, the order
-- of q, the floor, words.
pub mod Exponents
pub mod Table
pub mod Powers
pub mod Primitive
pub mod Cycle
pub mod Parity
pub mod Step
pub mod Giant
pub mod State
pub mod Orbit
pub mod Accepted
pub mod Floor
pub mod Words
