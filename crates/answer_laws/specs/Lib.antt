-- Laws of answers: what a list of situations comes to, the answers of a single t-value and of calls on a pair by their tests, and what the answer and the
-- lent slice are together.
pub mod Unless
pub mod Measured
pub mod PairCalls
pub mod Together
pub mod Lent
pub mod Given
