-- What judging and the quotient test answer, as a struct for C. Assumes nothing.
pub mod Results
