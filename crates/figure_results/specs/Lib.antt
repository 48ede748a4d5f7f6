-- A figure of a pair as a struct for C. Assumes nothing.
pub mod Results
