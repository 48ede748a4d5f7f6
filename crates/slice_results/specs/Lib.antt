-- What an answer beside a lent slice is as a struct for C. Assumes nothing.
pub mod Results
