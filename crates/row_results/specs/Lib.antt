-- What a row of a body is as a struct for C, and that its numbers are as a page has them. Assumes nothing.
pub mod Results
pub mod PageRow
