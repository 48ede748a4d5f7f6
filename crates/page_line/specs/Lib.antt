-- The line below a page: what the contracts cite, and where the line is due.
pub mod Texts
pub mod Due
