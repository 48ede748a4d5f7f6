-- Laws of binary polynomials, from digits and sums up to powers modulo a polynomial and the leading digits of a fraction.
pub mod Digits
pub mod Sum
pub mod Degree
pub mod Additive
pub mod Product
pub mod Division
pub mod Power
pub mod Leading
