-- From reduction of digit rows to t-values, in the order in which the laws build on each other.
-- Words: a digit row (here: row) is x^i q^j mod p, the row that digit i of coordinate j is read by; a vector is a row reduced by the older ones;
-- rows are free over x^0 .. x^(d-1) if no nonempty sum of these and of the rows is 0, which reduction tells; a share says how many digits each
-- coordinate has; the weight of rows over c powers of x is their number and c.
pub mod Reduction
pub mod Pairing
pub mod Cell
pub mod Point
pub mod Net
pub mod Smallest
pub mod Share
pub mod Weight
pub mod Inverse
pub mod TValue
