-- The three demands, one file each; the table's words for a pair's refusals; the quotient test, and what refusal 5 carries; catalogues in a file's own
-- words, and written ones read back; the words of the period; both engines of t-values; Δ and both kinds of row; the same of the calls themselves and
-- of the C functions; what the listing prints; and that every contract leaves no choice.
pub mod Situations
pub mod PairTable
pub mod Demand1
pub mod Quotients
pub mod Catalogues
pub mod Files
pub mod Demand2
pub mod Period
pub mod Engines
pub mod Gaps
pub mod Demand3
pub mod Floors
pub mod Arguments
pub mod FromContracts
pub mod FromC
pub mod Printed
pub mod Unique
