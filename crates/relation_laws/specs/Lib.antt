-- From relations between digit rows to the search for the lightest, in the order in which the laws build on each other.
-- Words, besides those of net_laws: a relation is a sum of digit rows with the newest among them, and weighs as many as they are and its digits; a label
-- says by its digits which rows a sum has; a packed row stands above its label; a slot holds a vector by its degree, and a mask chooses slots.
pub mod Size
pub mod Relation
pub mod Ranges
pub mod Coordinate
pub mod Label
pub mod Scan
pub mod Offset
pub mod Leading
pub mod Starts
pub mod Mask
pub mod Turn
