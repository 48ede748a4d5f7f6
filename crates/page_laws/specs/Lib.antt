-- Laws of lists ranked by a key: the order of keys, ascending lists, insertion, what stands behind a page, rows in a flat list, the search.
-- Words: a cut is the start or a key, and elements stand above it; the slot of an element is how many elements it stands behind; rows are kept
-- at the front of a lent list, in order, as many as fit; rows are wide if each has the list's width.
pub mod Key
pub mod Members
pub mod Ascending
pub mod Behind
pub mod Insertion
pub mod Alike
pub mod Slot
pub mod Rows
pub mod Search
