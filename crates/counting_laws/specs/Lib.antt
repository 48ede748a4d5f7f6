-- Points counted box by box: boxes by their numbers, counters that go up, shapes shared coordinate by coordinate; the points in an array, filled from the
-- front, asked for a point's box and for every shape; and what is counted there is the definition's t-value.
pub mod Boxes
pub mod Tally
pub mod Shapes
pub mod Points
pub mod Building
pub mod Numbering
pub mod Sharing
pub mod Counted
