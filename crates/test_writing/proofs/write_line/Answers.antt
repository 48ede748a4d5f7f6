-- `test_writing::write_line` lends the numbers that came. Assumes nothing.
use Rattle.std.proofs.Common.{sym, List, ℕ, ◌≤◌, length, length-take-le}
use Rattle.definitions.specs.Listing.{line_of, words_of, numbers_within}
use Rattle.line.specs.Numbers.{numbers_few, numbers_within_lem}
use Rattle.test_writing.proofs.write_line.Goals as goal

few : (most : ℕ) (line : List ℕ) → length (numbers_within most line) ≤ most
few most line = rw (← numbers_within_lem most line) (numbers_few most (words_of (line_of line)))

pub slice_bounds-numbers-end : goal.slice_bounds-numbers-end
slice_bounds-numbers-end g c = let read = c.read_numbers-count in rw (read.auto.out, read.ensures.value) (few _ _)

pub slice_bounds-write_within-end : goal.slice_bounds-write_within-end
slice_bounds-write_within-end g c =
    let read = c.read_numbers-count in
    sym (length-take-le _ _ (rw (read.auto.out, read.ensures.value) (few _ _)))
