-- `marks::top_of` meets its contract. Assumes nothing.
use borrow.Author.Tests.{lt-leb, le-leb}
use Rattle.marks.proofs.top_of.Goals as goal

pub returns-then-number-ge-GAPS_MARK : goal.returns-then-number-ge-GAPS_MARK
returns-then-number-ge-GAPS_MARK c = rw (le-leb _ _ c.if-number-ge-GAPS_MARK.true)

pub returns : goal.returns
returns c = rw (lt-leb _ _ c.if-number-ge-GAPS_MARK.false)
