-- `limits::between` meets its contract. Assumes nothing.
use borrow.Author.Tests.{lt-leb, le-leb}
use Rattle.limits.proofs.between.Goals as goal

pub returns-then-x-least : goal.returns-then-x-least
returns-then-x-least c = rw (lt-leb _ _ c.if-x-least.true)

pub returns : goal.returns
returns c = rw (le-leb _ _ c.if-x-least.false)
