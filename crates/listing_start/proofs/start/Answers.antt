-- `listing_start::start` reads the line and decides. Assumes nothing.
use mathlib.Core.Path.{sym, ap, ◌∙◌}
use Rattle.listing_start.specs.Decision.{printing_of, printing_unreadable}
use Rattle.listing_start.proofs.start.Goals as goal

pub returns-in-Some : goal.returns-in-Some
returns-in-Some c = c.decide.ensures ∙ ap printing_of (sym c.in-Some.is ∙ c.read_line.ensures)

pub returns-in-None : goal.returns-in-None
returns-in-None c = sym printing_unreadable ∙ ap printing_of (sym c.in-None.is ∙ c.read_line.ensures)
