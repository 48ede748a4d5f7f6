-- `row_results::behind_t` meets its contract. Assumes nothing.
use borrow.Author.Tests.{eq-eqb, ne_eqb}
use Rattle.row_results.proofs.behind_t.Goals as goal

pub returns-then-top-s : goal.returns-then-top-s
returns-then-top-s c =
    let a = c.args in rw (eq-eqb a.top a.s c.if-top-s.true)

pub returns-else-top-s : goal.returns-else-top-s
returns-else-top-s c =
    let a = c.args in rw (ne_eqb a.top a.s c.if-top-s.false)
