-- `offer::offer_known` passes over a row that is not above the cut; another is counted, and kept where it fits. Assumes nothing.
use mathlib.Core.Path.{sym, ◌∙◌}
use native.Mathlib.Omega.{arith}
use borrow.Author.Tests.{not-false, not-true}
use Rattle.search.specs.Frame.{state_of}
use Rattle.search.proofs.OfferLaws as laws
use Rattle.search.proofs.offer.offer_known.Goals as goal

pub is_above-requires : goal.is_above-requires
is_above-requires c = (c.requires.0.framed, c.requires.1)

pub returns-then-not-is_above : goal.returns-then-not-is_above
returns-then-not-is_above c =
    let a = c.args in
    laws.offer_passed a.f.now (state_of a.out.now a.t) a.row.now (sym c.is_above.ensures ∙ not-true _ c.if-not-is_above.true-raw)

pub keep_row-requires : goal.keep_row-requires
keep_row-requires c = (laws.keeping c.requires.0, c.requires.1)

pub overflow_add-result : goal.overflow_add-result
overflow_add-result c = omega (arith, c.requires.0.few)

pub returns : goal.returns
returns c =
    let a = c.args in
    laws.offer_counted a.f.now (state_of a.out.now a.t) a.row.now (sym c.is_above.ensures ∙ not-false _ c.if-not-is_above.false-raw)
    c.keep_row.ensures
