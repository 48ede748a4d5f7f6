-- `catalogue::lookup` meets its contract: its answer is a function of where the body lies. Assumes nothing.
use mathlib.Core.Path.{sym, ap, ◌∙◌}
use Rattle.std.proofs.lemmas.Result.{err_from_is_err_and}
use Rattle.catalogue_seek.specs.Seek.{numbers_of, located_numbers}
use Rattle.catalogue.proofs.lookup.Goals as goal

pub returns : goal.returns
returns c = ap numbers_of (sym c.in_ok-found.was ∙ c.locate.ensures) ∙ located_numbers _ _

pub returns-in_err-found : goal.returns-in_err-found
returns-in_err-found c =
    let p = err_from_is_err_and c.from_residual.result c.from_residual.ensures.1 in
    rw (p.1, p.2) (ap numbers_of (sym c.in_err-found.was ∙ c.locate.ensures) ∙ located_numbers _ _)
