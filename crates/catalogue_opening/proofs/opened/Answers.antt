-- `catalogue_opening::opened` meets its contract: what it gives follows from where the body lies. Assumes nothing.
use mathlib.Core.Path.{refl, sym, ◌∙◌}
use Rattle.catalogue_opening.specs.Opened.{opened_found, opened_refused}
use Rattle.catalogue_opening.proofs.opened.Goals as goal

pub returns-in-Ok : goal.returns-in-Ok
returns-in-Ok c = opened_found _ _ _ (sym c.locate.ensures ∙ c.in-Ok.is) _ refl refl refl refl refl

pub returns-in-Err : goal.returns-in-Err
returns-in-Err c = opened_refused _ _ _ (sym c.locate.ensures ∙ c.in-Err.is) _ c.refusal_number-number.ensures refl refl refl refl
