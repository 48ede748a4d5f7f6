-- `catalogue::open` meets its contract. Assumes nothing.
use Rattle.std.specs.Prelude.{Ok}
use mathlib.Core.Path.{◌≡◌, sym, ap, ◌∙◌}
use mathlib.Core.Bool.{true}
use borrow.Author.Tests.{not-true, not-false}
use Rattle.definitions.specs.Catalogue.{catalogue_form}
use Rattle.catalogue_laws.specs.Form.{catalogue_form_lem}
use Rattle.catalogue_laws.specs.Lookup.{opening_closed, opening_entries}
use Rattle.catalogue.proofs.open.Goals as goal
use Rattle.catalogue.proofs.open.Goals.{Else-not-catalogue_form}

formed : (c : Else-not-catalogue_form) → catalogue_form c.args.file.now ≡ true
formed c = sym c.catalogue_form.ensures ∙ not-false _ c.if-not-catalogue_form.false-raw

pub returns-then-not-catalogue_form : goal.returns-then-not-catalogue_form
returns-then-not-catalogue_form c =
    let fails = sym c.catalogue_form.ensures ∙ not-true _ c.if-not-catalogue_form.true-raw in
    sym (opening_closed c.args.file.now fails)

pub byte-requires : goal.byte-requires
byte-requires c = (catalogue_form_lem _ (formed c)).nonempty

pub returns : goal.returns
returns c = ap Ok c.byte.ensures.0 ∙ sym (opening_entries _ (formed (goal.at.returns c).Else-not-catalogue_form))
