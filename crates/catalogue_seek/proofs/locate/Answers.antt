-- `catalogue_seek::locate` meets its contract: the refusals in their order, and behind the last of them an entry that is lawful and within the file.
-- Assumes nothing.
use Rattle.std.specs.Prelude.{Ok}
use mathlib.Core.Path.{◌≡◌, sym, ap, ap₂, ◌∙◌, subst}
use mathlib.Core.Bool.{true}
use mathlib.Core.List.{List}
use Prim.Native.Nat.{ℕ}
use native.Mathlib.Omega.{arith}
use borrow.Author.Tests.{not-true, not-false}
use Rattle.definitions.specs.Generator.{lawful_degree}
use Rattle.definitions.specs.Catalogue.{Entry, behind_entry, contents_end, catalogue_form, looking, entry_at, entry_of}
use Rattle.number_laws.specs.Bounds.{LawfulTop}
use Rattle.answer_laws.specs.Unless.{NoneApplies}
use Rattle.catalogue_laws.specs.Form.{CatalogueForm, catalogue_form_lem}
use Rattle.catalogue_laws.specs.Lookup.{FoundEntry}
use Rattle.catalogue_laws.specs.Outcome.{entry_for, looking_degree, looking_form, looking_missing, looking_finds, looking_found}
use Rattle.entry_reading.specs.Entries.{as_entry}
use Rattle.catalogue_seek.specs.Seek.{unless_zero_none, unless_zero_some, unless_zero_lies, place_of, locating_refused, locating_given}
use Rattle.catalogue_seek.proofs.locate.Goals as goal
use Rattle.catalogue_seek.proofs.locate.Goals.{After-entry_at-e, Else-not-catalogue_form, Else-not-is_lawful_degree, In-Some}

abbrev file : In-Some → List ℕ
file c = c.args.file.now

-- What each test says where it is passed.
degree_lawful : (c : Else-not-is_lawful_degree) → lawful_degree c.args.degree ≡ true
degree_lawful c = sym c.is_lawful_degree.ensures ∙ not-false _ c.if-not-is_lawful_degree.false-raw

formed : (c : Else-not-catalogue_form) → catalogue_form c.args.file.now ≡ true
formed c = sym c.catalogue_form.ensures ∙ not-false _ c.if-not-catalogue_form.false-raw

form : (c : Else-not-catalogue_form) → CatalogueForm c.args.file.now
form c = catalogue_form_lem _ (formed c)

finds : (c : In-Some) → NoneApplies (looking c.args.file.now c.args.degree)
finds c =
    looking_finds _ _ (degree_lawful (goal.at.In-Some c).Else-not-is_lawful_degree) (formed (goal.at.In-Some c).Else-not-catalogue_form) (unless_zero_lies _ c.in-Some.place (sym c.entry_of.ensures ∙ c.in-Some.is))

placed : (c : In-Some) → entry_of (file c) c.args.degree ≡ c.in-Some.place
placed c = unless_zero_some _ c.in-Some.place (sym c.entry_of.ensures ∙ c.in-Some.is)

-- The entry that is found: lawful, of the degree, and within the contents.
found : (c : In-Some)
    → FoundEntry (file c) (contents_end (file c)) c.args.degree (entry_of (file c) c.args.degree)
found c = (looking_found _ _ (finds c)).found

read_is : (c : After-entry_at-e) → as_entry c.entry_at-e.result ≡ entry_for c.args.file.now c.args.degree
read_is c = c.entry_at-e.ensures ∙ ap (entry_at c.args.file.now) (sym (placed (goal.at.After-entry_at-e c).In-Some))

top_is_lawful : (c : After-entry_at-e) → LawfulTop c.entry_at-e.result.top
top_is_lawful c = subst LawfulTop (sym (ap (λ (e : Entry). e.top) (read_is c))) (found (goal.at.After-entry_at-e c).In-Some).lawful.top_is_lawful

pub returns-then-not-is_lawful_degree : goal.returns-then-not-is_lawful_degree
returns-then-not-is_lawful_degree c =
    let fails = sym c.is_lawful_degree.ensures ∙ not-true _ c.if-not-is_lawful_degree.true-raw in
    sym (locating_refused _ _ (looking_degree _ _ fails))

pub returns-then-not-catalogue_form : goal.returns-then-not-catalogue_form
returns-then-not-catalogue_form c =
    let fails = sym c.catalogue_form.ensures ∙ not-true _ c.if-not-catalogue_form.true-raw in
    sym (locating_refused _ _ (looking_form _ _ (degree_lawful (goal.at.returns-then-not-catalogue_form c).Else-not-is_lawful_degree) fails))

pub entry_of-requires : goal.entry_of-requires
entry_of-requires c = ((form c).nonempty, (form c).contents)

pub returns-in_default : goal.returns-in_default
returns-in_default c =
    let missing = unless_zero_none _ (sym c.entry_of.ensures ∙ c.in_default.is) in
    sym (locating_refused _ _ (looking_missing _ _ (degree_lawful (goal.at.returns-in_default c).Else-not-is_lawful_degree) (formed (goal.at.returns-in_default c).Else-not-catalogue_form) missing))

pub entry_at-e-requires : goal.entry_at-e-requires
entry_at-e-requires c =
    let same = ap (behind_entry c.args.file.now) (placed c) in
    omega (arith, same, (found c).whole, (form (goal.at.entry_at-e-requires c).Else-not-catalogue_form).contents)

pub body_size-requires : goal.body_size-requires
body_size-requires c = top_is_lawful (goal.at.body_size-requires c).After-entry_at-e

pub row_size-requires : goal.row_size-requires
row_size-requires c = top_is_lawful (goal.at.row_size-requires c).After-entry_at-e

pub returns : goal.returns
returns c =
    let e = c.entry_at-e.result in
    ap₂ (λ (size stride : ℕ). Ok (record { offset = e.offset; size = size; stride = stride; top = e.top; gaps = e.gaps; rows = e.rows }))
    c.body_size.ensures c.row_size.ensures
    ∙ ap (λ (x : Entry). Ok (place_of x)) (read_is (goal.at.returns c).After-entry_at-e)
    ∙ sym (locating_given _ _ (finds (goal.at.returns c).In-Some))
