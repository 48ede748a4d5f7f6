-- `catalogue_form::entries::entries_form` meets its contract. Assumes nothing.
use Rattle.std.proofs.Common.{◌≡◌, true, ℕ, ◌+◌, ◌-◌, ◌≤◌, length, sym, ap, ap₂, ◌∙◌, arith}
use borrow.Author.Tests.{not-true, not-false}
use Rattle.definitions.specs.Catalogue.{Entry, behind_entry, behind_entries, body_size, entry_form, entries_form}
use Rattle.catalogue_laws.specs.Form.{entry_tests, entry_within, is_behind_first, behind_on, behind_step, entries_end, entries_step, entries_stop}
use Rattle.entry_reading.specs.Entries.{as_entry}
use Rattle.catalogue_form.proofs.entries.entries_form.Goals as goal
use Rattle.catalogue_form.proofs.entries.entries_form.Goals.{After-entry_at-e, After-entry_size-place, At-loop, Else-not-entry_form}

-- How many entries are left.
abbrev left : At-loop → ℕ
left c = c.args.n - c.loop.counter

-- The entry that was read is the one at the place.
abbrev read : After-entry_at-e → Entry
read c = as_entry c.entry_at-e.result

passed : (c : Else-not-entry_form)
    → entry_form c.args.s.now (read (goal.at.Else-not-entry_form c).After-entry_at-e) c.loop.last c.loop.at ≡ true
passed c = sym c.entry_form.ensures ∙ not-false _ c.if-not-entry_form.false-raw

within : (c : Else-not-entry_form) → c.loop.at + body_size (read (goal.at.Else-not-entry_form c).After-entry_at-e) ≤ length c.args.s.now
within c = entry_within _ _ _ _ (passed c)

next_is : (c : After-entry_size-place) → c.loop.place + c.entry_size-place.result ≡ behind_entry c.args.s.now c.loop.place
next_is c = behind_step c.args.s.now c.loop.place _ c.entry_at-e.ensures _ c.entry_size-place.ensures

less : (c : After-entry_size-place) → left (goal.at.After-entry_size-place c).At-loop - 1 ≡ c.args.n - (c.loop.counter + 1)
less c = omega arith

rest_within : (c : After-entry_size-place)
    → behind_entries c.args.s.now (c.args.n - (c.loop.counter + 1)) (c.loop.place + c.entry_size-place.result) ≤ length c.args.s.now
rest_within c =
    let s = c.args.s.now in
    let l = c.loop in
    let rest = ap₂ (behind_entries s) (less c) (sym (next_is c)) in
    omega (arith, l.invariant.0, rest, behind_on s (left (goal.at.After-entry_size-place c).At-loop) l.place (omega arith))

pub entry_at-e-requires : goal.entry_at-e-requires
entry_at-e-requires c =
    let l = c.loop in
    omega (arith, l.invariant.0, is_behind_first c.args.s.now (left (goal.at.entry_at-e-requires c).At-loop) l.place (omega arith))

pub returns-then-not-entry_form : goal.returns-then-not-entry_form
returns-then-not-entry_form c =
    let s = c.args.s.now in
    let l = c.loop in
    let same = ap (λ (e : Entry). entry_form s e l.last l.at) c.entry_at-e.ensures in
    let fails = sym (c.entry_form.ensures ∙ same) ∙ not-true _ c.if-not-entry_form.true-raw in
    sym (l.invariant.2 ∙ entries_stop s (c.args.n - l.counter) l.place l.last l.at (omega arith) fails)

pub body_size-at-requires : goal.body_size-at-requires
body_size-at-requires c = (entry_tests _ _ _ _ (passed c)).lawful.top_is_lawful

pub overflow_add-at : goal.overflow_add-at
overflow_add-at c = omega (arith, within (goal.at.overflow_add-at c).Else-not-entry_form, c.body_size-at.ensures)

pub overflow_add-place : goal.overflow_add-place
overflow_add-place c = omega (arith, c.loop.invariant.0, next_is c, is_behind_first c.args.s.now (c.args.n - c.loop.counter) c.loop.place (omega arith))

pub loop-preserved : goal.loop-preserved
loop-preserved c =
    let known = (goal.at.loop-preserved c).Else-not-entry_form in
    let s = c.args.s.now in
    let l = c.loop in
    let e = read (goal.at.loop-preserved c).After-entry_at-e in
    let step = entries_step s l.place e c.entry_at-e.ensures _ c.entry_size-place.ensures (c.args.n - l.counter) l.last l.at _ c.body_size-at.ensures (omega arith) (passed known) in (
      rest_within c,
      omega (arith, within known, c.body_size-at.ensures),
      l.invariant.2 ∙ step
          ∙ ap (λ (k : ℕ). entries_form s k (l.place + c.entry_size-place.result) e.degree (l.at + c.body_size-at.result)) (less c),
    )

pub returns : goal.returns
returns c =
    let l = c.loop in
    sym (l.invariant.2 ∙ entries_end _ (c.args.n - l.counter) l.place l.last l.at (omega arith))
