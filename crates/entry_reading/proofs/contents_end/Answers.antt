-- `entry_reading::contents_end` meets its contract. Assumes nothing.
use Rattle.std.proofs.Common.{◌≡◌, ℕ, ◌+◌, ◌-◌, ◌≤◌, sym, ap, ap₂, ◌∙◌, arith}
use Rattle.definitions.specs.Catalogue.{entry_size, behind_entry, behind_entries}
use Rattle.catalogue_laws.specs.Sizes.{entry_size_most}
use Rattle.catalogue_laws.specs.Form.{behind_none, behind_on}
use Rattle.entry_reading.proofs.contents_end.Goals as goal
use Rattle.entry_reading.proofs.contents_end.Goals.{After-entry_size-place}

-- The entry of this turn ends where the next one begins.
size_most : (c : After-entry_size-place) → c.entry_size-place.result ≤ 10
size_most c = rw c.entry_size-place.ensures (entry_size_most _)

next_is : (c : After-entry_size-place) → c.loop.place + c.entry_size-place.result ≡ behind_entry c.args.s.now c.loop.place
next_is c = ap (λ (n : ℕ). c.loop.place + n) (c.entry_size-place.ensures ∙ ap entry_size c.degree_at.ensures)

pub overflow_add-place : goal.overflow_add-place
overflow_add-place c = omega (arith, size_most c)

pub loop-preserved : goal.loop-preserved
loop-preserved c =
    let s = c.args.s.now in
    let l = c.loop in
    let left = c.args.n - l.counter in
    let less : left - 1 ≡ c.args.n - (l.counter + 1) = omega arith in
    (omega (arith, size_most c), l.invariant.1 ∙ behind_on s left l.place (omega arith) ∙ ap₂ (behind_entries s) less (sym (next_is c)))

pub returns : goal.returns
returns c =
    let l = c.loop in
    sym (l.invariant.1 ∙ behind_none _ (c.args.n - l.counter) l.place (omega arith))
