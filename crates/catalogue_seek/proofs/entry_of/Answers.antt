-- `catalogue_seek::entry_of` meets its contract. Assumes nothing.
use Rattle.std.proofs.Common.{◌≡◌, ℕ, ◌+◌, ◌-◌, ◌≤◌, length, sym, ap, ap₂, ◌∙◌, arith}
use Rattle.definitions.specs.Catalogue.{byte_at, entry_size, first_entry, behind_entry, behind_entries, entry_from}
use Rattle.catalogue_laws.specs.Sizes.{entry_size_least}
use Rattle.catalogue_laws.specs.Form.{is_behind_first, behind_on}
use Rattle.catalogue_laws.specs.Lookup.{entry_of_lem, look_end, look_stop, look_on}
use Rattle.catalogue_seek.specs.Seek.{unless_zero, unless_zero_is}
use Rattle.catalogue_seek.proofs.entry_of.Goals as goal
use Rattle.catalogue_seek.proofs.entry_of.Goals.{After-entry_size-place, At-loop, In-loop}

-- How many entries are left.
abbrev left : At-loop → ℕ
left c = c.byte-n.result - c.loop.counter

-- The entry of this turn ends within the file.
whole : (c : In-loop) → behind_entry c.args.s.now c.loop.place ≤ length c.args.s.now
whole c =
    let l = c.loop in
    omega (arith, l.invariant.1, is_behind_first c.args.s.now (left (goal.at.In-loop c).At-loop) l.place (omega arith))

next_is : (c : After-entry_size-place) → c.loop.place + c.entry_size-place.result ≡ behind_entry c.args.s.now c.loop.place
next_is c = ap (λ (n : ℕ). c.loop.place + n) (c.entry_size-place.ensures ∙ ap entry_size c.byte-here.ensures.0)

pub loop-init : goal.loop-init
loop-init c =
    let a = c.args in
    let n = c.byte-n.ensures.0 in
    let all : c.byte-n.result - 0 ≡ byte_at a.s.now 0 = omega arith in
    let ends = ap (λ (k : ℕ). behind_entries a.s.now k first_entry) all in
    (omega arith, omega (arith, ends, c.requires.1), entry_of_lem a.s.now a.degree ∙ ap (λ (k : ℕ). entry_from a.s.now k first_entry a.degree) (sym all))

pub byte-here-requires : goal.byte-here-requires
byte-here-requires c = omega (arith, whole c, entry_size_least (byte_at c.args.s.now c.loop.place))

pub returns-then-here-degree : goal.returns-then-here-degree
returns-then-here-degree c =
    let l = c.loop in
    let k = left (goal.at.returns-then-here-degree c).At-loop in
    let here = l.invariant.2 ∙ look_stop c.args.s.now c.args.degree k l.place (omega arith) (sym c.byte-here.ensures.0 ∙ c.if-here-degree.true) in
    sym (ap unless_zero here ∙ unless_zero_is l.place l.invariant.0)

pub overflow_add-place : goal.overflow_add-place
overflow_add-place c = omega (arith, next_is c, whole (goal.at.overflow_add-place c).In-loop)

pub loop-preserved : goal.loop-preserved
loop-preserved c =
    let s = c.args.s.now in
    let m = c.args.degree in
    let l = c.loop in
    let k = left (goal.at.loop-preserved c).At-loop in
    let less : k - 1 ≡ c.byte-n.result - (l.counter + 1) = omega arith in
    let rest = ap₂ (behind_entries s) less (sym (next_is c)) in (
      omega arith,
      omega (arith, l.invariant.1, rest, behind_on s k l.place (omega arith)),
      l.invariant.2
          ∙ look_on s m k l.place (omega arith) (λ e. c.if-here-degree.false (c.byte-here.ensures.0 ∙ e))
          ∙ ap₂ (λ (j n : ℕ). entry_from s j n m) less (sym (next_is c)),
    )

pub returns : goal.returns
returns c =
    let l = c.loop in
    sym (ap unless_zero (l.invariant.2 ∙ look_end c.args.s.now _ (left (goal.at.returns c).At-loop) l.place (omega arith)))
