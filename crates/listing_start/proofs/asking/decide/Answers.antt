-- `listing_start::asking::decide` decides as the definition does. Assumes nothing.
use mathlib.Core.Path.{◌≡◌, sym, ◌∙◌}
use mathlib.Core.Bool.{true}
use native.Mathlib.Omega.{arith}
use Rattle.definitions.specs.Generator.{lawful_degree, lawful_floor}
use Rattle.definitions.specs.Ranking.{lawful_top}
use Rattle.listing_start.specs.Decision.{size_refused, degree_refused, top_refused, floor_refused, none_refused, all_listed}
use Rattle.listing_start.proofs.asking.decide.Goals as goal
use Rattle.listing_start.proofs.asking.decide.Goals.{Else-not-is_lawful_degree, Else-not-is_lawful_floor, Else-not-is_lawful_top}

degree : (c : Else-not-is_lawful_degree) → lawful_degree c.args.asked.degree ≡ true
degree c = sym c.is_lawful_degree.ensures ∙ c.if-not-is_lawful_degree.false

top : (c : Else-not-is_lawful_top) → lawful_top c.args.asked.top ≡ true
top c = sym c.is_lawful_top.ensures ∙ c.if-not-is_lawful_top.false

floor : (c : Else-not-is_lawful_floor) → lawful_floor c.args.asked.floor ≡ true
floor c = sym c.is_lawful_floor.ensures ∙ c.if-not-is_lawful_floor.false

pub returns-then-size-gt-LARGEST_SIZE : goal.returns-then-size-gt-LARGEST_SIZE
returns-then-size-gt-LARGEST_SIZE c =
    let a = c.args.asked in sym (size_refused a.degree a.top a.size a.floor c.if-size-gt-LARGEST_SIZE.true)

pub returns-then-not-is_lawful_degree : goal.returns-then-not-is_lawful_degree
returns-then-not-is_lawful_degree c =
    let a = c.args.asked in
    c.refuse.ensures
    ∙ sym (degree_refused a.degree a.top a.size a.floor c.if-size-gt-LARGEST_SIZE.false
    (sym c.is_lawful_degree.ensures ∙ c.if-not-is_lawful_degree.true))

pub returns-then-not-is_lawful_top : goal.returns-then-not-is_lawful_top
returns-then-not-is_lawful_top c =
    let a = c.args.asked in
    c.refuse-then-not-is_lawful_top.ensures
    ∙ sym (top_refused a.degree a.top a.size a.floor c.if-size-gt-LARGEST_SIZE.false (degree (goal.at.returns-then-not-is_lawful_top c).Else-not-is_lawful_degree)
    (sym c.is_lawful_top.ensures ∙ c.if-not-is_lawful_top.true))

pub returns-then-not-is_lawful_floor : goal.returns-then-not-is_lawful_floor
returns-then-not-is_lawful_floor c =
    let a = c.args.asked in
    c.refuse-then-not-is_lawful_floor.ensures
    ∙ sym (floor_refused a.degree a.top a.size a.floor c.if-size-gt-LARGEST_SIZE.false (degree (goal.at.returns-then-not-is_lawful_floor c).Else-not-is_lawful_degree) (top (goal.at.returns-then-not-is_lawful_floor c).Else-not-is_lawful_top)
    (sym c.is_lawful_floor.ensures ∙ c.if-not-is_lawful_floor.true))

pub returns-then-size-eq0 : goal.returns-then-size-eq0
returns-then-size-eq0 c =
    let a = c.args.asked in
    c.refuse-then-size-eq0.ensures
    ∙ sym (none_refused a.degree a.top a.size a.floor c.if-size-gt-LARGEST_SIZE.false (degree (goal.at.returns-then-size-eq0 c).Else-not-is_lawful_degree) (top (goal.at.returns-then-size-eq0 c).Else-not-is_lawful_top) (floor (goal.at.returns-then-size-eq0 c).Else-not-is_lawful_floor)
    c.if-size-eq0.true)

pub returns : goal.returns
returns c =
    let a = c.args.asked in
    sym (all_listed a.degree a.top a.size a.floor c.if-size-gt-LARGEST_SIZE.false (degree (goal.at.returns c).Else-not-is_lawful_degree) (top (goal.at.returns c).Else-not-is_lawful_top) (floor (goal.at.returns c).Else-not-is_lawful_floor)
    (omega (arith, c.if-size-eq0.false)))
