-- `counter::count_t_value` meets its contract: each test that fails gives its refusal, in the order of their numbers, and past them the smallest t
-- that is counted is the definition's. Assumes nothing.
use Rattle.std.specs.Prelude.{Ok}
use mathlib.Core.Path.{◌≡◌, sym, ap, ◌∙◌}
use mathlib.Core.Bool.{true}
use Rattle.definitions.specs.Calls.{counted_degree, counted, uniformity}
use Rattle.definitions.specs.Generator.{lawful_degree, well_formed}
use Rattle.definitions.specs.Ranking.{lawful_dimension}
use Rattle.number_laws.specs.Bounds.{CountedDegree, LawfulDimension, counted_degree_is, counted_lawful, lawful_dimension_is}
use Rattle.answer_laws.specs.Measured.{wrong_dimension, ill_formed, measured, not_counted, counted_passes, counted_uniformity}
use Rattle.polynomial_laws.specs.Degree.{positive}
use Rattle.fraction_laws.specs.WellFormed.{WellFormed, well_formed_is}
use Rattle.counting_laws.specs.Counted.{counted_value}
use Rattle.counter.proofs.count_t_value.Goals as goal
use Rattle.counter.proofs.count_t_value.Goals.{Else-not-is_counted_degree, Else-not-is_lawful_dimension, Else-not-is_well_formed}

degree_passed : (c : Else-not-is_counted_degree) → counted_degree c.args.degree ≡ true
degree_passed c = sym c.is_counted_degree.ensures ∙ c.if-not-is_counted_degree.false

dimension_passed : (c : Else-not-is_lawful_dimension) → lawful_dimension c.args.dimension ≡ true
dimension_passed c = sym c.is_lawful_dimension.ensures ∙ c.if-not-is_lawful_dimension.false

pair_passed : (c : Else-not-is_well_formed) → well_formed c.args.degree c.args.p c.args.q ≡ true
pair_passed c = sym c.is_well_formed.ensures ∙ c.if-not-is_well_formed.false

-- ---- as facts
degree_counted : (c : Else-not-is_counted_degree) → CountedDegree c.args.degree
degree_counted c = (counted_degree_is _).0 (degree_passed c)

dimension_lawful : (c : Else-not-is_lawful_dimension) → LawfulDimension c.args.dimension
dimension_lawful c = (lawful_dimension_is _).0 (dimension_passed c)

formed : (c : Else-not-is_well_formed) → WellFormed c.args.degree c.args.p c.args.q
formed c = (well_formed_is _ _ _).0 (pair_passed c)

-- past the degree they are a single t-value's, of a lawful degree
lawful : (c : Else-not-is_counted_degree) → lawful_degree c.args.degree ≡ true
lawful c = counted_passes c.args.degree (degree_passed c)

answer_is : (c : Else-not-is_counted_degree) → let a = c.args in
    counted a.degree a.p a.q a.dimension ≡ uniformity a.degree a.p a.q a.dimension
answer_is c = counted_uniformity _ _ _ _ (degree_passed c)

-- ---- the answers
pub returns-then-not-is_counted_degree : goal.returns-then-not-is_counted_degree
returns-then-not-is_counted_degree c = sym (not_counted _ _ _ _ (sym c.is_counted_degree.ensures ∙ c.if-not-is_counted_degree.true))

pub returns-then-not-is_lawful_dimension : goal.returns-then-not-is_lawful_dimension
returns-then-not-is_lawful_dimension c =
    let known = (goal.at.returns-then-not-is_lawful_dimension c).Else-not-is_counted_degree in
    sym (answer_is known ∙ wrong_dimension _ _ _ _ (lawful known) (sym c.is_lawful_dimension.ensures ∙ c.if-not-is_lawful_dimension.true))

pub is_well_formed-requires : goal.is_well_formed-requires
is_well_formed-requires c = counted_lawful (degree_counted (goal.at.is_well_formed-requires c).Else-not-is_counted_degree)

pub returns-then-not-is_well_formed : goal.returns-then-not-is_well_formed
returns-then-not-is_well_formed c =
    let known = (goal.at.returns-then-not-is_well_formed c).Else-not-is_counted_degree in
    sym (answer_is known ∙ ill_formed _ _ _ _ (lawful known) (dimension_passed (goal.at.returns-then-not-is_well_formed c).Else-not-is_lawful_dimension) (sym c.is_well_formed.ensures ∙ c.if-not-is_well_formed.true))

pub build_points-points-requires : goal.build_points-points-requires
build_points-points-requires c = record { counted_degree = degree_counted (goal.at.build_points-points-requires c).Else-not-is_counted_degree; well_formed = formed c }

pub smallest_t-requires : goal.smallest_t-requires
smallest_t-requires c = record { counted_degree = degree_counted (goal.at.smallest_t-requires c).Else-not-is_counted_degree; digits = c.build_points-points.ensures.small; lawful_dimension = dimension_lawful (goal.at.smallest_t-requires c).Else-not-is_lawful_dimension }

pub returns : goal.returns
returns c =
    let known = (goal.at.returns c).Else-not-is_counted_degree in
    let value = counted_value _ _ _ (positive (formed (goal.at.returns c).Else-not-is_well_formed).degree_p) _ c.build_points-points.ensures _ (dimension_lawful (goal.at.returns c).Else-not-is_lawful_dimension).high in
    ap Ok (c.smallest_t.ensures ∙ value)
    ∙ sym (answer_is known ∙ measured _ _ _ _ (lawful known) (dimension_passed (goal.at.returns c).Else-not-is_lawful_dimension) (pair_passed (goal.at.returns c).Else-not-is_well_formed))
