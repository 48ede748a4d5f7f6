-- `net::t_value` meets its contract: each test that fails gives its refusal, in the order of their numbers, and past them t(s) is the definition's.
-- Assumes nothing.
use Rattle.std.specs.Prelude.{Ok}
use mathlib.Core.Path.{◌≡◌, sym, ap, ◌∙◌}
use mathlib.Core.Bool.{true}
use borrow.Author.Tests.{not-true, not-false}
use Rattle.definitions.specs.Generator.{lawful_degree, well_formed}
use Rattle.definitions.specs.Ranking.{lawful_dimension}
use Rattle.fraction_laws.specs.WellFormed.{WellFormed, well_formed_is}
use Rattle.number_laws.specs.Bounds.{LawfulDegree, lawful_degree_is, lawful_dimension_is}
use Rattle.answer_laws.specs.Measured.{wrong_degree, wrong_dimension, ill_formed, measured}
use Rattle.net.proofs.t_value.Goals as goal
use Rattle.net.proofs.t_value.Goals.{Else-not-is_lawful_degree, Else-not-is_lawful_dimension, Else-not-is_well_formed}

degree_passed : (c : Else-not-is_lawful_degree) → lawful_degree c.args.degree ≡ true
degree_passed c = sym c.is_lawful_degree.ensures ∙ not-false _ c.if-not-is_lawful_degree.false-raw

dimension_passed : (c : Else-not-is_lawful_dimension) → lawful_dimension c.args.dimension ≡ true
dimension_passed c = sym c.is_lawful_dimension.ensures ∙ not-false _ c.if-not-is_lawful_dimension.false-raw

pair_passed : (c : Else-not-is_well_formed) → well_formed c.args.degree c.args.p c.args.q ≡ true
pair_passed c = sym c.is_well_formed.ensures ∙ not-false _ c.if-not-is_well_formed.false-raw

lawful : (c : Else-not-is_lawful_degree) → LawfulDegree c.args.degree
lawful c = (lawful_degree_is _).0 (degree_passed c)

formed : (c : Else-not-is_well_formed) → WellFormed c.args.degree c.args.p c.args.q
formed c = (well_formed_is _ _ _).0 (pair_passed c)

-- ---- the answers
pub returns-then-not-is_lawful_degree : goal.returns-then-not-is_lawful_degree
returns-then-not-is_lawful_degree c = sym (wrong_degree _ _ _ _ (sym c.is_lawful_degree.ensures ∙ not-true _ c.if-not-is_lawful_degree.true-raw))

pub returns-then-not-is_lawful_dimension : goal.returns-then-not-is_lawful_dimension
returns-then-not-is_lawful_dimension c = sym (wrong_dimension _ _ _ _ (degree_passed (goal.at.returns-then-not-is_lawful_dimension c).Else-not-is_lawful_degree) (sym c.is_lawful_dimension.ensures ∙ not-true _ c.if-not-is_lawful_dimension.true-raw))

pub is_well_formed-requires : goal.is_well_formed-requires
is_well_formed-requires c = lawful (goal.at.is_well_formed-requires c).Else-not-is_lawful_degree

pub returns-then-not-is_well_formed : goal.returns-then-not-is_well_formed
returns-then-not-is_well_formed c = sym (ill_formed _ _ _ _ (degree_passed (goal.at.returns-then-not-is_well_formed c).Else-not-is_lawful_degree) (dimension_passed (goal.at.returns-then-not-is_well_formed c).Else-not-is_lawful_dimension) (sym c.is_well_formed.ensures ∙ not-true _ c.if-not-is_well_formed.true-raw))

pub stop_bound-bound-requires : goal.stop_bound-bound-requires
stop_bound-bound-requires c = record { lawful_degree = lawful (goal.at.stop_bound-bound-requires c).Else-not-is_lawful_degree; well_formed = formed c }

pub t_at-requires : goal.t_at-requires
t_at-requires c = record { lawful_degree = (lawful (goal.at.t_at-requires c).Else-not-is_lawful_degree, (formed (goal.at.t_at-requires c).Else-not-is_well_formed).degree_p); stop = c.stop_bound-bound.ensures; lawful_dimension = (lawful_dimension_is _).0 (dimension_passed (goal.at.t_at-requires c).Else-not-is_lawful_dimension) }

pub returns : goal.returns
returns c = ap Ok c.t_at.ensures ∙ sym (measured _ _ _ _ (degree_passed (goal.at.returns c).Else-not-is_lawful_degree) (dimension_passed (goal.at.returns c).Else-not-is_lawful_dimension) (pair_passed (goal.at.returns c).Else-not-is_well_formed))
