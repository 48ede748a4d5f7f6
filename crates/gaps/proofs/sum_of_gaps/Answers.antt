-- `gaps::sum_of_gaps` meets its contract: each test says whether its situation applies, and of what passes both Δ is told. Assumes nothing.
use Rattle.std.specs.Prelude.{Ok, Err}
use mathlib.Core.Path.{◌≡◌, sym, ap, ◌∙◌}
use mathlib.Core.Bool.{true}
use borrow.Author.Tests.{not-true, not-false}
use Rattle.definitions.specs.Calls.{resolving, gap_sum}
use Rattle.definitions.specs.Generator.{lawful_degree, well_formed}
use Rattle.number_laws.specs.Bounds.{LawfulDegree, lawful_degree_is}
use Rattle.fraction_laws.specs.WellFormed.{well_formed_is}
use Rattle.answer_laws.specs.PairCalls.{wrong_degree, ill_formed, given}
use Rattle.gaps.proofs.sum_of_gaps.Goals as goal
use Rattle.gaps.proofs.sum_of_gaps.Goals.{Else-not-is_lawful_degree, Else-not-is_well_formed}

-- ---- of a lawful degree
degree_passed : (c : Else-not-is_lawful_degree) → lawful_degree c.args.degree ≡ true
degree_passed c = sym c.is_lawful_degree.ensures ∙ not-false _ c.if-not-is_lawful_degree.false-raw

lawful : (c : Else-not-is_lawful_degree) → LawfulDegree c.args.degree
lawful c = (lawful_degree_is _).0 (degree_passed c)

-- ---- of a well-formed pair
pair_passed : (c : Else-not-is_well_formed) → let a = c.args in well_formed a.degree a.p a.q ≡ true
pair_passed c = sym c.is_well_formed.ensures ∙ not-false _ c.if-not-is_well_formed.false-raw

pub returns-then-not-is_lawful_degree : goal.returns-then-not-is_lawful_degree
unfolding gap_sum resolving
returns-then-not-is_lawful_degree c =
    let a = c.args in
    sym (wrong_degree Err _ a.degree a.p a.q (sym c.is_lawful_degree.ensures ∙ not-true _ c.if-not-is_lawful_degree.true-raw))

pub is_well_formed-requires : goal.is_well_formed-requires
is_well_formed-requires c = lawful c

pub returns-then-not-is_well_formed : goal.returns-then-not-is_well_formed
unfolding gap_sum resolving
returns-then-not-is_well_formed c = sym (ill_formed Err _ _ _ _ (degree_passed (goal.at.returns-then-not-is_well_formed c).Else-not-is_lawful_degree) (sym c.is_well_formed.ensures ∙ not-true _ c.if-not-is_well_formed.true-raw))

pub resolution_gaps-requires : goal.resolution_gaps-requires
resolution_gaps-requires c = record { lawful_degree = lawful (goal.at.resolution_gaps-requires c).Else-not-is_lawful_degree; well_formed = (well_formed_is _ _ _).0 (pair_passed c) }

pub returns : goal.returns
unfolding gap_sum resolving
returns c = ap Ok c.resolution_gaps.ensures ∙ sym (given Err _ _ _ _ (degree_passed (goal.at.returns c).Else-not-is_lawful_degree) (pair_passed (goal.at.returns c).Else-not-is_well_formed))
