-- `generator::judge` meets its contract: a degree out of range is refused first and a floor out of range next, and any other leaves the judgement to
-- the pair. Assumes nothing.
use mathlib.Core.Path.{◌≡◌, sym, ◌∙◌}
use mathlib.Core.Bool.{true}
use Rattle.definitions.specs.Generator.{lawful_degree, lawful_floor}
use Rattle.number_laws.specs.Bounds.{lawful_degree_is}
use Rattle.generator.specs.Judging.{judgement_wrong_degree, judgement_wrong_floor, judgement_lawful}
use Rattle.generator.proofs.judge.Goals as goal
use Rattle.generator.proofs.judge.Goals.{Else-not-is_lawful_degree, Else-not-is_lawful_floor}

degree_is_lawful : (c : Else-not-is_lawful_degree) → lawful_degree c.args.degree ≡ true
degree_is_lawful c = sym c.is_lawful_degree.ensures ∙ c.if-not-is_lawful_degree.false

floor_is_lawful : (c : Else-not-is_lawful_floor) → lawful_floor c.args.floor ≡ true
floor_is_lawful c = sym c.is_lawful_floor.ensures ∙ c.if-not-is_lawful_floor.false

pub returns-then-not-is_lawful_degree : goal.returns-then-not-is_lawful_degree
returns-then-not-is_lawful_degree c = sym (judgement_wrong_degree _ _ _ _ (sym c.is_lawful_degree.ensures ∙ c.if-not-is_lawful_degree.true))

pub returns-then-not-is_lawful_floor : goal.returns-then-not-is_lawful_floor
returns-then-not-is_lawful_floor c = sym (judgement_wrong_floor _ _ _ _ (degree_is_lawful (goal.at.returns-then-not-is_lawful_floor c).Else-not-is_lawful_degree) (sym c.is_lawful_floor.ensures ∙ c.if-not-is_lawful_floor.true))

pub judge_pair-requires : goal.judge_pair-requires
judge_pair-requires c = (lawful_degree_is _).0 (degree_is_lawful (goal.at.judge_pair-requires c).Else-not-is_lawful_degree)

pub returns : goal.returns
returns c = c.judge_pair.ensures ∙ sym (judgement_lawful _ _ _ _ (degree_is_lawful (goal.at.returns c).Else-not-is_lawful_degree) (floor_is_lawful (goal.at.returns c).Else-not-is_lawful_floor))
