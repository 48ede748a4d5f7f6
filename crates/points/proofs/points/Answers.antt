-- `points::points` meets its contract: each test says whether its situation applies, and behind the last one the words are written. Assumes nothing.
use Rattle.std.specs.Prelude.{Ok}
use mathlib.Core.Path.{◌≡◌, sym, ◌∙◌}
use mathlib.Core.Bool.{true}
use native.Mathlib.Omega.{arith}
use Rattle.std.proofs.lemmas.Result.{err_from_is_err_and}
use Rattle.definitions.specs.Generator.{lawful_degree, lawful_floor}
use Rattle.number_laws.specs.Bounds.{LawfulDegree, lawful_degree_is, lead_low}
use Rattle.verdicts.specs.Verdicts.{pair_verdict}
use Rattle.verdicts.specs.Refusals.{passed_well_formed}
use Rattle.words.proofs.WritingLaws.{front_written}
use Rattle.points.proofs.Answering.{wrong_degree, wrong_floor, answered_pair, answered_beyond, answered_written, words_left}
use Rattle.points.proofs.points.Goals as goal
use Rattle.points.proofs.points.Goals.{Else-not-is_lawful_degree, Else-not-is_lawful_floor, In_ok-check_pair}

lawful : (c : Else-not-is_lawful_degree) → lawful_degree c.args.degree ≡ true
lawful c = sym c.is_lawful_degree.ensures ∙ c.if-not-is_lawful_degree.false

covered : (c : Else-not-is_lawful_degree) → LawfulDegree c.args.degree
covered c = (lawful_degree_is _).0 (lawful c)

floor_is_lawful : (c : Else-not-is_lawful_floor) → lawful_floor c.args.floor ≡ true
floor_is_lawful c = sym c.is_lawful_floor.ensures ∙ c.if-not-is_lawful_floor.false

passed : (c : In_ok-check_pair) → let a = c.args in pair_verdict a.degree a.floor a.p a.q ≡ Ok tt
passed c = sym c.check_pair.ensures ∙ c.in_ok-check_pair.was

pub returns-then-not-is_lawful_degree : goal.returns-then-not-is_lawful_degree
returns-then-not-is_lawful_degree c =
    let all = wrong_degree _ _ _ _ _ _ (sym c.is_lawful_degree.ensures ∙ c.if-not-is_lawful_degree.true) in record { answer = all.0; slice = all.1 }

pub returns-then-not-is_lawful_floor : goal.returns-then-not-is_lawful_floor
returns-then-not-is_lawful_floor c =
    let all = wrong_floor _ _ _ _ _ _ (lawful (goal.at.returns-then-not-is_lawful_floor c).Else-not-is_lawful_degree) (sym c.is_lawful_floor.ensures ∙ c.if-not-is_lawful_floor.true) in record { answer = all.0; slice = all.1 }

pub check_pair-requires : goal.check_pair-requires
check_pair-requires c = covered (goal.at.check_pair-requires c).Else-not-is_lawful_degree

pub leading_term-last-requires : goal.leading_term-last-requires
leading_term-last-requires c = covered (goal.at.leading_term-last-requires c).Else-not-is_lawful_degree

pub overflow_sub-last : goal.overflow_sub-last
overflow_sub-last c = omega (arith, c.leading_term-last.ensures, lead_low (covered (goal.at.overflow_sub-last c).Else-not-is_lawful_degree))

pub returns-then-first-last : goal.returns-then-first-last
returns-then-first-last c =
    let all = answered_beyond _ _ _ _ _ _ (lawful (goal.at.returns-then-first-last c).Else-not-is_lawful_degree) (floor_is_lawful (goal.at.returns-then-first-last c).Else-not-is_lawful_floor) (passed (goal.at.returns-then-first-last c).In_ok-check_pair) (omega (arith, c.leading_term-last.ensures)) in record { answer = all.0; slice = all.1 }

pub write-requires : goal.write-requires
write-requires c = record { lawful_degree = covered (goal.at.write-requires c).Else-not-is_lawful_degree; well_formed = passed_well_formed _ _ _ _ (passed (goal.at.write-requires c).In_ok-check_pair) }

pub returns-in_err-check_pair : goal.returns-in_err-check_pair
returns-in_err-check_pair c =
    let p = err_from_is_err_and c.from_residual.result c.from_residual.ensures.1 in
    let all = answered_pair _ _ _ _ _ _ (lawful (goal.at.returns-in_err-check_pair c).Else-not-is_lawful_degree) (floor_is_lawful (goal.at.returns-in_err-check_pair c).Else-not-is_lawful_floor)
    (sym c.check_pair.ensures ∙ c.in_err-check_pair.was) in rw (p.1, p.2) (record { answer = all.0; slice = all.1 })

pub returns : goal.returns
returns c =
    let known = (goal.at.returns c).Else-not-is_lawful_degree in
    let lead = c.leading_term-last.ensures in
    let out = c.args.out.now in
    let all = answered_written _ _ _ _ _ _ (lawful known) (floor_is_lawful (goal.at.returns c).Else-not-is_lawful_floor) (passed (goal.at.returns c).In_ok-check_pair)
    (omega (arith, lead))
    (c.min-count.ensures ∙ words_left _ _ _ out lead (omega (arith, lead, lead_low (covered known))) c.if-first-last.false)
    (rw c.write.ensures (front_written _ _ _ _ out (omega (arith, c.min-count.ensures)))) in record { answer = all.0; slice = all.1 }
