-- `generator::pair::judge_pair` meets its contract: what is refused before the step is rejected, and else the step found decides, and then the powers
-- of x below the floor. Assumes nothing.
use Rattle.std.specs.Prelude.{Ok, Err}
use mathlib.Core.Path.{◌≡◌, sym, ap, ap₂, ◌∙◌}
use mathlib.Core.Bool.{true}
use Prim.Native.Nat.{ℕ, ◌-◌}
use native.Mathlib.Omega.{arith}
use borrow.Author.Tests.{eq-eqb, ne_eqb}
use Rattle.std.proofs.lemmas.Result.{err_from_is_err_and}
use Rattle.definitions.specs.Number.{gcd}
use Rattle.definitions.specs.Generator.{step, period, coprime_step}
use Rattle.number_laws.specs.Bounds.{lead_low}
use Rattle.answer_laws.specs.Unless.{unless_refused, unless_given}
use Rattle.fraction_laws.specs.WellFormed.{well_formed_is}
use Rattle.verdicts.specs.Verdicts.{Fit, checked_refused, checked_fit, not_coprime, step_below, all_pass}
use Rattle.generator.specs.Judging.{pair_judgement, coprime_step_def}
use Rattle.generator.proofs.pair.judge_pair.Goals as goal
use Rattle.generator.proofs.pair.judge_pair.Goals.{After-gcd_of, Else-gcd_of-ne1, In_ok-check_polynomials}

fit : (c : In_ok-check_polynomials) → let a = c.args in Fit a.m a.p a.q
fit c = checked_fit c.check_polynomials.ensures c.in_ok-check_polynomials.was

divisor_is : (c : After-gcd_of)
    → let a = c.args in c.gcd_of.result ≡ gcd (step a.m a.p a.q) (period a.m)
divisor_is c = c.gcd_of.ensures ∙ ap₂ gcd c.find_step-step.ensures (ap (λ (n : ℕ). n - 1) c.leading_term.ensures)

coprime : (c : Else-gcd_of-ne1) → let a = c.args in coprime_step a.m a.p a.q ≡ true
coprime c = coprime_step_def _ _ _ ∙ eq-eqb _ 1 (sym (divisor_is (goal.at.Else-gcd_of-ne1 c).After-gcd_of) ∙ c.if-gcd_of-ne1.false)

pub find_step-step-requires : goal.find_step-step-requires
find_step-step-requires c = record { lawful_degree = c.requires; well_formed = (well_formed_is _ _ _).0 (fit c).is_well_formed; p_value = (fit c).primitive_p }

pub overflow_sub-leading_term : goal.overflow_sub-leading_term
overflow_sub-leading_term c = omega (arith, lead_low c.requires, c.leading_term.ensures)

pub returns-then-gcd_of-ne1 : goal.returns-then-gcd_of-ne1
unfolding pair_judgement
returns-then-gcd_of-ne1 c =
    sym (unless_refused Err (Ok _)
    (not_coprime (fit (goal.at.returns-then-gcd_of-ne1 c).In_ok-check_polynomials) _ (coprime_step_def _ _ _ ∙ ne_eqb _ 1 (λ e. c.if-gcd_of-ne1.true (divisor_is (goal.at.returns-then-gcd_of-ne1 c).After-gcd_of ∙ e)))))

pub reaches_floor-requires : goal.reaches_floor-requires
reaches_floor-requires c = record { lawful_degree = c.requires; well_formed = (well_formed_is _ _ _).0 (fit (goal.at.reaches_floor-requires c).In_ok-check_polynomials).is_well_formed; p_value = (fit (goal.at.reaches_floor-requires c).In_ok-check_polynomials).primitive_p; q_value = (fit (goal.at.reaches_floor-requires c).In_ok-check_polynomials).linear }

pub returns-then-not-reaches_floor : goal.returns-then-not-reaches_floor
unfolding pair_judgement
returns-then-not-reaches_floor c =
    sym (unless_refused Err (Ok _)
    (step_below (fit (goal.at.returns-then-not-reaches_floor c).In_ok-check_polynomials) _ (coprime (goal.at.returns-then-not-reaches_floor c).Else-gcd_of-ne1) (sym c.reaches_floor.ensures ∙ c.if-not-reaches_floor.true)))

pub returns-in_err-check_polynomials : goal.returns-in_err-check_polynomials
unfolding pair_judgement
returns-in_err-check_polynomials c =
    let p = err_from_is_err_and c.from_residual.result c.from_residual.ensures.1 in
    rw (p.1, p.2) (sym (unless_refused Err (Ok _) (checked_refused _ _ _ _ c.check_polynomials.ensures c.in_err-check_polynomials.was)))

pub returns : goal.returns
unfolding pair_judgement
returns c =
    ap Ok c.find_step-step.ensures
    ∙ sym (unless_given Err (Ok _)
    (all_pass (fit (goal.at.returns c).In_ok-check_polynomials) _ (coprime (goal.at.returns c).Else-gcd_of-ne1) (sym c.reaches_floor.ensures ∙ c.if-not-reaches_floor.false)))
