-- `verdicts::check_pair` meets its contract: what is refused before the step is refused, and of what is fit q's order decides, and then the powers of
-- x below the floor. Assumes nothing.
use Rattle.std.specs.Prelude.{Ok, Err}
use mathlib.Core.Path.{◌≡◌, sym, ◌∙◌}
use mathlib.Core.Bool.{true}
use Rattle.std.proofs.lemmas.Result.{err_from_is_err_and}
use Rattle.definitions.specs.Generator.{coprime_step}
use Rattle.answer_laws.specs.Unless.{unless_refused, unless_given}
use Rattle.fraction_laws.specs.WellFormed.{well_formed_is}
use Rattle.verdicts.specs.Verdicts.{Fit, pair_verdict, checked_refused, checked_fit, not_coprime, step_below, all_pass}
use Rattle.verdicts.proofs.check_pair.Goals as goal
use Rattle.verdicts.proofs.check_pair.Goals.{Else-not-has_full_order, In_ok-check_polynomials}

-- what the tests before the step say of the pair
fit : (c : In_ok-check_polynomials) → let a = c.args in Fit a.m a.p a.q
fit c = checked_fit c.check_polynomials.ensures c.in_ok-check_polynomials.was

-- ---- where q has the full order
full_order : (c : Else-not-has_full_order) → let a = c.args in coprime_step a.m a.p a.q ≡ true
full_order c = sym c.has_full_order.ensures ∙ c.if-not-has_full_order.false

pub has_full_order-requires : goal.has_full_order-requires
has_full_order-requires c = record { lawful_degree = c.requires; well_formed = (well_formed_is _ _ _).0 (fit c).is_well_formed; p_value = (fit c).primitive_p }

pub returns-then-not-has_full_order : goal.returns-then-not-has_full_order
unfolding pair_verdict
returns-then-not-has_full_order c = sym (unless_refused Err (Ok tt) (not_coprime (fit (goal.at.returns-then-not-has_full_order c).In_ok-check_polynomials) _ (sym c.has_full_order.ensures ∙ c.if-not-has_full_order.true)))

pub reaches_floor-requires : goal.reaches_floor-requires
reaches_floor-requires c = record { lawful_degree = c.requires; well_formed = (well_formed_is _ _ _).0 (fit (goal.at.reaches_floor-requires c).In_ok-check_polynomials).is_well_formed; p_value = (fit (goal.at.reaches_floor-requires c).In_ok-check_polynomials).primitive_p; q_value = (fit (goal.at.reaches_floor-requires c).In_ok-check_polynomials).linear }

pub returns-then-not-reaches_floor : goal.returns-then-not-reaches_floor
unfolding pair_verdict
returns-then-not-reaches_floor c =
    sym (unless_refused Err (Ok tt)
    (step_below (fit (goal.at.returns-then-not-reaches_floor c).In_ok-check_polynomials) _ (full_order (goal.at.returns-then-not-reaches_floor c).Else-not-has_full_order) (sym c.reaches_floor.ensures ∙ c.if-not-reaches_floor.true)))

pub returns-in_err-check_polynomials : goal.returns-in_err-check_polynomials
unfolding pair_verdict
returns-in_err-check_polynomials c =
    let p = err_from_is_err_and c.from_residual.result c.from_residual.ensures.1 in
    rw (p.1, p.2) (sym (unless_refused Err (Ok tt) (checked_refused _ _ _ _ c.check_polynomials.ensures c.in_err-check_polynomials.was)))

pub returns : goal.returns
unfolding pair_verdict
returns c =
    sym (unless_given Err (Ok tt)
    (all_pass (fit (goal.at.returns c).In_ok-check_polynomials) _ (full_order (goal.at.returns c).Else-not-has_full_order) (sym c.reaches_floor.ensures ∙ c.if-not-reaches_floor.false)))
