-- What a pair's verdict tells: which of its situations decides, or that none applies; and a pair that passes is well-formed and accepted at the floor.
-- Assumes nothing.
use Rattle.std.specs.Prelude.{◌≡◌, true, ℕ, Result, Ok, Err}
use Rattle.std.proofs.Common.{sym, arith}
use borrow.Author.Tests.{not-false}
use Rattle.definitions.specs.Calls.{pair_situations}
use Rattle.definitions.specs.Generator.{accepted_at, coprime_step, reaches_floor}
use Rattle.definitions.specs.declared.Refusal.{Refusal}
use Rattle.answer_laws.specs.Unless.{Decides, NoneApplies, passes, at_end, given_exactly, refused_exactly}
use Rattle.fraction_laws.specs.WellFormed.{WellFormed, well_formed_is}
use Rattle.order_laws.specs.Accepted.{accepted_is}
use Rattle.order_laws.specs.Floor.{accepted_at_both}
use Rattle.verdicts.specs.Verdicts.{pair_verdict, Fit}

never : (r : Refusal) → ◌≡◌ {A = Result (Unit {0}) Refusal} (Err r) (Ok tt) → ⊥
never r e = let z : ◌≡◌ {A = ℕ} 0 1 = cc in omega arith

module _ (m floor p q : ℕ) where
  pub verdict_decides : {r : Refusal} → pair_verdict m floor p q ≡ Err r → Decides r (pair_situations m floor p q)
  unfolding pair_verdict
  verdict_decides {r} = (refused_exactly Err (Ok tt) (pair_situations m floor p q) r (λ e. never r (sym e)) (λ k e. cc)).0

  pub verdict_passes : pair_verdict m floor p q ≡ Ok tt → NoneApplies (pair_situations m floor p q)
  unfolding pair_verdict
  verdict_passes = (given_exactly Err (Ok tt) (pair_situations m floor p q) never).0

  fit_for : NoneApplies (pair_situations m floor p q) → Fit m p q × (coprime_step m p q ≡ true) × (reaches_floor m floor p q ≡ true)
  unfolding pair_situations
  fit_for (passes a (passes b (passes c (passes d (passes e at_end))))) =
      (record { is_well_formed = not-false _ a; primitive_p = not-false _ b; linear = not-false _ c }, not-false _ d, not-false _ e)

  module _ (e : pair_verdict m floor p q ≡ Ok tt) where
    pub passed_well_formed : WellFormed m p q
    passed_well_formed = (well_formed_is m p q).0 (fit_for (verdict_passes e)).0.is_well_formed

    pub passed_accepted : accepted_at m floor p q ≡ true
    passed_accepted =
        let (fit, coprime, reaches) = fit_for (verdict_passes e) in
        let accepted = (accepted_is m p q).1 (record { primitive_p = fit.primitive_p; linear = fit.linear; coprime = coprime }) in
        (accepted_at_both m floor p q).1 (accepted, reaches)
