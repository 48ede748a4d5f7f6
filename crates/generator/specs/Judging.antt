-- Judging a pair of a lawful degree at a floor. Assumes nothing.
use Rattle.std.specs.Prelude.{◌≡◌, refl, true, false, ℕ, eqb, Result, Ok, Err}
use Rattle.std.proofs.Common.{ap, ◌∙◌}
use Rattle.std.proofs.Math.Bool.{not}
use Rattle.definitions.specs.Answers.{unless}
use Rattle.definitions.specs.Calls.{pair_situations, judging, judgement}
use Rattle.definitions.specs.Number.{gcd}
use Rattle.definitions.specs.Generator.{lawful_degree, lawful_floor, coprime_step, step, period}
use Rattle.definitions.specs.declared.Refusal.TheVariants.{WrongDegree, WrongFloor}
use Rattle.definitions.specs.declared.Refusal.{Refusal}
use Rattle.answer_laws.specs.Unless.{unless_applies, unless_passes}

-- The judgement on a pair, its degree and the floor being lawful.
unfoldable pub pair_judgement : ℕ → ℕ → ℕ → ℕ → Result ℕ Refusal
pair_judgement m floor p q = unless (pair_situations m floor p q) Err (Ok (step m p q))

module _ (m floor p q : ℕ) where
  pub judgement_wrong_degree : lawful_degree m ≡ false → judgement m floor p q ≡ Err WrongDegree
  unfolding judgement judging
  judgement_wrong_degree h = unless_applies Err _ _ _ (ap not h)

  pub judgement_wrong_floor : lawful_degree m ≡ true → lawful_floor floor ≡ false → judgement m floor p q ≡ Err WrongFloor
  unfolding judgement judging
  judgement_wrong_floor h f = unless_passes Err _ _ _ (ap not h) ∙ unless_applies Err _ _ _ (ap not f)

  pub judgement_lawful : lawful_degree m ≡ true → lawful_floor floor ≡ true → judgement m floor p q ≡ pair_judgement m floor p q
  unfolding judgement judging pair_judgement
  judgement_lawful h f = unless_passes Err _ _ _ (ap not h) ∙ unless_passes Err _ _ _ (ap not f)

pub coprime_step_def : (m p q : ℕ) → coprime_step m p q ≡ eqb (gcd (step m p q) (period m)) 1
unfolding coprime_step
coprime_step_def m p q = refl
