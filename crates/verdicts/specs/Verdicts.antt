-- Why a pair of a lawful degree is refused at a floor: by the tests in their order, which of its situations decides, or that none applies.
-- Assumes nothing.
use Rattle.std.specs.Prelude.{◌≡◌, true, false, ℕ, Result, Ok, Err}
use Rattle.std.proofs.Common.{ap}
use Rattle.std.proofs.Math.Bool.{not}
use Rattle.definitions.specs.Answers.{unless}
use Rattle.definitions.specs.Calls.{pair_situations}
use Rattle.definitions.specs.Generator.{well_formed, primitive, linear_quotients, quotient_degree, coprime_step, reaches_floor}
use Rattle.definitions.specs.declared.Refusal.{Refusal}
use Rattle.definitions.specs.declared.Refusal.TheVariants.{IllFormedPair, NotPrimitive, QuotientNotLinear, StepNotCoprime, StepBelowFloor}
use Rattle.answer_laws.specs.Unless.{Decides, here, later, NoneApplies, passes, at_end}

-- What the situations of a pair say, its degree and the floor being lawful.
unfoldable pub pair_verdict : ℕ → ℕ → ℕ → ℕ → Result (Unit {0}) Refusal
pair_verdict m floor p q = unless (pair_situations m floor p q) Err (Ok tt)

-- None of the refusals 3, 4 and 5 applies.
pub record Fit (m p q : ℕ) : Type 0 where
  pub is_well_formed : well_formed m p q ≡ true
  pub primitive_p : primitive m p ≡ true
  pub linear : linear_quotients p q ≡ true

-- What the tests of these three say: what the pair is refused for at every floor, or that it is fit.
unfoldable pub Checked : ℕ → ℕ → ℕ → Result (Unit {0}) Refusal → Type 0
Checked m p q (Err r) = (floor : ℕ) → Decides r (pair_situations m floor p q)
Checked m p q (Ok tt) = Fit m p q

pub checked_refused : (m floor p q : ℕ) {v : Result (Unit {0}) Refusal} {r : Refusal} → Checked m p q v → v ≡ Err r → Decides r (pair_situations m floor p q)
unfolding Checked
checked_refused m floor p q h e = (rw e at h) floor

pub checked_fit : {m p q : ℕ} {v : Result (Unit {0}) Refusal} → Checked m p q v → v ≡ Ok tt → Fit m p q
unfolding Checked
checked_fit h e = rw e at h

-- ---- the tests in their order

module _ (m p q : ℕ) where
  pub ill_formed : well_formed m p q ≡ false → (floor : ℕ) → Decides IllFormedPair (pair_situations m floor p q)
  unfolding pair_situations
  ill_formed w floor = here (ap not w)

  module _ (w : well_formed m p q ≡ true) where
    pub not_primitive : primitive m p ≡ false → (floor : ℕ) → Decides NotPrimitive (pair_situations m floor p q)
    unfolding pair_situations
    not_primitive t floor = later (ap not w) (here (ap not t))

    pub not_linear : primitive m p ≡ true → linear_quotients p q ≡ false → {k : ℕ} → k ≡ quotient_degree p q
        → (floor : ℕ) → Decides (QuotientNotLinear k) (pair_situations m floor p q)
    unfolding pair_situations
    not_linear t l e floor = rw e (later (ap not w) (later (ap not t) (here (ap not l))))

module _ {m p q : ℕ} (f : Fit m p q) (floor : ℕ) where
  pub not_coprime : coprime_step m p q ≡ false → Decides StepNotCoprime (pair_situations m floor p q)
  unfolding pair_situations
  not_coprime c = later (ap not f.is_well_formed) (later (ap not f.primitive_p) (later (ap not f.linear) (here (ap not c))))

  pub step_below : coprime_step m p q ≡ true → reaches_floor m floor p q ≡ false → Decides StepBelowFloor (pair_situations m floor p q)
  unfolding pair_situations
  step_below c r =
      later (ap not f.is_well_formed) (later (ap not f.primitive_p) (later (ap not f.linear) (later (ap not c) (here (ap not r)))))

  pub all_pass : coprime_step m p q ≡ true → reaches_floor m floor p q ≡ true → NoneApplies (pair_situations m floor p q)
  unfolding pair_situations
  all_pass c r =
      passes (ap not f.is_well_formed) (passes (ap not f.primitive_p) (passes (ap not f.linear) (passes (ap not c) (passes (ap not r) at_end))))
