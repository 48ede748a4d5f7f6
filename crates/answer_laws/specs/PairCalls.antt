-- A call whose situations are a wrong degree and an ill-formed pair, and no others, as the quotient test and the sum of resolution gaps: the first of
-- degree and pair that fails its test decides, else the value is given. Assumes nothing.
use Rattle.std.specs.Prelude.{◌≡◌, true, false, not, List, [], ◌∷◌, ℕ}
use Rattle.std.proofs.Common.{ap}
use Rattle.definitions.specs.Answers.{Situation, situation, unless}
use Rattle.definitions.specs.Generator.{lawful_degree, well_formed}
use Rattle.definitions.specs.declared.Refusal.{Refusal}
use Rattle.definitions.specs.declared.Refusal.TheVariants.{WrongDegree, IllFormedPair}
use Rattle.answer_laws.specs.Unless.{here, later, passes, at_end, unless_refused, unless_given}

abbrev pub pair_situations : ℕ → ℕ → ℕ → List Situation
pair_situations m p q = situation (not (lawful_degree m)) WrongDegree ∷ situation (not (well_formed m p q)) IllFormedPair ∷ []

module _ {A : Type 0} (refuse : Refusal → A) (value : A) (m p q : ℕ) where
  pub wrong_degree : lawful_degree m ≡ false → unless (pair_situations m p q) refuse value ≡ refuse WrongDegree
  wrong_degree d = unless_refused refuse value (here (ap not d))

  module _ (lawful : lawful_degree m ≡ true) where
    pub ill_formed : well_formed m p q ≡ false → unless (pair_situations m p q) refuse value ≡ refuse IllFormedPair
    ill_formed f = unless_refused refuse value (later (ap not lawful) (here (ap not f)))

    pub given : well_formed m p q ≡ true → unless (pair_situations m p q) refuse value ≡ value
    given f = unless_given refuse value (passes (ap not lawful) (passes (ap not f) at_end))
