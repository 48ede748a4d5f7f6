-- A single t-value's answer: the first of degree, dimension and pair that fails its test decides, else it is the t-value. The plain counter answers the
-- same for the degrees that it counts, whatever the pair and the dimension, and refuses any other degree. Assumes nothing.
use Rattle.std.specs.Prelude.{◌≡◌, true, false, ℕ, Ok, Err}
use Rattle.std.proofs.Math.Path.{sym}
use Rattle.std.proofs.Common.{ap, ◌∙◌}
use Rattle.std.proofs.Math.Bool.{not}
use borrow.Author.Tests.{not-false}
use Rattle.definitions.specs.Calls.{measuring, uniformity, counted_degree, counting, counted}
use Rattle.definitions.specs.Generator.{lawful_degree, well_formed}
use Rattle.definitions.specs.Net.{t_value}
use Rattle.definitions.specs.Ranking.{lawful_dimension}
use Rattle.definitions.specs.declared.Refusal.TheVariants.{WrongDegree, WrongDimension, IllFormedPair}
use Rattle.number_laws.specs.Bounds.{lawful_degree_is, counted_degree_is, counted_lawful}
use Rattle.answer_laws.specs.Unless.{NoneApplies, here, later, at_end, passes, unless_refused, unless_given, unless_passes}

-- A degree that is counted is one that the library covers.
pub counted_passes : (m : ℕ) → counted_degree m ≡ true → lawful_degree m ≡ true
counted_passes m d = (lawful_degree_is m).1 (counted_lawful ((counted_degree_is m).0 d))

module _ (m p q s : ℕ) where
  pub wrong_degree : lawful_degree m ≡ false → uniformity m p q s ≡ Err WrongDegree
  unfolding uniformity measuring
  wrong_degree d = unless_refused Err _ (here (ap not d))

  pub wrong_dimension : lawful_degree m ≡ true → lawful_dimension s ≡ false → uniformity m p q s ≡ Err WrongDimension
  unfolding uniformity measuring
  wrong_dimension d n = unless_refused Err _ (later (ap not d) (here (ap not n)))

  pub ill_formed : lawful_degree m ≡ true → lawful_dimension s ≡ true → well_formed m p q ≡ false → uniformity m p q s ≡ Err IllFormedPair
  unfolding uniformity measuring
  ill_formed d n f = unless_refused Err _ (later (ap not d) (later (ap not n) (here (ap not f))))

  pub measured : lawful_degree m ≡ true → lawful_dimension s ≡ true → well_formed m p q ≡ true → uniformity m p q s ≡ Ok (t_value m p q s)
  unfolding uniformity measuring
  measured d n f = unless_given Err _ (passes (ap not d) (passes (ap not n) (passes (ap not f) at_end)))

  -- ---- by the plain counter
  pub not_counted : counted_degree m ≡ false → counted m p q s ≡ Err WrongDegree
  unfolding counted counting
  not_counted d = unless_refused Err _ (here (ap not d))

  pub given_counted : NoneApplies (counting m p q s) → counted_degree m ≡ true
  unfolding counting
  given_counted (passes d n) = not-false _ d

  pub counted_uniformity : counted_degree m ≡ true → counted m p q s ≡ uniformity m p q s
  unfolding counted counting uniformity measuring
  counted_uniformity d =
      unless_passes Err _ _ _ (ap not d) ∙ sym (unless_passes Err _ _ _ (ap not (counted_passes m d)))
