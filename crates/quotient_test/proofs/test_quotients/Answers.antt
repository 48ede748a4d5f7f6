-- `quotient_test::test_quotients` meets its contract: each test says whether its situation applies, and of what passes both the two degrees are told.
-- Assumes nothing.
use Rattle.std.specs.Prelude.{Err}
use mathlib.Core.Path.{◌≡◌, sym, ◌∙◌}
use mathlib.Core.Bool.{true}
use native.Mathlib.Omega.{arith}
use Rattle.definitions.specs.Calls.{testing, quotient_test}
use Rattle.definitions.specs.Generator.{lawful_degree, well_formed}
use Rattle.number_laws.specs.Bounds.{lawful_degree_is}
use Rattle.fraction_laws.specs.WellFormed.{well_formed_is}
use Rattle.answer_laws.specs.PairCalls.{wrong_degree, ill_formed}
use Rattle.quotient_test.specs.Testing.{tested}
use Rattle.quotient_test.proofs.test_quotients.Goals as goal
use Rattle.quotient_test.proofs.test_quotients.Goals.{Else-not-is_lawful_degree, Else-not-is_well_formed}

-- ---- of a lawful degree
lawful : (c : Else-not-is_lawful_degree) → lawful_degree c.args.degree ≡ true
lawful c = sym c.is_lawful_degree.ensures ∙ c.if-not-is_lawful_degree.false

-- ---- of a well-formed pair
is_well_formed : (c : Else-not-is_well_formed) → let a = c.args in well_formed a.degree a.p a.q ≡ true
is_well_formed c = sym c.is_well_formed.ensures ∙ c.if-not-is_well_formed.false

pub returns-then-not-is_lawful_degree : goal.returns-then-not-is_lawful_degree
unfolding quotient_test testing
returns-then-not-is_lawful_degree c =
    let a = c.args in
    sym (wrong_degree Err _ a.degree a.p a.q (sym c.is_lawful_degree.ensures ∙ c.if-not-is_lawful_degree.true))

pub is_well_formed-requires : goal.is_well_formed-requires
is_well_formed-requires c = (lawful_degree_is _).0 (lawful c)

pub returns-then-not-is_well_formed : goal.returns-then-not-is_well_formed
unfolding quotient_test testing
returns-then-not-is_well_formed c = sym (ill_formed Err _ _ _ _ (lawful (goal.at.returns-then-not-is_well_formed c).Else-not-is_lawful_degree) (sym c.is_well_formed.ensures ∙ c.if-not-is_well_formed.true))

pub quotient_degrees-degrees-requires : goal.quotient_degrees-degrees-requires
quotient_degrees-degrees-requires c =
    let pair = (well_formed_is _ _ _).0 (is_well_formed c) in record { q_nonzero = omega arith; q_le_p = omega arith }

pub returns : goal.returns
returns c =
    rw (c.quotient_degrees-degrees.ensures.0, c.quotient_degrees-degrees.ensures.1)
    (sym (tested _ _ _ (lawful (goal.at.returns c).Else-not-is_lawful_degree) (is_well_formed (goal.at.returns c).Else-not-is_well_formed)))
