-- `verdicts::check_polynomials` meets its contract: each test says whether its situation applies, and those before it do not. Assumes nothing.
use mathlib.Core.Path.{◌≡◌, sym, ◌∙◌}
use mathlib.Core.Bool.{true}
use native.Mathlib.Omega.{arith}
use Rattle.definitions.specs.Generator.{well_formed, primitive}
use Rattle.fraction_laws.specs.WellFormed.{WellFormed, well_formed_is}
use Rattle.polynomial.specs.Modulus.{lawful_modulus}
use Rattle.verdicts.specs.Verdicts.{Checked, ill_formed, not_primitive, not_linear}
use Rattle.verdicts.proofs.check_polynomials.Goals as goal
use Rattle.verdicts.proofs.check_polynomials.Goals.{Else-not-is_primitive, Else-not-is_well_formed}

-- ---- of a well-formed pair
is_well_formed : (c : Else-not-is_well_formed) → let a = c.args in well_formed a.m a.p a.q ≡ true
is_well_formed c = sym c.is_well_formed.ensures ∙ c.if-not-is_well_formed.false

proper : (c : Else-not-is_well_formed) → let a = c.args in WellFormed a.m a.p a.q
proper c = (well_formed_is _ _ _).0 (is_well_formed c)

is_primitive : (c : Else-not-is_primitive) → let a = c.args in primitive a.m a.p ≡ true
is_primitive c = sym c.is_primitive.ensures ∙ c.if-not-is_primitive.false

pub returns-then-not-is_well_formed : goal.returns-then-not-is_well_formed
unfolding Checked
returns-then-not-is_well_formed c = ill_formed _ _ _ (sym c.is_well_formed.ensures ∙ c.if-not-is_well_formed.true)

pub is_primitive-requires : goal.is_primitive-requires
is_primitive-requires c = record { lawful_degree = c.requires; has_degree = (proper c).degree_p }

pub returns-then-not-is_primitive : goal.returns-then-not-is_primitive
unfolding Checked
returns-then-not-is_primitive c = not_primitive _ _ _ (is_well_formed (goal.at.returns-then-not-is_primitive c).Else-not-is_well_formed) (sym c.is_primitive.ensures ∙ c.if-not-is_primitive.true)

pub linear_quotients-requires : goal.linear_quotients-requires
linear_quotients-requires c =
    let lead = c.leading_term.ensures in
    record { modulus = lawful_modulus c.requires (proper (goal.at.linear_quotients-requires c).Else-not-is_well_formed).degree_p lead; q_lt_lead = rw lead (proper (goal.at.linear_quotients-requires c).Else-not-is_well_formed).smaller }

-- ---- where some quotient is not linear
pub quotient_degrees-degrees-requires : goal.quotient_degrees-degrees-requires
quotient_degrees-degrees-requires c =
    let pair = proper (goal.at.quotient_degrees-degrees-requires c).Else-not-is_well_formed in record { q_nonzero = omega arith; q_le_p = omega arith }

pub returns-then-not-linear_quotients : goal.returns-then-not-linear_quotients
unfolding Checked
returns-then-not-linear_quotients c =
    not_linear _ _ _ (is_well_formed (goal.at.returns-then-not-linear_quotients c).Else-not-is_well_formed) (is_primitive (goal.at.returns-then-not-linear_quotients c).Else-not-is_primitive) (sym c.linear_quotients.ensures ∙ c.if-not-linear_quotients.true)
    c.quotient_degrees-degrees.ensures.0

pub returns : goal.returns
unfolding Checked
returns c =
    record {
      is_well_formed = is_well_formed (goal.at.returns c).Else-not-is_well_formed;
      primitive_p = is_primitive (goal.at.returns c).Else-not-is_primitive;
      linear = sym c.linear_quotients.ensures ∙ c.if-not-linear_quotients.false;
    }
