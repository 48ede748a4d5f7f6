-- `net::bound::stop_bound` meets its contract: where the quotients are linear q has an inverse, and the sharper bound is sound. Assumes nothing.
use mathlib.Core.Path.{sym, ◌∙◌}
use native.Mathlib.Omega.{arith}
use Rattle.polynomial.specs.Modulus.{lawful_modulus}
use Rattle.net.specs.Bound.{stop_any, stop_linear}
use Rattle.net.proofs.bound.stop_bound.Goals as goal

pub linear_quotients-requires-clause-modulus : goal.linear_quotients-requires-clause-modulus
linear_quotients-requires-clause-modulus c = lawful_modulus c.requires.lawful_degree c.requires.well_formed.degree_p c.leading_term-lead.ensures

pub returns-then-linear_quotients : goal.returns-then-linear_quotients
returns-then-linear_quotients c = stop_linear _ _ _ (omega (arith, c.requires.lawful_degree.low)) c.requires.well_formed.degree_p (sym c.linear_quotients.ensures ∙ c.if-linear_quotients.true)

pub returns : goal.returns
returns c = stop_any _ _ _ c.requires.well_formed.degree_p
