-- What the quotient test answers where degree and pair pass their tests. Assumes nothing.
use Rattle.std.specs.Prelude.{◌≡◌, true, ℕ, Ok, Err}
use Rattle.definitions.specs.Generator.{lawful_degree, well_formed, quotient_degree, common_degree}
use Rattle.definitions.specs.Calls.{testing, quotient_test}
use Rattle.answer_laws.specs.PairCalls.{given}

pub tested : (m p q : ℕ) → lawful_degree m ≡ true → well_formed m p q ≡ true → quotient_test m p q ≡ Ok (record { quotient = quotient_degree p q; common = common_degree p q })
unfolding quotient_test testing
tested m p q = given Err (Ok (record { quotient = quotient_degree p q; common = common_degree p q })) m p q
