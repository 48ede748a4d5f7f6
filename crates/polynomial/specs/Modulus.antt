-- A modulus p with its leading term `lead`, as the functions on residues take it. Its residues are the numbers below `lead`.
-- Assumes nothing.
use Rattle.std.specs.Prelude.{◌≡◌, ℕ, ◌^◌, ◌≤◌, ◌<◌}
use Rattle.std.proofs.Common.{arith, pow_mono}
use Rattle.definitions.specs.Polynomial.{degree, rem}
use Rattle.number_laws.specs.Bounds.{LawfulDegree}
use Rattle.polynomial_laws.specs.Degree.{HasDegree, degree_is, degree_unique, degree_most}
use Rattle.polynomial_laws.specs.Division.{rem_lt, rem_small}
use Rattle.polynomial_laws.specs.Power.{one_small}

-- p has degree one at least, and lead is its leading term.
pub record Modulus (p lead : ℕ) : Type 0 where
  pub large : 2 ≤ p
  pub leading : lead ≡ 2 ^ degree p

pub modulus : (m p : ℕ) → 1 ≤ m → HasDegree p m → Modulus p (2 ^ m)
modulus m p pos h = record { large = omega (arith, pow_mono pos, h.least); leading = rw (degree_unique p m h) }

-- of a degree that the library covers, with the leading term as the code has it
pub lawful_modulus : {m p lead : ℕ} → LawfulDegree m → HasDegree p m → lead ≡ 2 ^ m → Modulus p lead
lawful_modulus {m} {p} lawful h e = rw e (modulus m p (omega (arith, lawful.low)) h)

module _ {p lead : ℕ} (h : Modulus p lead) where
  pub modulus_positive : 0 < p
  modulus_positive = omega (arith, h.large)

  pub modulus_one : 1 < lead
  modulus_one = rw h.leading (one_small p h.large)

  pub modulus_degree : HasDegree p (degree p)
  modulus_degree = degree_is p modulus_positive

  pub residue_lt : (a : ℕ) → rem a p < lead
  residue_lt a = rw h.leading (rem_lt p modulus_positive a)

  pub residue_small : (a : ℕ) → a < lead → rem a p ≡ a
  residue_small a l = rem_small p modulus_positive a (rw h.leading at l)

  pub modulus_lead : {m : ℕ} → HasDegree p m → lead ≡ 2 ^ m
  modulus_lead {m} d = rw (← degree_unique p m d) h.leading

  -- where p is a word of 32 bits, so is the double of each residue
  pub lead_fits : p < 2 ^ 32 → lead ≤ 2 ^ 31
  lead_fits fits =
      let l : degree p ≤ 31 = omega (arith, degree_most p 32 modulus_positive fits) in
      rw h.leading (pow_mono l)
