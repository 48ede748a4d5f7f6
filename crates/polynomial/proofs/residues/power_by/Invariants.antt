-- The invariant: with i digits of e to come, the power is q to the number that the digits before them write, for each p and q that the calls square and
-- multiply by.
use Rattle.std.proofs.Common.{ℕ}
use Rattle.definitions.specs.Polynomial.{prod}
use Rattle.polynomial.specs.Modulus.{Modulus}
use Rattle.polynomial.specs.Powers.{InTurn, Gives, PowerAt}
use Rattle.polynomial.proofs.residues.power_by.Given as goal

abbrev pub invariant-loop-i : goal.invariant-loop-i
invariant-loop-i g l = record {
  calls : InTurn (goal.S-pre g l.square) (goal.S-post g l.square) (goal.T-pre g l.times_q) (goal.T-post g l.times_q) l.power;
  reached : (p lead q : ℕ) → Modulus p lead → Gives (goal.S-post g l.square) (λ y. prod y y) p lead
      → Gives (goal.T-post g l.times_q) (λ y. prod y q) p lead → PowerAt p lead q l.e l.i l.power;
}
