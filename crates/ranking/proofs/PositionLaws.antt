-- A position is refused as its pair is: the verdict tells which of its situations decides, or that none applies; then it is the start or after a
-- pair of the list. Assumes nothing.
use Rattle.std.specs.Prelude.{Result, Ok, Err}
use mathlib.Core.Path.{◌≡◌, sym}
use Prim.Native.Nat.{ℕ}
use native.Mathlib.Omega.{arith}
use Rattle.definitions.specs.Calls.{position_situations}
use Rattle.definitions.specs.declared.Refusal.{Refusal}
use Rattle.definitions.specs.declared.Selection.{Selection}
use Rattle.definitions.specs.declared.Position.{Position}
use Rattle.definitions.specs.declared.Position.TheVariants.{Start, After}
use Rattle.answer_laws.specs.Unless.{Decides, NoneApplies, at_end, unless_given, given_exactly, refused_exactly}
use Rattle.fraction_laws.specs.WellFormed.{well_formed_is}
use Rattle.ranking_laws.specs.Met.{rule_of}
use Rattle.ranking_laws.specs.Reading.{ListedPosition, at_start, after_listed}
use Rattle.verdicts.specs.Verdicts.{pair_verdict}
use Rattle.verdicts.specs.Refusals.{passed_well_formed, passed_accepted}
use Rattle.ranking.specs.Positions.{position_verdict}

module _ (m floor : ℕ) {at : Position} where
  pub start_passes : at ≡ Start → Ok tt ≡ position_verdict m floor at
  unfolding position_verdict position_situations
  start_passes e = rw e (sym (unless_given Err (Ok tt) at_end))

  pub pair_decides : {p q : ℕ} {v : Result (Unit {0}) Refusal} → at ≡ After p q → v ≡ pair_verdict m floor p q → v ≡ position_verdict m floor at
  unfolding position_verdict position_situations pair_verdict
  pair_decides e h = rw e h

never : (r : Refusal) → ◌≡◌ {A = Result (Unit {0}) Refusal} (Err r) (Ok tt) → ⊥
never r e = let z : ◌≡◌ {A = ℕ} 0 1 = cc in omega arith

module _ (m floor : ℕ) (at : Position) where
  pub position_decides : {r : Refusal} → position_verdict m floor at ≡ Err r → Decides r (position_situations m floor at)
  unfolding position_verdict
  position_decides {r} = (refused_exactly Err (Ok tt) (position_situations m floor at) r (λ e. never r (sym e)) (λ k e. cc)).0

  pub position_passes : position_verdict m floor at ≡ Ok tt → NoneApplies (position_situations m floor at)
  unfolding position_verdict
  position_passes = (given_exactly Err (Ok tt) (position_situations m floor at) never).0

pub position_listed : (l : Selection) (at : Position) → position_verdict l.degree l.floor at ≡ Ok tt → ListedPosition (rule_of l) at
unfolding position_verdict position_situations pair_verdict
position_listed l Start e = at_start
position_listed l (After p q) e =
    after_listed ((well_formed_is l.degree p q).1 (passed_well_formed l.degree l.floor p q e)) (passed_accepted l.degree l.floor p q e)
