-- Two answers that are given are equal only where their values are. Assumes nothing.
use Rattle.std.specs.Prelude.{◌≡◌, Result, Ok, Err}
use Rattle.std.proofs.Common.{ap}
use Rattle.definitions.specs.declared.Refusal.{Refusal}

-- The value of an answer; another one where it is a refusal.
abbrev given_or : {A : Type 0} → A → Result A Refusal → A
given_or other (Ok x) = x
given_or other (Err n) = other

pub same_value : {A : Type 0} {x y : A} → ◌≡◌ {A = Result A Refusal} (Ok x) (Ok y) → x ≡ y
same_value {A} {x} e = ap (given_or x) e
