-- Refusals: their numbers, the situations in which they are given, and the values of each answer. Assumes nothing.
use Rattle.std.specs.Prelude.{◌∷◌}
use Rattle.definitions.specs.Base.{Bool, true, false, List, [], ℕ, Refusal, WrongDegree, WrongDimension, IllFormedPair, NotPrimitive}
use Rattle.definitions.specs.Base.{QuotientNotLinear, StepNotCoprime, ShortSlice, BeyondPeriod, IllFormedCatalogue, DegreeMissing}
use Rattle.definitions.specs.Base.{StepBelowFloor, WrongFloor, NotAscending, FileTooLong, Result, Ok, Err, Option, Some, None}
use Rattle.definitions.specs.Base.{QuotientDegrees, Page, Lookup, Row}
use Rattle.definitions.specs.Number.{bit}

-- The number of each refusal, as documents 01 and 02 have it.
abbrev pub refusal_number : Refusal → ℕ
refusal_number WrongDegree = 1
refusal_number WrongDimension = 2
refusal_number IllFormedPair = 3
refusal_number NotPrimitive = 4
refusal_number (QuotientNotLinear k) = 5
refusal_number StepNotCoprime = 6
refusal_number ShortSlice = 7
refusal_number BeyondPeriod = 8
refusal_number IllFormedCatalogue = 9
refusal_number DegreeMissing = 10
refusal_number StepBelowFloor = 11
refusal_number WrongFloor = 12
refusal_number NotAscending = 13
refusal_number FileTooLong = 14

-- What a refusal carries: 5 its K, any other 0.
abbrev pub refusal_degree : Refusal → ℕ
refusal_degree WrongDegree = 0
refusal_degree WrongDimension = 0
refusal_degree IllFormedPair = 0
refusal_degree NotPrimitive = 0
refusal_degree (QuotientNotLinear k) = k
refusal_degree StepNotCoprime = 0
refusal_degree ShortSlice = 0
refusal_degree BeyondPeriod = 0
refusal_degree IllFormedCatalogue = 0
refusal_degree DegreeMissing = 0
refusal_degree StepBelowFloor = 0
refusal_degree WrongFloor = 0
refusal_degree NotAscending = 0
refusal_degree FileTooLong = 0

-- A situation, and the refusal that is given in it.
pub record Situation : Type 0 where
  pub applies : Bool
  pub refusal : Refusal

abbrev pub situation : Bool → Refusal → Situation
situation b r = record { applies = b; refusal = r }

-- The answer to a call: the refusal of the first situation that applies, or the value where none does.
unfoldable pub unless : {A : Type 0} → List Situation → (Refusal → A) → A → A
unless [] refuse value = value
unless (s ∷ l) refuse value = elim s.applies [ true ↦ refuse s.refusal | false ↦ unless l refuse value ]

-- What each answer holds, as the documents' numbers: the refusal's number, 0 where there is none; of a call that judges a pair what the refusal
-- carries, 0 where there is none; and then the values.
abbrev pub judgement_values : Result ℕ Refusal → List ℕ
judgement_values (Ok s) = 0 ∷ 0 ∷ s ∷ []
judgement_values (Err r) = refusal_number r ∷ refusal_degree r ∷ []

abbrev pub quotient_test_values : Result QuotientDegrees Refusal → List ℕ
quotient_test_values (Ok d) = 0 ∷ d.quotient ∷ d.common ∷ []
quotient_test_values (Err r) = refusal_number r ∷ []

abbrev pub uniformity_values : Result ℕ Refusal → List ℕ
uniformity_values (Ok t) = 0 ∷ t ∷ []
uniformity_values (Err r) = refusal_number r ∷ []

abbrev pub gap_sum_values : Result ℕ Refusal → List ℕ
gap_sum_values (Ok d) = 0 ∷ d ∷ []
gap_sum_values (Err r) = refusal_number r ∷ []

abbrev pub page_values : Result Page Refusal → List ℕ
page_values (Ok x) = 0 ∷ 0 ∷ x.rows ∷ bit x.further ∷ []
page_values (Err r) = refusal_number r ∷ refusal_degree r ∷ []

abbrev pub points_values : Result ℕ Refusal → List ℕ
points_values (Ok n) = 0 ∷ 0 ∷ n ∷ []
points_values (Err r) = refusal_number r ∷ refusal_degree r ∷ []

abbrev pub opening_values : Result ℕ Refusal → List ℕ
opening_values (Ok n) = 0 ∷ n ∷ []
opening_values (Err r) = refusal_number r ∷ []

abbrev pub lookup_values : Result Lookup Refusal → List ℕ
lookup_values (Ok b) = 0 ∷ b.top ∷ bit b.gaps ∷ b.rows ∷ []
lookup_values (Err r) = refusal_number r ∷ []

-- p, q, σ, t(3) .. t(8), Δ.
abbrev pub row_numbers : Row → List ℕ
row_numbers r = r.p ∷ r.q ∷ r.step ∷ r.t3 ∷ r.t4 ∷ r.t5 ∷ r.t6 ∷ r.t7 ∷ r.t8 ∷ r.delta ∷ []

-- No row is refused; at the end there are no values.
abbrev pub next_row_values : Option Row → List ℕ
next_row_values (Some r) = 0 ∷ row_numbers r
next_row_values None = 0 ∷ []

abbrev pub file_values : Result ℕ Refusal → List ℕ
file_values (Ok n) = 0 ∷ n ∷ []
file_values (Err r) = refusal_number r ∷ []
