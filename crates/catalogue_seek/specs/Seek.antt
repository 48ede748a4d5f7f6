-- Where a degree's body lies in a catalogue, or why a lookup is refused; the answers of a lookup are read off it.
-- A lookup's answer is a function of where the body lies, refusals and all; a body that is found is within the file. Assumes nothing.
use Rattle.std.specs.Prelude.{◌≡◌, refl, Bool, false, List, [], ℕ, zero, suc, ◌+◌, ◌*◌, ◌<◌, ◌≤◌, Option, Some, None, length, take, drop, Result, Ok, Err}
use Rattle.std.proofs.Common.{ap, arith}
use Rattle.definitions.specs.Answers.{refusal_number, unless}
use Rattle.definitions.specs.Catalogue.{Entry, body_size, row_size, looking, lookup_numbers, lookup_part, reader_refusal, reader_top, reader_gaps}
use Rattle.definitions.specs.declared.Refusal.{Refusal}
use Rattle.definitions.specs.declared.Lookup.{Lookup}
use Rattle.answer_laws.specs.Unless.{Decides, NoneApplies, unless_refused, unless_given, unless_map, told_given}
use Rattle.number_laws.specs.Bounds.{LawfulTop}
use Rattle.catalogue_laws.specs.Outcome.{entry_for, looking_found}
use Rattle.catalogue_seek.specs.declared.BodyPlace.{BodyPlace}

-- The place of an entry, as the code has it: 0, where no entry lies, is none.
abbrev pub unless_zero : ℕ → Option ℕ
unless_zero zero = None
unless_zero (suc n) = Some (suc n)

pub unless_zero_none : (n : ℕ) → unless_zero n ≡ None → n ≡ 0
unless_zero_none zero e = refl
unless_zero_none (suc n) e = cc

pub unless_zero_some : (n p : ℕ) → unless_zero n ≡ Some p → n ≡ p
unless_zero_some zero p e = cc
unless_zero_some (suc n) p e = cc

pub unless_zero_lies : (n p : ℕ) → unless_zero n ≡ Some p → n ≡ 0 → ⊥
unless_zero_lies zero p e z = cc
unless_zero_lies (suc n) p e z = omega arith

pub unless_zero_is : (n : ℕ) → 0 < n → unless_zero n ≡ Some n
unless_zero_is zero h = absurd (omega arith)
unless_zero_is (suc n) h = refl

-- The body of an entry.
abbrev pub place_of : Entry → BodyPlace
place_of e = record { offset = e.offset; size = body_size e; stride = row_size e.degree e.top e.gaps; top = e.top; gaps = e.gaps; rows = e.rows }

-- The place of the degree's body, or the lookup's refusal.
unfoldable pub locating : List ℕ → ℕ → Result BodyPlace Refusal
locating s m = unless (looking s m) Err (Ok (place_of (entry_for s m)))

-- ---- from the situations

module _ (s : List ℕ) (m : ℕ) where
  pub locating_refused : {r : Refusal} → Decides r (looking s m) → locating s m ≡ Err r
  unfolding locating
  locating_refused d = unless_refused Err _ d

  pub locating_given : NoneApplies (looking s m) → locating s m ≡ Ok (place_of (entry_for s m))
  unfolding locating
  locating_given n = unless_given Err _ n

-- ---- the answers of a lookup

abbrev pub numbers_of : Result BodyPlace Refusal → Result Lookup Refusal
numbers_of (Ok b) = Ok (record { top = b.top; gaps = b.gaps; rows = b.rows })
numbers_of (Err r) = Err r

abbrev pub part_of : List ℕ → Result BodyPlace Refusal → List ℕ
part_of s (Ok b) = take b.size (drop b.offset s)
part_of s (Err r) = []

abbrev pub refusal_of : Result BodyPlace Refusal → ℕ
refusal_of (Ok b) = 0
refusal_of (Err r) = refusal_number r

abbrev pub top_of : Result BodyPlace Refusal → ℕ
top_of (Ok b) = b.top
top_of (Err r) = 0

abbrev pub gaps_of : Result BodyPlace Refusal → Bool
gaps_of (Ok b) = b.gaps
gaps_of (Err r) = false

module _ (s : List ℕ) (m : ℕ) where
  pub located_numbers : numbers_of (locating s m) ≡ lookup_numbers s m
  unfolding locating lookup_numbers
  located_numbers = unless_map numbers_of (looking s m) Err (Ok (place_of (entry_for s m)))

  pub located_part : part_of s (locating s m) ≡ lookup_part s m
  unfolding locating lookup_part
  located_part = unless_map (part_of s) (looking s m) Err (Ok (place_of (entry_for s m)))

  pub located_refusal : refusal_of (locating s m) ≡ reader_refusal s m
  unfolding locating reader_refusal
  located_refusal = unless_map refusal_of (looking s m) Err (Ok (place_of (entry_for s m)))

  pub located_top : top_of (locating s m) ≡ reader_top s m
  unfolding locating reader_top
  located_top = unless_map top_of (looking s m) Err (Ok (place_of (entry_for s m)))

  pub located_gaps : gaps_of (locating s m) ≡ reader_gaps s m
  unfolding locating reader_gaps
  located_gaps = unless_map gaps_of (looking s m) Err (Ok (place_of (entry_for s m)))

-- ---- a body that is found

-- It lies within the file, T is lawful, and its sizes are those of the degree asked for.
pub record LawfulPlace (s : List ℕ) (m : ℕ) (b : BodyPlace) : Type 0 where
  pub within : b.offset + b.size ≤ length s
  pub top_is_lawful : LawfulTop b.top
  pub stride_is : b.stride ≡ row_size m b.top b.gaps
  pub size_is : b.size ≡ b.rows * b.stride

place_lawful : (s : List ℕ) (m : ℕ) → NoneApplies (looking s m) → LawfulPlace s m (place_of (entry_for s m))
place_lawful s m n =
    let found = (looking_found s m n).found in
    record {
      within = found.lawful.within;
      top_is_lawful = found.lawful.top_is_lawful;
      stride_is = ap (λ (k : ℕ). row_size k (entry_for s m).top (entry_for s m).gaps) found.degree_is;
      size_is = refl;
    }

pub located_lawful : (s : List ℕ) (m : ℕ) (b : BodyPlace) → locating s m ≡ Ok b → LawfulPlace s m b
unfolding locating
located_lawful s m b e =
    let told = told_given (looking s m) e (λ r z. let clash : ◌≡◌ {A = ℕ} 0 1 = cc in omega arith) in
    let same : place_of (entry_for s m) ≡ b = cc told.1 in
    rw same at (place_lawful s m told.0)
