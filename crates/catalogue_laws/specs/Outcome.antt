-- The two outcomes of a lookup: an entry that is lawful and of the degree asked, with its numbers and its part; or a refusal, with nothing.
-- By the three situations of a lookup: the first that applies decides, and where none does the entry is found. Assumes nothing.
use Rattle.std.specs.Prelude.{◌≡◌, ◌⊎◌, true, false, List, [], ℕ, length, take, drop, Ok, Err}
use Rattle.std.proofs.Common.{ap, inl, inr, arith, length-take, length-drop}
use Rattle.std.proofs.Math.Bool.{not}
use borrow.Author.Tests.{eqb-false, eq-eqb, ne_eqb, not-false}
use Rattle.definitions.specs.Generator.{lawful_degree}
use Rattle.definitions.specs.Answers.{refusal_number}
use Rattle.definitions.specs.Catalogue.{Entry, entry_at, contents_end, body_size, catalogue_form, looking, entry_of, lookup_numbers, lookup_part, reader_refusal}
use Rattle.definitions.specs.Catalogue.{reader_top, reader_gaps}
use Rattle.definitions.specs.declared.Refusal.{Refusal}
use Rattle.definitions.specs.declared.Refusal.TheVariants.{WrongDegree, IllFormedCatalogue, DegreeMissing}
use Rattle.answer_laws.specs.Unless.{Decides, here, later, NoneApplies, passes, at_end, Outcome, is_refused, is_given, outcome, unless_refused, unless_given}
use Rattle.catalogue_laws.specs.Lookup.{FoundEntry, entry_found}

-- The entry of the degree m.
abbrev pub entry_for : List ℕ → ℕ → Entry
entry_for s m = entry_at s (entry_of s m)

-- ---- the situations, as a walk finds them

module _ (s : List ℕ) (m : ℕ) where
  pub looking_degree : lawful_degree m ≡ false → Decides WrongDegree (looking s m)
  unfolding looking
  looking_degree d = here (ap not d)

  module _ (d : lawful_degree m ≡ true) where
    pub looking_form : catalogue_form s ≡ false → Decides IllFormedCatalogue (looking s m)
    unfolding looking
    looking_form f = later (ap not d) (here (ap not f))

    module _ (f : catalogue_form s ≡ true) where
      pub looking_missing : entry_of s m ≡ 0 → Decides DegreeMissing (looking s m)
      unfolding looking
      looking_missing e = later (ap not d) (later (ap not f) (here (eq-eqb (entry_of s m) 0 e)))

      pub looking_finds : (entry_of s m ≡ 0 → ⊥) → NoneApplies (looking s m)
      unfolding looking
      looking_finds n = passes (ap not d) (passes (ap not f) (passes (ne_eqb (entry_of s m) 0 n) at_end))

  -- What is known where none applies.
  pub record Finds : Type 0 where
    pub degree_is_lawful : lawful_degree m ≡ true
    pub form : catalogue_form s ≡ true
    pub found : FoundEntry s (contents_end s) m (entry_of s m)

  pub looking_found : NoneApplies (looking s m) → Finds
  unfolding looking
  looking_found (passes d (passes f (passes e at_end))) =
      let form = not-false (catalogue_form s) f in
      record { degree_is_lawful = not-false (lawful_degree m) d; form = form; found = entry_found s m form (eqb-false (entry_of s m) 0 e) }

-- ---- the answers

pub record Given (s : List ℕ) (m : ℕ) : Type 0 where
  pub finds : Finds s m
  pub numbers_are : lookup_numbers s m ≡ Ok (record { top = (entry_for s m).top; gaps = (entry_for s m).gaps; rows = (entry_for s m).rows })
  pub part_is : lookup_part s m ≡ take (body_size (entry_for s m)) (drop (entry_for s m).offset s)
  pub refusal_is : reader_refusal s m ≡ 0
  pub top_is : reader_top s m ≡ (entry_for s m).top
  pub gaps_is : reader_gaps s m ≡ (entry_for s m).gaps

pub record Refused (s : List ℕ) (m : ℕ) : Type 0 where
  pub refusal : Refusal
  pub numbers_are : lookup_numbers s m ≡ Err refusal
  pub part_is : lookup_part s m ≡ []
  pub refusal_is : reader_refusal s m ≡ refusal_number refusal
  pub top_is : reader_top s m ≡ 0
  pub gaps_is : reader_gaps s m ≡ false

pub lookup_given : (s : List ℕ) (m : ℕ) → NoneApplies (looking s m) → Given s m
unfolding lookup_numbers lookup_part reader_refusal reader_top reader_gaps
lookup_given s m n = record {
  finds = looking_found s m n;
  numbers_are = unless_given _ _ n;
  part_is = unless_given _ _ n;
  refusal_is = unless_given _ _ n;
  top_is = unless_given _ _ n;
  gaps_is = unless_given _ _ n;
}

pub lookup_refused : (s : List ℕ) (m : ℕ) {r : Refusal} → Decides r (looking s m) → Refused s m
unfolding lookup_numbers lookup_part reader_refusal reader_top reader_gaps
lookup_refused s m {r} d = record {
  refusal = r;
  numbers_are = unless_refused _ _ d;
  part_is = unless_refused _ _ d;
  refusal_is = unless_refused _ _ d;
  top_is = unless_refused _ _ d;
  gaps_is = unless_refused _ _ d;
}

pub lookup_outcome : (s : List ℕ) (m : ℕ) → Given s m ⊎ Refused s m
lookup_outcome s m = go (outcome (looking s m))
  where
    go : Outcome (looking s m) → Given s m ⊎ Refused s m
    go (is_refused d) = inr (lookup_refused s m d)
    go (is_given n) = inl (lookup_given s m n)

-- The part has as many rows as the entry says.
pub part_length : (s : List ℕ) (m : ℕ) → Given s m → length (lookup_part s m) ≡ body_size (entry_for s m)
part_length s m g =
    rw g.part_is (simp (length-take, length-drop) (omega (arith, g.finds.found.lawful.within)))
