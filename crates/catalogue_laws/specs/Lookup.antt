-- Lookups: when opening refuses, and where the entry of a degree is.
-- The entry by the recursion that looks for it; in a file of the form the entry that is found is lawful. Assumes nothing.
use Rattle.std.specs.Prelude.{◌≡◌, refl, Bool, true, false, not, List, ℕ, zero, suc, ◌-◌, ◌<◌, ◌≤◌, eqb, Ok, Err}
use Rattle.std.proofs.Common.{ap, ◌∙◌, arith, eqb-true, eq-eqb, ne_eqb}
use Rattle.std.proofs.lemmas.Bool.{eqb-false}
use Rattle.definitions.specs.Catalogue.{byte_at, entry_at, first_entry, behind_entry, behind_entries, contents_end, entries_form, catalogue_form, opening, entry_from}
use Rattle.definitions.specs.Catalogue.{entry_of}
use Rattle.definitions.specs.declared.Refusal.TheVariants.{IllFormedCatalogue}
use Rattle.answer_laws.specs.Unless.{here, passes, at_end, unless_refused, unless_given}
use Rattle.catalogue_laws.specs.Form.{LawfulEntry, entries_out, entry_at_degree, behind_least, catalogue_form_lem}

pub opening_closed : (s : List ℕ) → catalogue_form s ≡ false → opening s ≡ Err IllFormedCatalogue
unfolding opening
opening_closed s e = unless_refused _ _ (here (ap not e))

pub opening_entries : (s : List ℕ) → catalogue_form s ≡ true → opening s ≡ Ok (byte_at s 0)
unfolding opening
opening_entries s e = unless_given _ _ (passes (ap not e) at_end)

-- ---- the entry of a degree, as a walk looks for it

pub entry_of_lem : (s : List ℕ) (m : ℕ) → entry_of s m ≡ entry_from s (byte_at s 0) first_entry m
unfolding entry_of
entry_of_lem s m = refl

pub look_end : (s : List ℕ) (m k i : ℕ) → k ≤ 0 → entry_from s k i m ≡ 0
unfolding entry_from
look_end s m zero i l = refl
look_end s m (suc k) i l = absurd (omega arith)

pub look_stop : (s : List ℕ) (m k i : ℕ) → 0 < k → byte_at s i ≡ m → entry_from s k i m ≡ i
unfolding entry_from
look_stop s m zero i l e = absurd (omega arith)
look_stop s m (suc k) i l e = rw (entry_from, eq-eqb (byte_at s i) m e)

pub look_behind : (s : List ℕ) (m k i : ℕ) → (byte_at s i ≡ m → ⊥) → entry_from s (suc k) i m ≡ entry_from s k (behind_entry s i) m
unfolding entry_from
look_behind s m k i e = rw (entry_from, ne_eqb (byte_at s i) m e)

pub look_on : (s : List ℕ) (m k i : ℕ) → 0 < k → (byte_at s i ≡ m → ⊥) → entry_from s k i m ≡ entry_from s (k - 1) (behind_entry s i) m
look_on s m zero i l e = absurd (omega arith)
look_on s m (suc k) i l e = let d : suc k - 1 ≡ k = omega arith in rw d (look_behind s m k i e)

-- ---- the entry that is found

-- The entry at a place is lawful, has the degree, and ends before `end`.
pub record FoundEntry (s : List ℕ) (end m place : ℕ) : Type 0 where
  pub lawful : LawfulEntry s (entry_at s place)
  pub degree_is : (entry_at s place).degree ≡ m
  pub whole : behind_entry s place ≤ end

entry_from_found : (s : List ℕ) (k i last at m : ℕ) → entries_form s k i last at ≡ true → (entry_from s k i m ≡ 0 → ⊥)
    → FoundEntry s (behind_entries s k i) m (entry_from s k i m)
unfolding behind_entries
entry_from_found s zero i last at m t n = absurd (n (look_end s m zero i (omega arith)))
entry_from_found s (suc k) i last at m t n =
    let (first, rest) = entries_out s k i last at t in
    go (eqb (byte_at s i) m) refl first.lawful (entry_from_found s k (behind_entry s i) _ _ m rest)
  where
    go : (b : Bool) → eqb (byte_at s i) m ≡ b → LawfulEntry s (entry_at s i)
        → ((entry_from s k (behind_entry s i) m ≡ 0 → ⊥) → FoundEntry s (behind_entries s k (behind_entry s i)) m (entry_from s k (behind_entry s i) m))
        → FoundEntry s (behind_entries s k (behind_entry s i)) m (entry_from s (suc k) i m)
    go true e f ih =
        rw (look_stop s m (suc k) i (omega arith) (eqb-true (byte_at s i) m e))
        (record { lawful = f; degree_is = entry_at_degree s i ∙ eqb-true (byte_at s i) m e; whole = behind_least s k (behind_entry s i) })
    go false e f ih =
        let on : entry_from s (suc k) i m ≡ entry_from s k (behind_entry s i) m = look_behind s m k i (eqb-false (byte_at s i) m e) in
        rw on (ih (λ z. n (on ∙ z)))

pub entry_found : (s : List ℕ) (m : ℕ) → catalogue_form s ≡ true → (entry_of s m ≡ 0 → ⊥) → FoundEntry s (contents_end s) m (entry_of s m)
unfolding entry_of
entry_found s m t n = entry_from_found s (byte_at s 0) first_entry 0 _ m (catalogue_form_lem s t).entries n
