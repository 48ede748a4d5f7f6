-- Which degrees a file has: the search for a degree's entry finds none exactly where no entry of the file has the degree, and what it finds is an
-- entry of that degree. Entries are counted from 0, as many as the first byte says; entry k lies behind the k entries before it.
-- By the recursion that searches: the first entry has the degree, or the search goes on behind it. Assumes nothing.
use Rattle.std.specs.Prelude.{◌≡◌, refl, ◌↔◌, ◌⊎◌, Bool, true, false, List, eqb}
use Rattle.std.proofs.Common.{sym, ap, ◌∙◌, inl, inr, arith, eqb-true}
use Prim.Native.Nat.{ℕ, zero, suc, ◌<◌}
use Rattle.std.proofs.lemmas.Bool.{eqb-false}
use Rattle.definitions.specs.Catalogue.{byte_at, Entry, entry_at, first_entry, behind_entry, behind_entries, entry_from, entry_of}
use Rattle.catalogue_laws.specs.Form.{entry_at_degree, behind_none, behind_least}
use Rattle.catalogue_laws.specs.Lookup.{entry_of_lem, look_end, look_stop, look_behind}

-- Entry k of the file.
abbrev pub entry_number : List ℕ → ℕ → Entry
entry_number s k = entry_at s (behind_entries s k first_entry)

-- An entry of the file has the degree.
pub record HasEntry (s : List ℕ) (m : ℕ) : Type 0 where
  pub index : ℕ
  pub listed : index < byte_at s 0
  pub degree_is : (entry_number s index).degree ≡ m

-- ---- the search among the k entries from place i on

-- It finds entry `index` of them, which has the degree,
record FindsEntry (s : List ℕ) (m k i : ℕ) : Type 0 where
  index : ℕ
  listed : index < k
  found : entry_from s k i m ≡ behind_entries s index i
  degree_is : byte_at s (behind_entries s index i) ≡ m

-- or it finds nothing, and none of them has it.
record FindsNone (s : List ℕ) (m k i : ℕ) : Type 0 where
  missing : entry_from s k i m ≡ 0
  none : (index : ℕ) → index < k → byte_at s (behind_entries s index i) ≡ m → ⊥

module _ (s : List ℕ) (m k i : ℕ) where
  finds_first : byte_at s i ≡ m → FindsEntry s m (suc k) i
  finds_first e = record {
    index = 0;
    listed = omega arith;
    found = look_stop s m (suc k) i (omega arith) e ∙ sym (behind_none s 0 i (omega arith));
    degree_is = ap (byte_at s) (behind_none s 0 i (omega arith)) ∙ e;
  }

  module _ (other : byte_at s i ≡ m → ⊥) where
    finds_later : FindsEntry s m k (behind_entry s i) → FindsEntry s m (suc k) i
    unfolding behind_entries
    finds_later f = record {
      index = suc f.index;
      listed = omega (arith, f.listed);
      found = look_behind s m k i other ∙ f.found;
      degree_is = f.degree_is;
    }

    finds_none : FindsNone s m k (behind_entry s i) → FindsNone s m (suc k) i
    unfolding behind_entries
    finds_none f = record { missing = look_behind s m k i other ∙ f.missing; none = go }
      where
        go : (index : ℕ) → index < suc k → byte_at s (behind_entries s index i) ≡ m → ⊥
        go zero l e = other e
        go (suc index) l e = f.none index (omega arith) e

search_ends : (s : List ℕ) (m k i : ℕ) → FindsEntry s m k i ⊎ FindsNone s m k i
search_ends s m zero i = inr (record { missing = look_end s m zero i (omega arith); none = λ index l e. absurd (omega arith) })
search_ends s m (suc k) i = go (eqb (byte_at s i) m) refl (search_ends s m k (behind_entry s i))
  where
    go : (b : Bool) → eqb (byte_at s i) m ≡ b → FindsEntry s m k (behind_entry s i) ⊎ FindsNone s m k (behind_entry s i)
        → FindsEntry s m (suc k) i ⊎ FindsNone s m (suc k) i
    go true e later = inl (finds_first s m k i (eqb-true (byte_at s i) m e))
    go false e (inl f) = inl (finds_later s m k i (eqb-false (byte_at s i) m e) f)
    go false e (inr f) = inr (finds_none s m k i (eqb-false (byte_at s i) m e) f)

-- ---- the search in the whole file

module _ (s : List ℕ) (m : ℕ) where
  -- What is found is an entry of the file that has the degree.
  pub record FoundAmong : Type 0 where
    pub has : HasEntry s m
    pub entry_is : entry_at s (entry_of s m) ≡ entry_number s has.index

  abbrev whole : FindsEntry s m (byte_at s 0) first_entry ⊎ FindsNone s m (byte_at s 0) first_entry
  whole = search_ends s m (byte_at s 0) first_entry

  found_among : FindsEntry s m (byte_at s 0) first_entry → FoundAmong
  found_among f = record {
    has = record { index = f.index; listed = f.listed; degree_is = entry_at_degree s _ ∙ f.degree_is };
    entry_is = ap (entry_at s) (entry_of_lem s m ∙ f.found);
  }

  pub entry_among : (entry_of s m ≡ 0 → ⊥) → FoundAmong
  entry_among n = go whole
    where
      go : FindsEntry s m (byte_at s 0) first_entry ⊎ FindsNone s m (byte_at s 0) first_entry → FoundAmong
      go (inl f) = found_among f
      go (inr f) = absurd (n (entry_of_lem s m ∙ f.missing))

  -- MISSING: nothing is found exactly where no entry of the file has the degree.
  pub missing_exactly : (entry_of s m ≡ 0) ↔ (HasEntry s m → ⊥)
  missing_exactly = (to whole, from whole)
    where
      to : FindsEntry s m (byte_at s 0) first_entry ⊎ FindsNone s m (byte_at s 0) first_entry → entry_of s m ≡ 0 → HasEntry s m → ⊥
      to (inl f) e h = omega (arith, e, entry_of_lem s m, f.found, behind_least s f.index first_entry)
      to (inr f) e h = f.none h.index h.listed (sym (entry_at_degree s _) ∙ h.degree_is)

      from : FindsEntry s m (byte_at s 0) first_entry ⊎ FindsNone s m (byte_at s 0) first_entry → (HasEntry s m → ⊥) → entry_of s m ≡ 0
      from (inl f) h = absurd (h (found_among f).has)
      from (inr f) h = entry_of_lem s m ∙ f.missing
