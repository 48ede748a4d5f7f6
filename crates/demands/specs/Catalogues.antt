-- Of catalogues, in the file's own words: a degree is missing where no entry of the file has it, and a reader has the refusals of a lookup.
-- The first by the search for an entry (`catalogue_laws/Missing`), the second by the one list of situations that both follow. Assumes nothing.
use Rattle.std.specs.Prelude.{◌≡◌, ◌↔◌, ◌⊎◌, true, ℕ}
use Rattle.std.proofs.Math.Path.{refl}
use Rattle.std.proofs.Common.{ap, inl, inr, arith}
use Rattle.std.proofs.Math.Bool.{false, not}
use mathlib.Core.List.Memᴰ
use mathlib.Core.List.{List, [], ◌∷◌, Memᴰ}
use borrow.Author.Tests.{eqb-true, eq-eqb, not-false}
use Rattle.definitions.specs.Answers.{refusal_number, lookup_values}
use Rattle.definitions.specs.Generator.{lawful_degree}
use Rattle.definitions.specs.Catalogue.{catalogue_form, entry_of, looking, lookup_numbers, reader_refusal}
use Rattle.catalogue_laws.specs.Missing.{HasEntry, missing_exactly}
use Rattle.demands.specs.Situations.{applies, FirstToApply}
use Rattle.demands.specs.Demand1.{Exact, number_of, exact, looking_exact}

module _ (s : List ℕ) (m : ℕ) where
  -- Situation 10 applies exactly where no entry of the file has the degree,
  pub missing_applies : (applies (looking s m) 10 ≡ true) ↔ (HasEntry s m → ⊥)
  unfolding looking applies
  missing_applies = (
    λ e. (missing_exactly s m).0 (eqb-true (entry_of s m) 0 e),
    λ h. eq-eqb (entry_of s m) 0 ((missing_exactly s m).1 h),
  )

  -- WITHOUT THAT DEGREE: and a lookup is refused 10 exactly where besides the degree is lawful and the file of the form.
  pub record WithoutDegree : Type 0 where
    pub degree_is_lawful : lawful_degree m ≡ true
    pub form : catalogue_form s ≡ true
    pub none : HasEntry s m → ⊥

  without_first : WithoutDegree → FirstToApply (looking s m) 10
  unfolding looking applies
  without_first w = record { holds = missing_applies.1 w.none; none_before = λ k i. go k (Memᴰ.cases_cons i) }
    where
      last : (k : ℕ) → (k ≡ 9) ⊎ Memᴰ k [] → applies (looking s m) k ≡ false
      last k (inl e) = rw e (ap not w.form)
      last k (inr i) = absurd (Memᴰ.not-nil i)

      go : (k : ℕ) → (k ≡ 1) ⊎ Memᴰ k (9 ∷ []) → applies (looking s m) k ≡ false
      go k (inl e) = rw e (ap not w.degree_is_lawful)
      go k (inr i) = last k (Memᴰ.cases_cons i)

  first_without : FirstToApply (looking s m) 10 → WithoutDegree
  unfolding looking applies
  first_without f = record {
    degree_is_lawful = not-false (lawful_degree m) (f.none_before 1 (Memᴰ.head refl));
    form = not-false (catalogue_form s) (f.none_before 9 (Memᴰ.tail (Memᴰ.head refl)));
    none = missing_applies.0 f.holds;
  }

  pub refused_without : (number_of (lookup_values (lookup_numbers s m)) ≡ 10) ↔ WithoutDegree
  refused_without =
      let each = (looking_exact s m).each 10 (omega arith) in
      (λ e. first_without (each.0 e), λ w. each.1 (without_first w))

  -- THE READER that is opened with a degree: its number follows the situations of a lookup.
  pub reading_exact : Exact (looking s m) (reader_refusal s m)
  unfolding looking reader_refusal
  reading_exact = exact (λ (n : ℕ). n ∷ []) (looking s m) refusal_number 0 refl (λ r. refl) refl
