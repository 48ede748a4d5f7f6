-- Laws of `unless`, the answer to a call by its situations. A list comes to one of two outcomes: a first situation that applies decides, or none
-- applies. The answer is then that refusal or the value, whatever kind of answer it is; and an answer tells the outcome. By the list.
-- Assumes nothing.
use Rattle.std.specs.Prelude.{◌≡◌, ◌↔◌, Bool, true, false, List, [], ◌∷◌, ◌++◌}
use Rattle.std.proofs.Math.Path.{refl}
use Rattle.std.proofs.Common.{sym, ◌∙◌, subst}
use Rattle.std.proofs.lemmas.Bool.{false≢true}
use Rattle.definitions.specs.Answers.{Situation, unless}
use Rattle.definitions.specs.declared.Refusal.{Refusal}

-- ---- the two outcomes

-- The first situation that applies has the refusal r.
pub data Decides : Refusal → List Situation → Type 0 where
  here : {s : Situation} {l : List Situation} → s.applies ≡ true → Decides s.refusal (s ∷ l)
  later : {s : Situation} {l : List Situation} {r : Refusal} → s.applies ≡ false → Decides r l → Decides r (s ∷ l)

-- No situation applies.
pub data NoneApplies : List Situation → Type 0 where
  at_end : NoneApplies []
  passes : {s : Situation} {l : List Situation} → s.applies ≡ false → NoneApplies l → NoneApplies (s ∷ l)

pub data Outcome (l : List Situation) : Type 0 where
  is_refused : {r : Refusal} → Decides r l → Outcome l
  is_given : NoneApplies l → Outcome l

pub outcome : (l : List Situation) → Outcome l
outcome [] = is_given at_end
outcome (s ∷ l) = go s.applies refl (outcome l)
  where
    go : (b : Bool) → s.applies ≡ b → Outcome l → Outcome (s ∷ l)
    go true e ih = is_refused (here e)
    go false e (is_refused d) = is_refused (later e d)
    go false e (is_given n) = is_given (passes e n)

-- ---- the outcome of two lists, one behind the other

pub decides_front : {r : Refusal} {l : List Situation} (k : List Situation) → Decides r l → Decides r (l ++ k)
decides_front k (here e) = here e
decides_front k (later e d) = later e (decides_front k d)

pub decides_behind : {r : Refusal} {l k : List Situation} → NoneApplies l → Decides r k → Decides r (l ++ k)
decides_behind at_end d = d
decides_behind (passes e n) d = later e (decides_behind n d)

pub decides_none : {r : Refusal} → Decides r [] → ⊥
decides_none d = elim d [ ]

pub decides_rest : {r : Refusal} {l k : List Situation} → NoneApplies l → Decides r (l ++ k) → Decides r k
decides_rest at_end d = d
decides_rest (passes e n) (here t) = absurd (false≢true (sym e ∙ t))
decides_rest (passes e n) (later f d) = decides_rest n d

pub none_append : {l k : List Situation} → NoneApplies l → NoneApplies k → NoneApplies (l ++ k)
none_append at_end n = n
none_append (passes e m) n = passes e (none_append m n)

pub none_front : (l k : List Situation) → NoneApplies (l ++ k) → NoneApplies l
none_front [] k n = at_end
none_front (s ∷ l) k (passes e n) = passes e (none_front l k n)

pub none_behind : (l k : List Situation) → NoneApplies (l ++ k) → NoneApplies k
none_behind [] k n = n
none_behind (s ∷ l) k (passes e n) = none_behind l k n

-- ---- from the outcome to the answer

module _ {A : Type 0} (refuse : Refusal → A) (value : A) where
  pub unless_applies : (s : Situation) (l : List Situation) → s.applies ≡ true → unless (s ∷ l) refuse value ≡ refuse s.refusal
  unfolding unless
  unless_applies s l h = rw h

  pub unless_passes : (s : Situation) (l : List Situation) → s.applies ≡ false → unless (s ∷ l) refuse value ≡ unless l refuse value
  unfolding unless
  unless_passes s l h = rw h

  pub unless_refused : {r : Refusal} {l : List Situation} → Decides r l → unless l refuse value ≡ refuse r
  unless_refused (here {s = s} {l = l} e) = unless_applies s l e
  unless_refused (later {s = s} {l = l} e d) = unless_passes s l e ∙ unless_refused d

  pub unless_given : {l : List Situation} → NoneApplies l → unless l refuse value ≡ value
  unfolding unless
  unless_given at_end = refl
  unless_given (passes {s = s} {l = l} e n) = unless_passes s l e ∙ unless_given n

  -- Situations in front that do not apply fall away.
  pub unless_behind : {l : List Situation} (k : List Situation) → NoneApplies l → unless (l ++ k) refuse value ≡ unless k refuse value
  unless_behind k at_end = refl
  unless_behind k (passes {s = s} {l = l} e n) = unless_passes s (l ++ k) e ∙ unless_behind k n

-- What holds of two answers to one list, refused alike or both given.
pub unless_both : {A B : Type 0} (P : A → B → Type 0) (l : List Situation) (refuse : Refusal → A) (value : A) (refuse' : Refusal → B) (value' : B)
    → ((r : Refusal) → P (refuse r) (refuse' r)) → P value value' → P (unless l refuse value) (unless l refuse' value')
unless_both P l refuse value refuse' value' refused given = go (outcome l)
  where
    go : Outcome l → P (unless l refuse value) (unless l refuse' value')
    go (is_refused {r = r} d) = rw (unless_refused refuse value d, unless_refused refuse' value' d) (refused r)
    go (is_given n) = rw (unless_given refuse value n, unless_given refuse' value' n) given

-- What is made of an answer is what is made of its cases.
pub unless_map : {A B : Type 0} (f : A → B) (l : List Situation) (refuse : Refusal → A) (value : A)
    → f (unless l refuse value) ≡ unless l (λ (r : Refusal). f (refuse r)) (f value)
unless_map f l refuse value = unless_both (λ a b. f a ≡ b) l refuse value (λ (r : Refusal). f (refuse r)) (f value) (λ r. refl) refl

-- The situations k are looked at where none of l applies.
pub unless_append : {A : Type 0} (refuse : Refusal → A) (value : A) (l k : List Situation)
    → unless (l ++ k) refuse value ≡ unless l refuse (unless k refuse value)
unless_append refuse value l k = go (outcome l)
  where
    go : Outcome l → unless (l ++ k) refuse value ≡ unless l refuse (unless k refuse value)
    go (is_refused d) = unless_refused refuse value (decides_front k d) ∙ sym (unless_refused refuse (unless k refuse value) d)
    go (is_given n) = unless_behind refuse value k n ∙ sym (unless_given refuse (unless k refuse value) n)

-- Two lists behind one situation matter only where it does not apply.
pub unless_tail : {A : Type 0} (refuse : Refusal → A) (value : A) (s : Situation) (l k : List Situation)
    → (s.applies ≡ false → unless l refuse value ≡ unless k refuse value) → unless (s ∷ l) refuse value ≡ unless (s ∷ k) refuse value
unless_tail refuse value s l k same = go s.applies refl
  where
    go : (b : Bool) → s.applies ≡ b → unless (s ∷ l) refuse value ≡ unless (s ∷ k) refuse value
    go true e = unless_applies refuse value s l e ∙ sym (unless_applies refuse value s k e)
    go false e = unless_passes refuse value s l e ∙ same e ∙ sym (unless_passes refuse value s k e)

-- ---- from the answer to the outcome

module _ {A : Type 0} {refuse : Refusal → A} {value x : A} (l : List Situation) (e : unless l refuse value ≡ x) where
  -- What is no refusal is the value, and no situation applies.
  pub told_given : ((r : Refusal) → refuse r ≡ x → ⊥) → NoneApplies l × (value ≡ x)
  told_given never = go (outcome l)
    where
      go : Outcome l → NoneApplies l × (value ≡ x)
      go (is_refused {r = r} d) = absurd (never r (sym (unless_refused refuse value d) ∙ e))
      go (is_given n) = (n, sym (unless_given refuse value n) ∙ e)

  -- What is not the value is the refusal of the situation that decides.
  pub told_refused : (value ≡ x → ⊥) → (r : Refusal) × Decides r l × (refuse r ≡ x)
  told_refused never = go (outcome l)
    where
      go : Outcome l → (r : Refusal) × Decides r l × (refuse r ≡ x)
      go (is_refused {r = r} d) = (r, d, sym (unless_refused refuse value d) ∙ e)
      go (is_given n) = absurd (never (sym (unless_given refuse value n) ∙ e))

-- THE VALUE is given exactly where no situation applies,
pub given_exactly : {A : Type 0} (refuse : Refusal → A) (value : A) (l : List Situation) → ((r : Refusal) → refuse r ≡ value → ⊥)
    → (unless l refuse value ≡ value) ↔ NoneApplies l
given_exactly refuse value l never = (λ e. (told_given l e never).0, unless_given refuse value)

-- and A REFUSAL exactly where it is that of the first situation that applies.
pub refused_exactly : {A : Type 0} (refuse : Refusal → A) (value : A) (l : List Situation) (r : Refusal)
    → (value ≡ refuse r → ⊥) → ((k : Refusal) → refuse k ≡ refuse r → k ≡ r) → (unless l refuse value ≡ refuse r) ↔ Decides r l
refused_exactly refuse value l r never same = (
  λ (e : unless l refuse value ≡ refuse r). let t = told_refused l e never in subst (λ (k : Refusal). Decides k l) (same t.0 t.2) t.1,
  unless_refused refuse value,
)
