-- Answer and slice together: one list of situations decides what a call answers and what it leaves in the slice that was lent to it.
-- A refusal leaves the slice as it was. Both follow from the one outcome of the list. Assumes nothing.
use Rattle.std.specs.Prelude.{◌≡◌, refl, List, ◌++◌, ℕ}
use Rattle.std.proofs.Common.{sym, ◌∙◌}
use Rattle.definitions.specs.Answers.{Situation, unless}
use Rattle.definitions.specs.declared.Refusal.{Refusal}
use Rattle.answer_laws.specs.Unless.{Decides, NoneApplies, unless_refused, unless_given, unless_behind, unless_both, told_given}

-- By the situations l: a is answered and t is left where s was lent, s itself upon a refusal, `written` upon the value.
pub record Answered {A : Type 0} (l : List Situation) (refuse : Refusal → A) (value : A) (s written : List ℕ) (a : A) (t : List ℕ) : Type 0 where
  pub answer : a ≡ unless l refuse value
  pub slice : t ≡ unless l (λ (r : Refusal). s) written

module _ {A : Type 0} {refuse : Refusal → A} {value : A} {s written : List ℕ} where
  -- ---- from the outcome

  pub answered_refused : {r : Refusal} {l : List Situation} → Decides r l → Answered l refuse value s written (refuse r) s
  answered_refused d = record { answer = sym (unless_refused refuse value d); slice = sym (unless_refused (λ r. s) written d) }

  pub answered_given : {l : List Situation} → NoneApplies l → Answered l refuse value s written value written
  answered_given n = record { answer = sym (unless_given refuse value n); slice = sym (unless_given (λ r. s) written n) }

  -- Situations in front that do not apply fall away.
  pub answered_behind : {l k : List Situation} {a : A} {t : List ℕ} → NoneApplies l
      → Answered k refuse value s written a t → Answered (l ++ k) refuse value s written a t
  answered_behind {k = k} n x = record {
    answer = x.answer ∙ sym (unless_behind refuse value k n);
    slice = x.slice ∙ sym (unless_behind (λ r. s) written k n);
  }

  -- ---- to the outcome

  module _ {l : List Situation} {a : A} {t : List ℕ} (x : Answered l refuse value s written a t) where
    -- WHAT HOLDS OF BOTH, refused alike or both given, holds of the answer and the slice.
    pub answered_both : (P : A → List ℕ → Type 0) → ((r : Refusal) → P (refuse r) s) → P value written → P a t
    answered_both P refused given =
        rw (x.answer, x.slice) (unless_both P l refuse value (λ r. s) written refused given)

    -- A refusal leaves the slice as it was.
    pub refused_keeps : {r : Refusal} → (value ≡ refuse r → ⊥) → a ≡ refuse r → t ≡ s
    refused_keeps {r} never = answered_both (λ b u. b ≡ refuse r → u ≡ s) (λ k e. refl) (λ e. absurd (never e))

    -- What is no refusal is the value; then no situation applies, and the slice is written.
    pub given_writes : {b : A} → ((r : Refusal) → refuse r ≡ b → ⊥) → a ≡ b → NoneApplies l × (value ≡ b) × (t ≡ written)
    given_writes never e =
        let g = told_given l (sym x.answer ∙ e) never in
        (g.0, g.1, x.slice ∙ unless_given (λ r. s) written g.0)
