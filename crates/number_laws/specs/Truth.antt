-- What cannot fail holds: a test that cannot hold is false, two that hold together are equal, and numbers that are not the one way round are the other.
-- Assumes nothing.
use Rattle.std.specs.Prelude.{◌≡◌, refl, ◌↔◌, Bool, true, false, ℕ, ◌≤◌, ◌<◌, eqb}
use Rattle.std.proofs.Common.{sym, ◌∙◌, le_antisymm, arith, eqb-true, eq-eqb}
use Rattle.std.proofs.lemmas.Bool.{false≢true}

pub truth_false : (b : Bool) → (b ≡ true → ⊥) → b ≡ false
truth_false true h = absurd (h refl)
truth_false false h = refl

pub truth_equal : (a b : Bool) → (a ≡ true) ↔ (b ≡ true) → a ≡ b
truth_equal true b h = sym (h.0 refl)
truth_equal false b h = sym (truth_false b (λ t. false≢true (h.1 t)))

pub eqb_is : (a b : ℕ) → (eqb a b ≡ true) ↔ (a ≡ b)
eqb_is a b = (eqb-true a b, eq-eqb a b)

-- no test is passed and failed
pub not_both : {b : Bool} {C : Type 0} → b ≡ true → b ≡ false → C
not_both t f = absurd (false≢true (sym f ∙ t))

-- by cases on a test, with what it gave
pub by_test : {C : Type 0} (b : Bool) → (b ≡ true → C) → (b ≡ false → C) → C
by_test true holds fails = holds refl
by_test false holds fails = fails refl

pub le_unless : {a b : ℕ} → (b < a → ⊥) → a ≤ b
le_unless {a} {b} h =
    let n : ¬ (b < a) = h in
    omega arith

-- a map tells numbers apart where it tells the smaller from the larger
pub apart_by_order : (n : ℕ) (f : ℕ → ℕ) → ((i j : ℕ) → i < j → j < n → f i ≡ f j → ⊥) → (i j : ℕ) → i < n → j < n → f i ≡ f j → i ≡ j
apart_by_order n f apart i j h l e = le_antisymm (le_unless (λ k. apart j i k h (sym e))) (le_unless (λ k. apart i j k l e))
