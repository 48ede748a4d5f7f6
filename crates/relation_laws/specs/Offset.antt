-- Going through the sums of x and some vectors: without the first vector, and then with it.
-- Assumes nothing.
use Rattle.std.specs.Prelude.{◌≡◌, refl, ◌⊎◌, List, [], ◌∷◌, ℕ, ◌≤◌, ◌<◌, min}
use Rattle.std.proofs.Common.{sym, ap, ◌∙◌, inl, inr, arith}
use Rattle.std.proofs.Math.Decide.{dec_lt}
use Rattle.definitions.specs.Polynomial.{◌⊕◌}
use Rattle.polynomial_laws.specs.Sum.{⊕_zero, ⊕_assoc}
use Rattle.relation_laws.specs.Relation.{Sum, none, skip, add}
use Rattle.relation_laws.specs.Scan.{Lowest}

-- y is the sum of x and some of the vectors.
abbrev pub Offset : List ℕ → ℕ → ℕ → Type 0
Offset vs x y = (s : ℕ) × Sum vs s × (y ≡ x ⊕ s)

module _ (g : ℕ → ℕ) where
  pub lowest_one : (x w : ℕ) → Lowest (Offset [] x) g w (min w (g x))
  lowest_one x w = record { less = omega arith; lower = lower; from = from (dec_lt (g x) w) }
    where
      same : {s : ℕ} → Sum [] s → x ⊕ s ≡ x
      same (none e) = ap (λ (z : ℕ). x ⊕ z) e ∙ ⊕_zero x

      lower : (y : ℕ) → Offset [] x y → min w (g x) ≤ g y
      lower y (s, k, e) = omega (arith, ap g (e ∙ same k))

      from : Dec (g x < w) → (min w (g x) ≡ w) ⊎ ((y : ℕ) × Offset [] x y × (min w (g x) ≡ g y))
      from (yes l) = inr (x, (0, none refl, sym (⊕_zero x)), omega arith)
      from (no l) = inl (omega arith)

  pub lowest_more : (vs : List ℕ) (b x w u k : ℕ) → Lowest (Offset vs x) g w u → Lowest (Offset vs (x ⊕ b)) g u k → Lowest (Offset (b ∷ vs) x) g w k
  lowest_more vs b x w u k out into = record { less = omega (arith, out.less, into.less); lower = lower; from = from into.from out.from }
    where
      lower : (y : ℕ) → Offset (b ∷ vs) x y → k ≤ g y
      lower y (s, skip t, e) = omega (arith, into.less, out.lower y (s, t, e))
      lower y (s, add {u = a} t h, e) = into.lower y (a, t, e ∙ ap (λ (z : ℕ). x ⊕ z) h ∙ sym (⊕_assoc x b a))

      from : (k ≡ u) ⊎ ((y : ℕ) × Offset vs (x ⊕ b) y × (k ≡ g y)) → (u ≡ w) ⊎ ((y : ℕ) × Offset vs x y × (u ≡ g y))
          → (k ≡ w) ⊎ ((y : ℕ) × Offset (b ∷ vs) x y × (k ≡ g y))
      from (inr (y, (s, t, e), h)) o = inr (y, (b ⊕ s, add t refl, e ∙ ⊕_assoc x b s), h)
      from (inl e) (inl h) = inl (e ∙ h)
      from (inl e) (inr (y, (s, t, o), h)) = inr (y, (s, skip t, o), e ∙ h)

  -- Where nothing is met, w stays.
  pub lowest_nothing : (E : ℕ → Type 0) (w : ℕ) → ((y : ℕ) → E y → ⊥) → Lowest E g w w
  lowest_nothing E w never = record { less = omega arith; lower = λ y e. absurd (never y e); from = inl refl }
