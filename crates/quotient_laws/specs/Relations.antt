-- Rows that are the values of an additive function f at 1, x, .., x^(d-1). Reduced by these, a vector has some value f b with b < 2^d added, and their
-- sums are reduced to 0. So they are free over the powers below x^c just where f b is 2^c at least for every b < 2^d but 0.
-- Assumes nothing.
use Rattle.std.specs.Prelude.{◌≡◌, List, [], ◌++◌}
use Rattle.std.proofs.Math.Path.{sym, ap, ap₂}
use Rattle.std.proofs.Common.{◌∙◌, arith}
use Prim.Native.Nat.{ℕ, zero, suc, ◌^◌, ◌≤◌, ◌<◌}
use Rattle.std.proofs.Math.Nat.{pow-suc}
use Rattle.std.proofs.Math.Decide.{dec_lt, ℕ_discrete}
use Rattle.std.proofs.Math.Pow.{pow_pos}
use Rattle.definitions.specs.Polynomial.{◌⊕◌}
use Rattle.polynomial_laws.specs.Sum.{⊕_zero, zero-⊕, ⊕_assoc, ⊕_lt, ⊕_sums}
use Rattle.polynomial_laws.specs.Degree.{HasDegree, power_degree, add_degree, leads_cancel, positive}
use Rattle.polynomial_laws.specs.Additive.{Additive, additive_zero, zero_additive, additive_agree}
use Rattle.net_laws.specs.Reduction.{reduce_by, reduce, basis, reduced, Each, min_either, reduce_additive, reduce_le, reduced_rows}
use Rattle.net_laws.specs.Cell.{Free}
use Rattle.net_laws.specs.Share.{first_rows}

-- f x^(d-1), .., f 1.
abbrev pub value_rows : (ℕ → ℕ) → ℕ → List ℕ
value_rows f d = first_rows (λ i. f (2 ^ i)) d ++ []

module _ (f : ℕ → ℕ) (sums : Additive f) where
  abbrev rows : ℕ → List ℕ
  rows = value_rows f

  -- w is v with some value added.
  record Added (d v w : ℕ) : Type 0 where
    b : ℕ
    short : b < 2 ^ d
    is : w ≡ v ⊕ f b

  reduced_added : (d v : ℕ) → Added d v (reduced (rows d) v)
  unfolding first_rows basis reduce reduce_by
  reduced_added zero v = record { b = 0; short = pow_pos 0; is = sym (ap (λ z. v ⊕ z) (additive_zero f sums) ∙ ⊕_zero v) }
  reduced_added (suc d) v =
      let u = reduced_added d v in
      let r = reduced_added d (f (2 ^ d)) in
      let new : 2 ^ d ⊕ r.b < 2 ^ suc d = omega (arith, (add_degree (power_degree d) r.short).most, pow-suc 2 d) in
      let old : u.b < 2 ^ suc d = omega (arith, u.short, pow-suc 2 d) in
      let turned : reduced (rows d) v ⊕ reduced (rows d) (f (2 ^ d)) ≡ v ⊕ f (u.b ⊕ (2 ^ d ⊕ r.b)) =
      ap₂ ◌⊕◌ u.is r.is ∙ rw (sums u.b (2 ^ d ⊕ r.b), sums (2 ^ d) r.b) (⊕_assoc v (f u.b) (f (2 ^ d) ⊕ f r.b)) in
      min_either (Added (suc d) v) _ _ (record { b = u.b; short = old; is = u.is })
      (record { b = u.b ⊕ (2 ^ d ⊕ r.b); short = ⊕_lt (suc d) u.b (2 ^ d ⊕ r.b) old new; is = turned })

  each_row : (Q : ℕ → Type 0) (d : ℕ) → Each Q (rows d) → (i : ℕ) → i < d → Q (f (2 ^ i))
  unfolding first_rows
  each_row Q zero all i l = absurd (omega arith)
  each_row Q (suc d) all i l = at (ℕ_discrete i d) (each_row Q d all.1 i)
    where
      at : Dec (i ≡ d) → (i < d → Q (f (2 ^ i))) → Q (f (2 ^ i))
      at (yes e) ih = rw e all.0
      at (no e) ih = ih (omega arith)

  reduced_value : (d v : ℕ) → v < 2 ^ d → reduced (rows d) (f v) ≡ 0
  reduced_value d =
      additive_agree (λ v. reduced (rows d) (f v)) (λ v. 0)
      (λ a b. ap (reduced (rows d)) (sums a b) ∙ reduce_additive (basis (rows d)) (f a) (f b)) zero_additive d
      (each_row (λ r. reduced (rows d) r ≡ 0) d (reduced_rows (rows d)))

  pub free_rows : (c d : ℕ) → ((b : ℕ) → 0 < b → b < 2 ^ d → 2 ^ c ≤ f b) → Free c (value_rows f d)
  unfolding Free first_rows
  free_rows c zero all = tt
  free_rows c (suc d) all =
      let r = reduced_added d (f (2 ^ d)) in
      let h = add_degree (power_degree d) r.short in
      let large : 2 ^ c ≤ f (2 ^ d ⊕ r.b) = all (2 ^ d ⊕ r.b) (positive h) (omega (arith, h.most, pow-suc 2 d)) in
      (omega (arith, r.is, sums (2 ^ d) r.b), free_rows c d (λ b pos l. all b pos (omega (arith, pow-suc 2 d))))

  pub rows_free : (c d : ℕ) → Free c (value_rows f d) → (b : ℕ) → 0 < b → b < 2 ^ d → 2 ^ c ≤ f b
  unfolding Free first_rows
  rows_free c zero free b pos l = absurd (omega arith)
  rows_free c (suc d) free b pos l = at (dec_lt b (2 ^ d)) (rows_free c d free.1 b pos)
    where
      at : Dec (b < 2 ^ d) → (b < 2 ^ d → 2 ^ c ≤ f b) → 2 ^ c ≤ f b
      at (yes s) ih = ih s
      at (no s) ih =
          let h : HasDegree b d = record { least = omega arith; most = omega (arith, pow-suc 2 d) } in
          let rest = b ⊕ 2 ^ d in
          let back : f rest ⊕ f (2 ^ d) ≡ f b = sym (sums rest (2 ^ d)) ∙ ap f (simp ⊕_sums) in
          let gone : reduced (rows d) (f rest) ≡ 0 = reduced_value d rest (leads_cancel h (power_degree d)) in
          let same : reduced (rows d) (f b) ≡ reduced (rows d) (f (2 ^ d)) =
          ap (reduced (rows d)) (sym back) ∙ reduce_additive (basis (rows d)) (f rest) (f (2 ^ d)) ∙ rw gone (zero-⊕ _) in
          omega (arith, free.0, reduce_le (basis (rows d)) (f b))
