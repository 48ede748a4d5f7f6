-- Vectors chosen by a mask: slot h counts where digit h of the mask is 1. The mask's leading digit chooses one vector more than the rest of it; a mask cut
-- off at L chooses the slots below L; and a mask with one digit more, and that slot set, is a basis with one row more.
-- Assumes nothing.
use Rattle.std.specs.Prelude.{◌≡◌, ◌⊎◌, List, [], ◌∷◌}
use Rattle.std.proofs.Common.{sym, ap₂, ◌∙◌, inl, inr, zero-mul, one-mul, mod-lt, pow_pos, pow_mono, pow-add}
use Rattle.std.proofs.Math.Path.{ap, subst}
use Prim.Native.Nat.{ℕ, zero, suc, ◌+◌, ◌-◌, ◌*◌, ◌/◌, ◌%◌, ◌^◌, ◌≤◌, ◌<◌}
use Rattle.std.proofs.Math.Nat.{div-eq_of_lt}
use native.Mathlib.Omega.{arith}
use Rattle.std.proofs.Math.Decide.{dec_lt, ℕ_discrete}
use Rattle.std.proofs.Math.Pow.{pow-lt, field, mod-mod-pow}
use Rattle.std.proofs.lemmas.Nat.{shl-shr}
use Rattle.definitions.specs.Polynomial.{◌⊕◌, degree}
use Rattle.polynomial_laws.specs.Sum.{⊕_self, ⊕_zero, zero-⊕}
use Rattle.polynomial_laws.specs.Degree.{HasDegree, power_degree, degree_is}
use Rattle.polynomial_laws.specs.Additive.{digit_at, digit_at_additive, digit_at_small, digit_at_leading}
use Rattle.net_laws.specs.Share.{first_rows}
use Rattle.relation_laws.specs.Relation.{none, skip, add, sum_is, sum_nothing}
use Rattle.relation_laws.specs.Scan.{Lowest}
use Rattle.relation_laws.specs.Offset.{Offset, lowest_more}
use Rattle.relation_laws.specs.Leading.{Spanned, Spans, Leads, set_omits, set_adds, set_out, spans_more}

unfoldable pub chosen : ℕ → (ℕ → ℕ) → ℕ → ℕ
chosen mask b h = digit_at h mask * b h

-- ---- digits of masks
even_power : (h j : ℕ) → 2 ^ (suc j + h) / 2 ^ h % 2 ≡ 0
even_power h j = rw (pow-add 2 (suc j) h, shl-shr (2 ^ suc j) h) (omega arith)

digit_power : (h k : ℕ) → (h ≡ k → ⊥) → digit_at h (2 ^ k) ≡ 0
unfolding digit_at
digit_power h k apart = go (dec_lt h k)
  where
    go : Dec (h < k) → 2 ^ k / 2 ^ h % 2 ≡ 0
    go (yes l) = let e : suc (k - suc h) + h ≡ k = omega arith in subst (λ (z : ℕ). 2 ^ z / 2 ^ h % 2 ≡ 0) e (even_power h (k - suc h))
    go (no l) = let n : ¬ (h ≡ k) = apart in rw (div-eq_of_lt (pow-lt {i = k} {j = h} (omega arith)))

-- one digit turned
pub digit_other : (h k mask : ℕ) → (h ≡ k → ⊥) → digit_at h (mask ⊕ 2 ^ k) ≡ digit_at h mask
digit_other h k mask apart =
    digit_at_additive h mask (2 ^ k) ∙ ap (λ (z : ℕ). digit_at h mask ⊕ z) (digit_power h k apart) ∙ ⊕_zero (digit_at h mask)

digit_turned : (k mask c : ℕ) → digit_at k mask ≡ c → digit_at k (mask ⊕ 2 ^ k) ≡ c ⊕ 1
digit_turned k mask c e = digit_at_additive k mask (2 ^ k) ∙ ap₂ ◌⊕◌ e (digit_at_leading k (2 ^ k) (power_degree k))

digit_cleared : (k mask : ℕ) → digit_at k mask ≡ 1 → digit_at k (mask ⊕ 2 ^ k) ≡ 0
digit_cleared k mask e = digit_turned k mask 1 e ∙ ⊕_self 1

digit_put : (k mask : ℕ) → digit_at k mask ≡ 0 → digit_at k (mask ⊕ 2 ^ k) ≡ 1
digit_put k mask e = digit_turned k mask 0 e ∙ zero-⊕ 1

-- a mask cut off
digit_below : (h L mask : ℕ) → h < L → digit_at h (mask % 2 ^ L) ≡ digit_at h mask
unfolding digit_at
digit_below h L mask l =
    let j = L - suc h in
    let e : suc j + h ≡ L = omega arith in
    let two : j + 1 ≡ suc j = omega arith in
    ap (λ (z : ℕ). mask % 2 ^ z / 2 ^ h % 2) (sym e) ∙ ap (λ (z : ℕ). z % 2) (field mask (suc j) h) ∙ ap (λ (z : ℕ). mask / 2 ^ h % 2 ^ z % 2) (sym two)
    ∙ mod-mod-pow (mask / 2 ^ h) j 1

digit_above : (h L mask : ℕ) → L ≤ h → digit_at h (mask % 2 ^ L) ≡ 0
digit_above h L mask l = digit_at_small h (mask % 2 ^ L) (omega (arith, mod-lt mask (pow_pos L), pow_mono {i = L} {j = h} l))

-- ---- chosen vectors
module _ (b : ℕ → ℕ) where
  pub chosen_not : (h mask : ℕ) → digit_at h mask ≡ 0 → chosen mask b h ≡ 0
  unfolding chosen
  chosen_not h mask e = rw e (zero-mul (b h))

  pub chosen_is : (h mask : ℕ) → digit_at h mask ≡ 1 → chosen mask b h ≡ b h
  unfolding chosen
  chosen_is h mask e = rw e (one-mul (b h))

  chosen_same : (h mask other : ℕ) → digit_at h mask ≡ digit_at h other → chosen mask b h ≡ chosen other b h
  unfolding chosen
  chosen_same h mask other e = ap (λ (z : ℕ). z * b h) e

  -- nothing is chosen
  spanned_none : (H : ℕ) {s : ℕ} → Spanned (chosen 0 b) H s → s ≡ 0
  unfolding first_rows
  spanned_none zero (none e) = e
  spanned_none (suc h) (skip k) = spanned_none h k
  spanned_none (suc h) (add {u = t} k e) =
      e ∙ ap (λ (z : ℕ). z ⊕ t) (chosen_not h 0 (digit_at_small h 0 (pow_pos h))) ∙ zero-⊕ t ∙ spanned_none h k

  -- the slots below L
  cut_same : (L mask h : ℕ) {s : ℕ} → h ≤ L → Spanned (chosen mask b) h s → Spanned (chosen (mask % 2 ^ L) b) h s
  unfolding first_rows
  cut_same L mask zero le k = k
  cut_same L mask (suc h) le (skip k) = skip (cut_same L mask h (omega arith) k)
  cut_same L mask (suc h) le (add {u = t} k e) =
      add (cut_same L mask h (omega arith) k) (e ∙ ap (λ (z : ℕ). z ⊕ t) (chosen_same h mask (mask % 2 ^ L) (sym (digit_below h L mask (omega arith)))))

  cut_back : (L mask h : ℕ) {s : ℕ} → h ≤ L → Spanned (chosen (mask % 2 ^ L) b) h s → Spanned (chosen mask b) h s
  unfolding first_rows
  cut_back L mask zero le k = k
  cut_back L mask (suc h) le (skip k) = skip (cut_back L mask h (omega arith) k)
  cut_back L mask (suc h) le (add {u = t} k e) =
      add (cut_back L mask h (omega arith) k) (e ∙ ap (λ (z : ℕ). z ⊕ t) (chosen_same h (mask % 2 ^ L) mask (digit_below h L mask (omega arith))))

  cut_in : (L mask n : ℕ) {s : ℕ} → Spanned (chosen mask b) L s → Spanned (chosen (mask % 2 ^ L) b) (n + L) s
  unfolding first_rows
  cut_in L mask zero {s} k = let e : L ≡ 0 + L = omega arith in subst (λ (z : ℕ). Spanned (chosen (mask % 2 ^ L) b) z s) e (cut_same L mask L (omega arith) k)
  cut_in L mask (suc n) {s} k =
      let e : suc (n + L) ≡ suc n + L = omega arith in subst (λ (z : ℕ). Spanned (chosen (mask % 2 ^ L) b) z s) e (skip (cut_in L mask n k))

  cut_less : (L mask h : ℕ) {s : ℕ} → L ≤ h → Spanned (chosen (mask % 2 ^ L) b) (suc h) s → Spanned (chosen (mask % 2 ^ L) b) h s
  unfolding first_rows
  cut_less L mask h le (skip k) = k
  cut_less L mask h le (add {u = t} k e) =
      sum_is (sym (e ∙ ap (λ (z : ℕ). z ⊕ t) (chosen_not h (mask % 2 ^ L) (digit_above h L mask le)) ∙ zero-⊕ t)) k

  cut_out : (L mask n : ℕ) {s : ℕ} → Spanned (chosen (mask % 2 ^ L) b) (n + L) s → Spanned (chosen mask b) L s
  cut_out L mask zero {s} k = let e : 0 + L ≡ L = omega arith in cut_back L mask L (omega arith) (subst (λ (z : ℕ). Spanned (chosen (mask % 2 ^ L) b) z s) e k)
  cut_out L mask (suc n) {s} k =
      let e : suc n + L ≡ suc (n + L) = omega arith in
      cut_out L mask n (cut_less L mask (n + L) (omega arith) (subst (λ (z : ℕ). Spanned (chosen (mask % 2 ^ L) b) z s) e k))

-- ---- going through them
lowest_same : (E F : ℕ → Type 0) (g : ℕ → ℕ) (w k : ℕ) → ((y : ℕ) → E y → F y) → ((y : ℕ) → F y → E y) → Lowest E g w k → Lowest F g w k
lowest_same E F g w k into back low = record { less = low.less; lower = λ y f. low.lower y (back y f); from = from low.from }
  where
    from : (k ≡ w) ⊎ ((y : ℕ) × E y × (k ≡ g y)) → (k ≡ w) ⊎ ((y : ℕ) × F y × (k ≡ g y))
    from (inl e) = inl e
    from (inr (y, met, e)) = inr (y, into y met, e)

-- The sums of x and of vectors of the slots below H that the mask chooses.
abbrev pub Chosen : (ℕ → ℕ) → ℕ → ℕ → ℕ → ℕ → Type 0
Chosen b H mask x y = Offset (first_rows (chosen mask b) H) x y

module _ (b : ℕ → ℕ) (H : ℕ) (g : ℕ → ℕ) where
  pub chosen_one : (x w k : ℕ) → Lowest (Offset [] x) g w k → Lowest (Chosen b H 0 x) g w k
  chosen_one x w k low = lowest_same (Offset [] x) (Chosen b H 0 x) g w k (λ y m. into y m) (λ y m. back y m) low
    where
      into : (y : ℕ) → Offset [] x y → Chosen b H 0 x y
      into y (s, none e, h) = (s, sum_is (sym e) (sum_nothing (first_rows (chosen 0 b) H)), h)

      back : (y : ℕ) → Chosen b H 0 x y → Offset [] x y
      back y (s, k, h) = (s, none (spanned_none b H k), h)

  -- without the mask's leading vector, and then with it
  pub chosen_more : (mask k x w u r : ℕ) → HasDegree mask k → k < H → Lowest (Chosen b H (mask ⊕ 2 ^ k) x) g w u
      → Lowest (Chosen b H (mask ⊕ 2 ^ k) (x ⊕ b k)) g u r → Lowest (Chosen b H mask x) g w r
  chosen_more mask k x w u r top fits out with_it =
      lowest_same (Offset (b k ∷ first_rows rest H) x) (Chosen b H mask x) g w r (λ y m. into y m) (λ y m. back y m)
      (lowest_more g (first_rows rest H) (b k) x w u r out with_it)
    where
      rest : ℕ → ℕ
      rest = chosen (mask ⊕ 2 ^ k) b

      all : ℕ → ℕ
      all = chosen mask b

      lead : digit_at k mask ≡ 1
      lead = digit_at_leading k mask top

      empty : rest k ≡ 0
      empty = chosen_not b k (mask ⊕ 2 ^ k) (digit_cleared k mask lead)

      now : all k ≡ b k
      now = chosen_is b k mask lead

      others : (h : ℕ) → (h ≡ k → ⊥) → all h ≡ rest h
      others h apart = chosen_same b h mask (mask ⊕ 2 ^ k) (sym (digit_other h k mask apart))

      into : (y : ℕ) → Offset (b k ∷ first_rows rest H) x y → Chosen b H mask x y
      into y (s, skip i, e) = (s, set_omits rest all k (b k) empty now others H i, e)
      into y (s, add {u = t} i h, e) = (b k ⊕ t, set_adds rest all k (b k) empty now others H fits i, e ∙ ap (λ (z : ℕ). x ⊕ z) h)

      back : (y : ℕ) → Chosen b H mask x y → Offset (b k ∷ first_rows rest H) x y
      back y (s, i, e) = go (set_out rest all k (b k) empty now others H i)
        where
          go : Spanned rest H s ⊎ ((t : ℕ) × Spanned rest H t × (s ≡ b k ⊕ t)) → Offset (b k ∷ first_rows rest H) x y
          go (inl j) = (s, skip j, e)
          go (inr (t, j, h)) = (s, add j h, e)

  -- the mask cut off at L
  pub chosen_cut : (mask L x w r : ℕ) → L ≤ H → Lowest (Chosen b H (mask % 2 ^ L) x) g w r → Lowest (Offset (first_rows (chosen mask b) L) x) g w r
  chosen_cut mask L x w r le low =
      lowest_same (Chosen b H (mask % 2 ^ L) x) (Offset (first_rows (chosen mask b) L) x) g w r (λ y m. into y m) (λ y m. back y m) low
    where
      e : (H - L) + L ≡ H
      e = omega arith

      into : (y : ℕ) → Chosen b H (mask % 2 ^ L) x y → Offset (first_rows (chosen mask b) L) x y
      into y (s, i, h) = (s, cut_out b L mask (H - L) (subst (λ (z : ℕ). Spanned (chosen (mask % 2 ^ L) b) z s) (sym e) i), h)

      back : (y : ℕ) → Offset (first_rows (chosen mask b) L) x y → Chosen b H (mask % 2 ^ L) x y
      back y (s, i, h) = (s, subst (λ (z : ℕ). Spanned (chosen (mask % 2 ^ L) b) z s) e (cut_in b L mask (H - L) i), h)

-- ---- a basis with its mask
pub record Held (ps : List ℕ) (b : ℕ → ℕ) (mask H : ℕ) : Type 0 where
  pub occupied : (h : ℕ) → digit_at h mask ≡ 1 → HasDegree (b h) h
  pub spans : Spans ps (chosen mask b) H

pub held_more : (ps : List ℕ) (b a : ℕ → ℕ) (mask H p v : ℕ) → Held ps b mask H → Leads ps (chosen mask b) p v → v < 2 ^ H → digit_at (degree v) mask ≡ 0
    → a (degree v) ≡ v → ((h : ℕ) → (h ≡ degree v → ⊥) → a h ≡ b h) → Held (p ∷ ps) a (mask ⊕ 2 ^ degree v) H
unfolding chosen
held_more ps b a mask H p v held lead fits free now others = record {
  occupied = λ h. occupied h (ℕ_discrete h k);
  spans = spans_more ps (chosen mask b) H p v held.spans lead (chosen (mask ⊕ 2 ^ k) a) fits (chosen_is a k (mask ⊕ 2 ^ k) put ∙ now) same;
}
  where
    k : ℕ
    k = degree v

    put : digit_at k (mask ⊕ 2 ^ k) ≡ 1
    put = digit_put k mask free

    occupied : (h : ℕ) → Dec (h ≡ k) → digit_at h (mask ⊕ 2 ^ k) ≡ 1 → HasDegree (a h) h
    occupied h (yes e) one = subst (λ (n : ℕ). HasDegree (a n) n) (sym e) (subst (λ (z : ℕ). HasDegree z k) (sym now) (degree_is v lead.some))
    occupied h (no n) one = subst (λ (z : ℕ). HasDegree z h) (sym (others h n)) (held.occupied h (sym (digit_other h k mask n) ∙ one))

    same : (h : ℕ) → (h ≡ k → ⊥) → chosen (mask ⊕ 2 ^ k) a h ≡ chosen mask b h
    same h n = ap₂ ◌*◌ (digit_other h k mask n) (others h n)
