-- A basis by leading terms: slot h holds a vector of degree h, or 0. A sum of vectors of slots has the degree of the highest that is used, so those below
-- 2^L use slots below L only. A row p is reduced by the slot at its degree as long as that holds a vector; what is left, v, goes into its own slot. What
-- is met are the sums of v and of the slots below L, where v is below 2^L; otherwise no sum with p is.
-- Assumes nothing.
use Rattle.std.specs.Prelude.{◌≡◌, ◌⊎◌, List, ◌∷◌}
use Rattle.std.proofs.Math.Path.{refl, sym, ap, ap₂, subst}
use Rattle.std.proofs.Common.{◌∙◌}
use Rattle.std.proofs.Math.Logic.{inl, inr}
use Prim.Native.Nat.{ℕ, zero, suc, ◌^◌, ◌≤◌, ◌<◌}
use Rattle.std.proofs.Math.Nat.{pow-suc}
use native.Mathlib.Omega.{arith}
use Rattle.std.proofs.Math.Decide.{ℕ_discrete}
use Rattle.std.proofs.Math.Pow.{pow_pos, pow_mono}
use Rattle.definitions.specs.Polynomial.{◌⊕◌, degree}
use Rattle.polynomial_laws.specs.Sum.{⊕_lt, ⊕_zero, zero-⊕, ⊕_assoc, ⊕-left_comm, ⊕_cancel, ⊕_sums}
use Rattle.polynomial_laws.specs.Degree.{HasDegree, degree_is, degree_unique, degree_least, degree_most, add_degree}
use Rattle.net_laws.specs.Share.{first_rows}
use Rattle.relation_laws.specs.Relation.{Sum, none, skip, add, sum_nothing, sum_is, sum_sums}
use Rattle.relation_laws.specs.Scan.{Meets}
use Rattle.relation_laws.specs.Offset.{Offset}

abbrev pub Slots : (ℕ → ℕ) → Type 0
Slots b = (h : ℕ) → (b h ≡ 0) ⊎ HasDegree (b h) h

-- Sums of the vectors of the slots below H.
abbrev pub Spanned : (ℕ → ℕ) → ℕ → ℕ → Type 0
Spanned b H s = Sum (first_rows b H) s

-- one vector alone
pub spanned_one : (b : ℕ → ℕ) (H h : ℕ) → h < H → Spanned b H (b h)
unfolding first_rows
spanned_one b zero h l = absurd (omega arith)
spanned_one b (suc k) h l = go (ℕ_discrete h k) (λ d. spanned_one b k h d)
  where
    go : Dec (h ≡ k) → (h < k → Spanned b k (b h)) → Spanned b (suc k) (b h)
    go (yes e) ih = add (sum_nothing (first_rows b k)) (ap b e ∙ sym (⊕_zero (b k)))
    go (no n) ih = skip (ih (omega arith))

-- ---- degrees
module _ (b : ℕ → ℕ) (slots : Slots b) where
  slot_lt : (h : ℕ) → b h < 2 ^ suc h
  slot_lt h = go (slots h)
    where
      go : (b h ≡ 0) ⊎ HasDegree (b h) h → b h < 2 ^ suc h
      go (inl e) = omega (arith, pow_pos (suc h))
      go (inr d) = omega (arith, d.most, pow-suc 2 h)

  spanned_lt : (H : ℕ) {s : ℕ} → Spanned b H s → s < 2 ^ H
  unfolding first_rows
  spanned_lt zero (none e) = omega arith
  spanned_lt (suc h) (skip k) = omega (arith, spanned_lt h k, pow-suc 2 h)
  spanned_lt (suc h) (add {u = t} k e) = rw e (⊕_lt (suc h) (b h) t (slot_lt h) (omega (arith, spanned_lt h k, pow-suc 2 h)))

  -- what is below 2^L uses slots below L
  spanned_below : (L H : ℕ) {s : ℕ} → L ≤ H → Spanned b H s → s < 2 ^ L → Spanned b L s
  unfolding first_rows
  spanned_below L zero {s} le k l = let e : 0 ≡ L = omega arith in subst (λ (n : ℕ). Spanned b n s) e k
  spanned_below L (suc h) {s} le k l = go (ℕ_discrete (suc h) L) k (λ t i d m. spanned_below L h {s = t} d i m)
    where
      go : Dec (suc h ≡ L) → Spanned b (suc h) s → ((t : ℕ) → Spanned b h t → L ≤ h → t < 2 ^ L → Spanned b L t) → Spanned b L s
      go (yes e) k ih = subst (λ (n : ℕ). Spanned b n s) e k
      go (no n) (skip k) ih = ih s k (omega arith) l
      go (no n) (add {u = t} k e) ih = at (slots h)
        where
          at : (b h ≡ 0) ⊎ HasDegree (b h) h → Spanned b L s
          at (inl z) =
              let same : s ≡ t = e ∙ ap (λ (z : ℕ). z ⊕ t) z ∙ zero-⊕ t in
              sum_is (sym same) (ih t k (omega arith) (omega arith))
          at (inr d) =
              let top : HasDegree (b h ⊕ t) h = add_degree d (spanned_lt h k) in
              absurd (omega (arith, top.least, pow_mono {i = L} {j = h} (omega arith)))

  -- a sum of degree k uses slot k
  spanned_uses : (H k : ℕ) {s : ℕ} → Spanned b H s → HasDegree s k → HasDegree (b k) k
  unfolding first_rows
  spanned_uses zero k (none e) d = absurd (omega (arith, d.least, pow_pos k))
  spanned_uses (suc h) k (skip i) d = spanned_uses h k i d
  spanned_uses (suc h) k {s} (add {u = t} i e) d = at (slots h) (λ d. spanned_uses h k i d)
    where
      at : (b h ≡ 0) ⊎ HasDegree (b h) h → (HasDegree t k → HasDegree (b k) k) → HasDegree (b k) k
      at (inl z) ih = ih (subst (λ (n : ℕ). HasDegree n k) (e ∙ ap (λ (z : ℕ). z ⊕ t) z ∙ zero-⊕ t) d)
      at (inr f) ih =
          let top : HasDegree (b h ⊕ t) h = add_degree f (spanned_lt h i) in
          let same : h ≡ k = sym (degree_unique (b h ⊕ t) h top) ∙ ap degree (sym e) ∙ degree_unique s k d in
          subst (λ (n : ℕ). HasDegree (b n) n) same f

-- ---- one slot set
module _ (b a : ℕ → ℕ) (k v : ℕ) (empty : b k ≡ 0) (now : a k ≡ v) (others : (h : ℕ) → (h ≡ k → ⊥) → a h ≡ b h) where
  nothing_there : (h : ℕ) → h ≡ k → b h ≡ 0
  nothing_there h e = ap b e ∙ empty

  pub set_omits : (H : ℕ) {s : ℕ} → Spanned b H s → Spanned a H s
  unfolding first_rows
  set_omits zero s = s
  set_omits (suc h) (skip i) = skip (set_omits h i)
  set_omits (suc h) {s} (add {u = t} i e) = at (ℕ_discrete h k) (set_omits h i)
    where
      at : Dec (h ≡ k) → Spanned a h t → Spanned a (suc h) s
      at (yes c) j = skip (sum_is (sym (e ∙ ap (λ (z : ℕ). z ⊕ t) (nothing_there h c) ∙ zero-⊕ t)) j)
      at (no n) j = add j (e ∙ ap (λ (z : ℕ). z ⊕ t) (sym (others h n)))

  -- without the empty slot
  below_empty : (h : ℕ) {s : ℕ} → h ≡ k → Spanned b (suc h) s → Spanned b h s
  unfolding first_rows
  below_empty h c (skip i) = i
  below_empty h c (add {u = t} i e) = sum_is (sym (e ∙ ap (λ (z : ℕ). z ⊕ t) (nothing_there h c) ∙ zero-⊕ t)) i

  pub set_adds : (H : ℕ) {s : ℕ} → k < H → Spanned b H s → Spanned a H (v ⊕ s)
  unfolding first_rows
  set_adds zero l s = absurd (omega arith)
  set_adds (suc h) {s} l i = at (ℕ_discrete h k) i (λ t d j. set_adds h {s = t} d j)
    where
      at : Dec (h ≡ k) → Spanned b (suc h) s → ((t : ℕ) → k < h → Spanned b h t → Spanned a h (v ⊕ t)) → Spanned a (suc h) (v ⊕ s)
      at (yes c) i ih = add (set_omits h (below_empty h c i)) (ap (λ (z : ℕ). z ⊕ s) (sym (ap a c ∙ now)))
      at (no n) (skip i) ih = skip (ih s (omega arith) i)
      at (no n) (add {u = t} i e) ih =
          add (ih t (omega arith) i) (ap (λ (z : ℕ). v ⊕ z) e ∙ ⊕-left_comm v (b h) t ∙ ap (λ (z : ℕ). z ⊕ (v ⊕ t)) (sym (others h n)))

  pub set_out : (H : ℕ) {s : ℕ} → Spanned a H s → Spanned b H s ⊎ ((t : ℕ) × Spanned b H t × (s ≡ v ⊕ t))
  unfolding first_rows
  set_out zero s = inl s
  set_out (suc h) {s} (skip i) = at (set_out h i)
    where
      at : Spanned b h s ⊎ ((t : ℕ) × Spanned b h t × (s ≡ v ⊕ t)) → Spanned b (suc h) s ⊎ ((t : ℕ) × Spanned b (suc h) t × (s ≡ v ⊕ t))
      at (inl j) = inl (skip j)
      at (inr (t, j, e)) = inr (t, skip j, e)
  set_out (suc h) {s} (add {u = r} i e) = at (ℕ_discrete h k) (set_out h i)
    where
      at : Dec (h ≡ k) → Spanned b h r ⊎ ((t : ℕ) × Spanned b h t × (r ≡ v ⊕ t)) → Spanned b (suc h) s ⊎ ((t : ℕ) × Spanned b (suc h) t × (s ≡ v ⊕ t))
      at (yes c) (inl j) = inr (r, skip j, e ∙ ap (λ (z : ℕ). z ⊕ r) (ap a c ∙ now))
      at (yes c) (inr (t, j, d)) = inl (skip (sum_is (sym (e ∙ ap₂ ◌⊕◌ (ap a c ∙ now) d ∙ ⊕_cancel v t)) j))
      at (no n) (inl j) = inl (add j (e ∙ ap (λ (z : ℕ). z ⊕ r) (others h n)))
      at (no n) (inr (t, j, d)) = inr (b h ⊕ t, add j refl, e ∙ ap₂ ◌⊕◌ (others h n) d ∙ ⊕-left_comm (b h) v t)

-- ---- the basis of some rows
pub record Spans (ps : List ℕ) (b : ℕ → ℕ) (H : ℕ) : Type 0 where
  pub slots : Slots b
  pub each : (h : ℕ) → Sum ps (b h)
  pub all : (s : ℕ) → Sum ps s → Spanned b H s

-- p is reduced to v.
pub record Leads (ps : List ℕ) (b : ℕ → ℕ) (p v : ℕ) : Type 0 where
  pub added : ℕ
  pub of : Sum ps added
  pub is : v ≡ p ⊕ added
  pub some : 0 < v
  pub empty : b (degree v) ≡ 0

pub spanned_sum : (ps : List ℕ) (b : ℕ → ℕ) (H : ℕ) → Spans ps b H → (L : ℕ) {s : ℕ} → Spanned b L s → Sum ps s
unfolding first_rows
spanned_sum ps b H spans zero (none e) = sum_is (sym e) (sum_nothing ps)
spanned_sum ps b H spans (suc h) (skip k) = spanned_sum ps b H spans h k
spanned_sum ps b H spans (suc h) (add k e) = sum_is (sym e) (sum_sums (spans.each h) (spanned_sum ps b H spans h k))

module _ (ps : List ℕ) (b : ℕ → ℕ) (H p v : ℕ) (spans : Spans ps b H) (lead : Leads ps b p v) where
  row_back : (u : ℕ) → p ⊕ u ≡ v ⊕ (lead.added ⊕ u)
  row_back u = sym (ap (λ (z : ℕ). z ⊕ (lead.added ⊕ u)) lead.is ∙ twice p lead.added u)
    where
      twice : (p a u : ℕ) → (p ⊕ a) ⊕ (a ⊕ u) ≡ p ⊕ u
      twice p a u = simp ⊕_sums

  sound : (L : ℕ) (y : ℕ) → Offset (first_rows b L) v y → (u : ℕ) × Sum ps u × (y ≡ p ⊕ u)
  sound L y (s, k, e) =
      (lead.added ⊕ s, sum_sums lead.of (spanned_sum ps b H spans L k), e ∙ ap (λ (z : ℕ). z ⊕ s) lead.is ∙ ⊕_assoc p lead.added s)

  pub lead_meets : (L : ℕ) → L ≤ H → v < 2 ^ L → Meets ps p L (Offset (first_rows b L) v)
  lead_meets L le low = record { sound = sound L; complete = complete }
    where
      complete : (u : ℕ) → Sum ps u → p ⊕ u < 2 ^ L → Offset (first_rows b L) v (p ⊕ u)
      complete u k l =
          let s = lead.added ⊕ u in
          let e = row_back u in
          let few : s < 2 ^ L = subst (λ (z : ℕ). z < 2 ^ L) (ap (λ (z : ℕ). v ⊕ z) e ∙ ⊕_cancel v s) (⊕_lt L v (p ⊕ u) low l) in
          (s, spanned_below b spans.slots L H le (spans.all s (sum_sums lead.of k)) few, e)

  -- a sum with p below 2^L would leave v's degree to a sum of slots
  pub lead_meets_none : (L : ℕ) → 2 ^ L ≤ v → Meets ps p L (λ y. ⊥)
  lead_meets_none L big = record { sound = λ y e. absurd e; complete = complete }
    where
      complete : (u : ℕ) → Sum ps u → p ⊕ u < 2 ^ L → ⊥
      complete u k l =
          let s = lead.added ⊕ u in
          let top : HasDegree v (degree v) = degree_is v lead.some in
          let high : p ⊕ u < 2 ^ degree v = omega (arith, pow_mono {i = L} {j = degree v} (degree_least v L big)) in
          let is : v ⊕ (p ⊕ u) ≡ s = ap (λ (z : ℕ). v ⊕ z) (row_back u) ∙ ⊕_cancel v s in
          let used = spanned_uses b spans.slots H (degree v) (spans.all s (sum_sums lead.of k))
          (subst (λ (z : ℕ). HasDegree z (degree v)) is (add_degree top high)) in
          omega (arith, used.least, lead.empty, pow_pos (degree v))

  pub spans_more : (a : ℕ → ℕ) → v < 2 ^ H → a (degree v) ≡ v → ((h : ℕ) → (h ≡ degree v → ⊥) → a h ≡ b h) → Spans (p ∷ ps) a H
  spans_more a fits now others = record { slots = λ h. slot h (ℕ_discrete h (degree v)); each = λ h. row h (ℕ_discrete h (degree v)); all = all }
    where
      slot : (h : ℕ) → Dec (h ≡ degree v) → (a h ≡ 0) ⊎ HasDegree (a h) h
      slot h (yes e) = inr (subst (λ (n : ℕ). HasDegree (a n) n) (sym e) (subst (λ (z : ℕ). HasDegree z (degree v)) (sym now) (degree_is v lead.some)))
      slot h (no n) = subst (λ (z : ℕ). (z ≡ 0) ⊎ HasDegree z h) (sym (others h n)) (spans.slots h)

      row : (h : ℕ) → Dec (h ≡ degree v) → Sum (p ∷ ps) (a h)
      row h (yes e) = add lead.of (ap a e ∙ now ∙ lead.is)
      row h (no n) = skip (sum_is (sym (others h n)) (spans.each h))

      all : (s : ℕ) → Sum (p ∷ ps) s → Spanned a H s
      all s (skip k) = set_omits b a (degree v) v lead.empty now others H (spans.all s k)
      all s (add {u = t} k e) =
          sum_is (sym (e ∙ row_back t))
          (set_adds b a (degree v) v lead.empty now others H (degree_most v H lead.some fits) (spans.all (lead.added ⊕ t) (sum_sums lead.of k)))
