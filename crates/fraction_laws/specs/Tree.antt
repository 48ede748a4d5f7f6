-- The tree's pairs of degree m ≥ 1 are the well-formed pairs with linear quotients, each once, and there are 2^m of them. What stands k levels below
-- a grown pair has grown k degrees; what has grown k degrees stands k levels below some pair, and below one only, since each level has one above it.
-- Assumes nothing.
use Rattle.std.specs.Prelude.{◌≡◌, ◌⊎◌, true, ℕ, zero, suc, ◌+◌, ◌^◌, ◌≤◌, length}
use Rattle.std.proofs.Math.Path.{refl}
use Rattle.std.proofs.Common.{sym, ap, ◌∙◌, subst, inl, inr, zero-add, add-zero, arith, length-append}
use mathlib.Core.List.Memᴰ
use mathlib.Core.List.{[], ◌∷◌, ◌++◌, Memᴰ}
use mathlib.Core.List.Pairwise
use mathlib.Core.List.{Nodup}
use Rattle.definitions.specs.Polynomial.{quot}
use Rattle.definitions.specs.Generator.{linear_quotients, well_formed, Pair, child, pairs_below, tree}
use Rattle.number_laws.specs.Lists.{nodup_more, nodup_join}
use Rattle.polynomial_laws.specs.Degree.{HasDegree}
use Rattle.fraction_laws.specs.WellFormed.{Proper, well_formed_is, well_formed_proper}
use Rattle.fraction_laws.specs.Quotients.{two_linear, three_linear, linear_cases}
use Rattle.fraction_laws.specs.Level.{root, parent, child_proper, quotient_child, parent_child, Grown, root_proper, root_grown, proper_root}
use Rattle.fraction_laws.specs.Level.{child_grown, grown_nonzero, grown_hangs}

-- ---- k levels below s
data Below : ℕ → Pair → Pair → Type 0 where
  here : {s : Pair} → Below 0 s s
  down : {k : ℕ} {s t : Pair} (a : ℕ) → HasDegree a 1 → Below k (child a s) t → Below (suc k) s t

below_grown : {k : ℕ} (m : ℕ) {s t : Pair} → Below k s t → Grown m s → Grown (k + m) t
below_grown m here g = rw zero-add g
below_grown m (down {k} {t = t} a ha b) g =
    let e : k + suc m ≡ suc k + m = omega arith in
    subst (λ n. Grown n t) e (below_grown (suc m) b (child_grown ha g))

-- what has grown stands below some pair of each level above it, and below one only
record Began (k m : ℕ) (t : Pair) : Type 0 where
  s : Pair
  grown : Grown m s
  below : Below k s t

grown_began : (k m : ℕ) (t : Pair) → Grown (k + m) t → Began k m t
grown_began zero m t g = record { s = t; grown = rw zero-add at g; below = here }
grown_began (suc k) m t g =
    let e : suc k + m ≡ k + suc m = omega arith in
    let b = grown_began k (suc m) t (subst (λ n. Grown n t) e g) in
    let h = grown_hangs m b.s b.grown in
    record { s = h.above; grown = h.grown; below = down h.a h.linear_a (rw (← h.is) at b.below) }

began_once : (m : ℕ) {k : ℕ} {s t u : Pair} → Below k s u → Below k t u → Proper m s → Proper m t → s ≡ t
began_once m here here hs ht = refl
began_once m (down {s = s} a ha b) (down {s = t} c hc d) hs ht =
    sym (parent_child m a s hs) ∙ ap parent (began_once (suc m) b d (child_proper m a s ha hs) (child_proper m c t hc ht)) ∙ parent_child m c t ht

-- ---- the tree by its levels
pub tree_def : (m : ℕ) → tree m ≡ pairs_below m root
tree_def m = unfold tree in refl

pub pairs_below_zero : (s : Pair) → pairs_below 0 s ≡ s ∷ []
pairs_below_zero s = unfold pairs_below in refl

pub pairs_below_suc : (k : ℕ) (s : Pair) → pairs_below (suc k) s ≡ pairs_below k (child 2 s) ++ pairs_below k (child 3 s)
pairs_below_suc k s = unfold pairs_below in refl

pub pairs_below_count : (k : ℕ) (s : Pair) → length (pairs_below k s) ≡ 2 ^ k
pairs_below_count zero s = rw pairs_below_zero
pairs_below_count (suc k) s = rw (pairs_below_suc, length-append, pairs_below_count k (child 2 s), pairs_below_count k (child 3 s)) (omega arith)

pairs_below_out : (k : ℕ) (s t : Pair) → Memᴰ t (pairs_below k s) → Below k s t
pairs_below_out zero s t m = rw (Memᴰ.eq_of_singleton (rw pairs_below_zero at m)) here
pairs_below_out (suc k) s t m = go (pairs_below_out k (child 2 s) t) (pairs_below_out k (child 3 s) t) (Memᴰ.append_cases (pairs_below k (child 2 s)) (rw pairs_below_suc at m))
  where
    go : (Memᴰ t (pairs_below k (child 2 s)) → Below k (child 2 s) t) → (Memᴰ t (pairs_below k (child 3 s)) → Below k (child 3 s) t)
        → Memᴰ t (pairs_below k (child 2 s)) ⊎ Memᴰ t (pairs_below k (child 3 s)) → Below (suc k) s t
    go two three (inl n) = down 2 two_linear (two n)
    go two three (inr n) = down 3 three_linear (three n)

pairs_below_in : {k : ℕ} {s t : Pair} → Below k s t → Memᴰ t (pairs_below k s)
pairs_below_in (here {s}) = rw pairs_below_zero (Memᴰ.head refl)
pairs_below_in (down {k} {s} {t} a ha b) = rw pairs_below_suc (go (linear_cases a ha) (pairs_below_in b))
  where
    go : (a ≡ 2) ⊎ (a ≡ 3) → Memᴰ t (pairs_below k (child a s)) → Memᴰ t (pairs_below k (child 2 s) ++ pairs_below k (child 3 s))
    go (inl e) m = Memᴰ.append_left (pairs_below k (child 3 s)) (rw e at m)
    go (inr e) m = Memᴰ.append_right (pairs_below k (child 2 s)) (rw e at m)

pairs_below_once : (k m : ℕ) (s : Pair) → Proper m s → Nodup (pairs_below k s)
pairs_below_once zero m s h = rw pairs_below_zero (nodup_more Memᴰ.not-nil Pairwise.nil)
pairs_below_once (suc k) m s h =
    rw pairs_below_suc (nodup_join (pairs_below_once k (suc m) (child 2 s) two) (pairs_below_once k (suc m) (child 3 s) three) apart)
  where
    two : Proper (suc m) (child 2 s)
    two = child_proper m 2 s two_linear h

    three : Proper (suc m) (child 3 s)
    three = child_proper m 3 s three_linear h

    apart : (t : Pair) → Memᴰ t (pairs_below k (child 2 s)) → Memᴰ t (pairs_below k (child 3 s)) → ⊥
    apart t i j =
        let e = began_once (suc m) (pairs_below_out k (child 2 s) t i) (pairs_below_out k (child 3 s) t j) two three in
        let z : ◌≡◌ {A = ℕ} 2 3 = sym (quotient_child m 2 s h) ∙ ap (λ (c : Pair). quot c.p c.q) e ∙ quotient_child m 3 s h in
        omega arith

-- ---- the theorem
pub record InTree (m : ℕ) (s : Pair) : Type 0 where
  pub is_well_formed : well_formed m s.p s.q ≡ true
  pub quotients : linear_quotients s.p s.q ≡ true

pub tree_sound : (m : ℕ) (s : Pair) → 1 ≤ m → Memᴰ s (tree m) → InTree m s
tree_sound zero s pos h = absurd (omega arith)
tree_sound (suc m) s pos h =
    let g = rw add-zero at (below_grown 0 (pairs_below_out (suc m) root s (rw tree_def at h)) root_grown) in
    record {
      is_well_formed = (well_formed_is (suc m) s.p s.q).1
          (record { degree_p = g.proper.degree_p; nonzero = grown_nonzero m s.p s.q g; smaller = g.proper.smaller });
      quotients = g.quotients;
    }

pub tree_complete : (m : ℕ) (s : Pair) → InTree m s → Memᴰ s (tree m)
tree_complete m s h =
    let g : Grown m s = record { proper = well_formed_proper ((well_formed_is m s.p s.q).0 h.is_well_formed); quotients = h.quotients } in
    let b = grown_began m 0 s (rw add-zero g) in
    rw (tree_def, ← proper_root b.s b.grown.proper) (pairs_below_in b.below)

pub tree_once : (m : ℕ) → Nodup (tree m)
tree_once m = rw tree_def (pairs_below_once m 0 root root_proper)

pub tree_count : (m : ℕ) → length (tree m) ≡ 2 ^ m
tree_count m = rw tree_def (pairs_below_count m root)
