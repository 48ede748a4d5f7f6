-- One coordinate more: where W is the least weight without coordinate j + 1, the search over ranges that begins at its first row finds the least weight
-- with it. Relations without a row of it weigh W at least; the others begin with one or more rows of it. So the search takes m + 1 - t(s) to
-- m + 1 - t(s + 1), whatever its ranges are: with the bound 1 for every pair, and with 2 where q has an inverse modulo p.
-- Assumes nothing.
use Rattle.std.specs.Prelude.{◌≡◌, refl, ◌⊎◌, length}
use Rattle.std.proofs.Common.{sym, ap, inl, inr, arith, length-append}
use Rattle.std.proofs.Math.Path.{subst}
use mathlib.Core.List.{List, [], ◌∷◌, ◌++◌}
use Prim.Native.Nat.{ℕ, zero, suc, ◌+◌, ◌-◌, ◌^◌, ◌≤◌, ◌<◌}
use Rattle.std.proofs.Math.Decide.{dec_le}
use Rattle.definitions.specs.Net.{t_value}
use Rattle.polynomial_laws.specs.Degree.{HasDegree}
use Rattle.net_laws.specs.Reduction.{reduced}
use Rattle.net_laws.specs.Cell.{Free}
use Rattle.net_laws.specs.Net.{total}
use Rattle.net_laws.specs.Point.{digit_row}
use Rattle.net_laws.specs.Share.{first_rows, share_rows}
use Rattle.net_laws.specs.Weight.{AllFree, LighterFree, share_padded, total_padded, all_free_fewer, Least, Sound, least_unique}
use Rattle.net_laws.specs.TValue.{StopBound, least_t_value}
use Rattle.relation_laws.specs.Size.{size, size_le, size_more}
use Rattle.relation_laws.specs.Relation.{Newest, newest_heavy, newest_reduced}
use Rattle.relation_laws.specs.Ranges.{none, Longer, here, more, longer_total, alone, Found, Some, Lightest, found_less, found_from, found_lightest}

-- ---- the last coordinate of a share
none_at_zero : {d : ℕ} {ds es : List ℕ} → Longer 0 (d ∷ ds) es → d ≡ 0
none_at_zero here = refl

longer_behind : {c d : ℕ} (ds : List ℕ) {rest es : List ℕ} → Longer c (d ∷ ds ++ rest) es → Longer (suc c + length ds) rest es
longer_behind {c} [] {rest} {es} x = let e : suc c ≡ suc c + 0 = omega arith in subst (λ (c : ℕ). Longer c rest es) e (more x)
longer_behind {c} (d ∷ ds) {rest} {es} x =
    let e : suc (suc c) + length ds ≡ suc c + suc (length ds) = omega arith in subst (λ (c : ℕ). Longer c rest es) e (longer_behind ds (more x))

record Last (es : List ℕ) : Type 0 where
  before : List ℕ
  last : ℕ
  is : es ≡ before ++ last ∷ []

last_of : (e : ℕ) (es : List ℕ) → Last (e ∷ es)
last_of e [] = record { before = []; last = e; is = refl }
last_of e (d ∷ es) = let r = last_of d es in record { before = e ∷ r.before; last = r.last; is = ap (λ (ds : List ℕ). e ∷ ds) r.is }

module _ (G : ℕ → ℕ → ℕ) where
  -- No relation is lighter than w.
  abbrev Heavy : ℕ → List ℕ → ℕ → Type 0
  Heavy c ds w = (es : List ℕ) (v : ℕ) → Longer c ds es → Newest (share_rows G 1 es) v → w ≤ total es + size v

  -- ---- no light relations: free rows
  row_heavy : (c e k w : ℕ) (ds : List ℕ) → Heavy (suc c) (suc e ∷ ds) w → suc e + total ds + k < w
      → 2 ^ k ≤ reduced (first_rows (G (suc c)) e ++ share_rows G (suc (suc c)) ds) (G (suc c) e)
  unfolding total share_rows first_rows
  row_heavy c e k w ds heavy l =
      let r = G (suc c) e in
      let rs = first_rows (G (suc c)) e ++ share_rows G (suc (suc c)) ds in
      let a = alone G c (suc e ∷ ds) in
      let newest = subst (λ (xs : List ℕ). Newest xs (reduced rs r)) (sym a.rows) (newest_reduced r rs) in
      size_more k (reduced rs r) (omega (arith, a.same, heavy a.es (reduced rs r) (more a.longer) newest))

  free_more : (c d k : ℕ) (ds : List ℕ) → ((e : ℕ) → e < d → 2 ^ k ≤ reduced (first_rows (G c) e ++ share_rows G (suc c) ds) (G c e))
      → Free k (share_rows G (suc c) ds) → Free k (share_rows G c (d ∷ ds))
  unfolding share_rows first_rows Free
  free_more c zero k ds each free = free
  free_more c (suc d) k ds each free = (each d (omega arith), free_more c d k ds (λ e l. each e (omega arith)) free)

  free_longer : {c : ℕ} {ds es : List ℕ} → Longer c ds es → (k w : ℕ) → Heavy c ds w → Free k (share_rows G c ds) → total es + k < w
      → Free k (share_rows G 1 es)
  unfolding total share_rows first_rows
  free_longer here k w heavy free l = free
  free_longer (more {c} {d} {ds} {es} x) k w heavy free l =
      free_longer x k w (λ xs v y. heavy xs v (more y)) (free_more c d k ds (each c x heavy) free) l
    where
      each : (c : ℕ) → Longer c (d ∷ ds) es → Heavy (suc c) ds w → (e : ℕ) → e < d
          → 2 ^ k ≤ reduced (first_rows (G c) e ++ share_rows G (suc c) ds) (G c e)
      each zero x heavy e b = absurd (omega (arith, none_at_zero x))
      each (suc c) x heavy e b = row_heavy c e k w ds (λ xs v y. heavy xs v (more y)) (omega (arith, longer_total x))

  relation_not_free : (es : List ℕ) (v : ℕ) → Newest (share_rows G 1 es) v → Free (size v) (share_rows G 1 es) → ⊥
  relation_not_free es v rel free = omega (arith, newest_heavy (size v) (share_rows G 1 es) v rel free, (size_le v (size v)).1 (omega arith))

  module _ (m f : ℕ) (sound : Sound G m f) where
    pub found_least : (j W k : ℕ) → Least G m j W → Found G f (suc j) 0 1 [] 0 W k → Least G m (suc j) k
    unfolding total share_rows first_rows Free
    found_least j W k least found = record {
      most = omega (arith, least.most, less);
      lighter = λ c es len l. lighter c es len l;
      some = some (found_from G found (suc j) (omega arith));
    }
      where
        less : k ≤ W
        less = found_less G found

        floor : (es : List ℕ) (v : ℕ) → length es ≡ suc j → Newest (share_rows G 1 es) v → total es + size v < W → f ≤ suc (size v)
        floor es v len rel l = go (dec_le f (suc (size v)))
          where
            go : Dec (f ≤ suc (size v)) → f ≤ suc (size v)
            go (yes b) = b
            go (no b) = absurd (relation_not_free es v rel (sound j W least (size v) es len (omega arith) l))

        lightest : Lightest G (suc j) 1 [] [] k
        lightest = found_lightest G f (suc j) W floor found [] refl (omega arith) (omega arith) (λ d ds v x a b. absurd (omega arith))

        heavy : (e : ℕ) → 1 ≤ e → Heavy (suc j) (e ∷ []) k
        heavy e l es v x rel = lightest e [] es v none l x rel

        begun : (e : ℕ) (es : List ℕ) (c : ℕ) → 1 ≤ e → Longer (suc j) (e ∷ []) es → total es + c < k → Free c (share_rows G 1 es)
        begun e es c l x b =
            free_longer x c k (heavy e l)
            (free_more (suc j) e c [] (λ i h. row_heavy j i c k [] (heavy (suc i) (omega arith)) (omega (arith, longer_total x))) tt) b

        -- by the digits of the last coordinate
        by_last : (c : ℕ) (ds : List ℕ) (e : ℕ) → length ds ≡ j → total (ds ++ e ∷ []) + c < k → Free c (share_rows G 1 (ds ++ e ∷ []))
        by_last c ds zero len l = rw (share_padded G 1 ds) (least.lighter c ds len (omega (arith, total_padded G ds, less)))
        by_last c ds (suc e) len l =
            let place : suc 0 + length ds ≡ suc j = omega arith in
            begun (suc e) (ds ++ suc e ∷ []) c (omega arith)
            (subst (λ (c : ℕ). Longer c (suc e ∷ []) (ds ++ suc e ∷ [])) place (longer_behind ds here)) l

        lighter : LighterFree G (suc j) k
        lighter c [] len l = absurd (omega arith)
        lighter c (d ∷ ds) len l =
            let r = last_of d ds in
            let count = length-append r.before (r.last ∷ []) in
            subst (λ (es : List ℕ). Free c (share_rows G 1 es)) (sym r.is)
            (by_last c r.before r.last (omega (arith, ap length r.is)) (omega (arith, ap total r.is)))

        some : (k ≡ W) ⊎ Some G (suc j) k → k ≤ m → AllFree G (suc j) k → ⊥
        some (inl e) l all = least.some (omega arith) (all_free_fewer G j W (λ c ds len sum. all c ds len (omega arith)))
        some (inr (es, v, len, rel, e)) l all = relation_not_free es v rel (all (size v) es len (omega arith))

-- ---- t-values
module _ (m p : ℕ) (of : HasDegree p m) (q : ℕ) where
  pub found_t_value : (f j W k : ℕ) → StopBound m p q f → W ≡ suc m - t_value m p q (suc j) → Found (digit_row p q) f (suc j) 0 1 [] 0 W k
      → k ≡ suc m - t_value m p q (suc (suc j))
  found_t_value f j W k sound e found =
      let G = digit_row p q in
      least_unique G m (suc j) k _ (found_least G m f sound j W k (rw e (least_t_value m p of q j)) found) (least_t_value m p of q (suc j))
