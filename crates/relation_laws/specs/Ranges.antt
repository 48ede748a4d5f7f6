-- The search over ranges of shares. Each coordinate above the present one has a range of digits: as many rows are taken as the range allows, and only the
-- fewest are counted. Each new row is scanned: among the relations whose newest row it is, with rows of the ranges, all with few enough digits to be
-- lighter than the least weight so far lower it. A range may be widened by a row at any turn, or ended; then the coordinates below are gone through over
-- it, and the range behind it begins. However the ranges are chosen, no relation lighter than the result is missed.
-- Assumes nothing.
use Rattle.std.specs.Prelude.{◌≡◌, ◌⊎◌, length}
use Rattle.std.proofs.Math.Path.{refl, subst}
use Rattle.std.proofs.Common.{sym, ap, ◌∙◌}
use Rattle.std.proofs.Math.Logic.{inl, inr}
use mathlib.Core.List.{List, [], ◌∷◌}
use Prim.Native.Nat.{ℕ, zero, suc, ◌+◌, ◌≤◌, ◌<◌}
use native.Mathlib.Omega.{arith}
use Rattle.std.proofs.Math.Decide.{dec_le, dec_lt}
use Rattle.net_laws.specs.Net.{total}
use Rattle.net_laws.specs.Share.{first_rows, share_rows}
use Rattle.relation_laws.specs.Size.{size}
use Rattle.relation_laws.specs.Relation.{Newest}

-- ---- shares
-- The share ds lies between ls and hs, coordinate by coordinate.
pub data Within : List ℕ → List ℕ → List ℕ → Type 0 where
  none : Within [] [] []
  more : {l d h : ℕ} {ls hs ds : List ℕ} → l ≤ d → d ≤ h → Within ls hs ds → Within (l ∷ ls) (h ∷ hs) (d ∷ ds)

within_total : {ls hs ds : List ℕ} → Within ls hs ds → total ls ≤ total ds
unfolding total
within_total none = omega arith
within_total (more a b x) = omega (arith, within_total x)

pub within_length : {ls hs ds : List ℕ} → Within ls hs ds → length ds ≡ length hs
within_length none = refl
within_length (more a b x) = ap suc (within_length x)

-- The share es of the coordinates from 1 on has ds from c on; coordinate 0 has nothing.
pub data Longer : ℕ → List ℕ → List ℕ → Type 0 where
  here : {es : List ℕ} → Longer 0 (0 ∷ es) es
  more : {c d : ℕ} {ds es : List ℕ} → Longer c (d ∷ ds) es → Longer (suc c) ds es

longer_length : {c : ℕ} {ds es : List ℕ} → Longer c ds es → suc (length es) ≡ c + length ds
longer_length here = omega arith
longer_length (more x) = omega (arith, longer_length x)

pub longer_total : {c : ℕ} {ds es : List ℕ} → Longer c ds es → total ds ≤ total es
unfolding total
longer_total here = omega arith
longer_total (more x) = omega (arith, longer_total x)

module _ (G : ℕ → ℕ → ℕ) where
  -- It has more digits, or the same and the same rows.
  longer_more : {c : ℕ} {ds es : List ℕ} → Longer c ds es → (total ds < total es) ⊎ ((total es ≡ total ds) × (share_rows G 1 es ≡ share_rows G c ds))
  unfolding total share_rows first_rows
  longer_more here = inr (omega arith, refl)
  longer_more (more {c} {d} {ds} {es} x) = go d (longer_more x)
    where
      go : (d : ℕ) → (total (d ∷ ds) < total es) ⊎ ((total es ≡ total (d ∷ ds)) × (share_rows G 1 es ≡ share_rows G c (d ∷ ds)))
          → (total ds < total es) ⊎ ((total es ≡ total ds) × (share_rows G 1 es ≡ share_rows G (suc c) ds))
      go d (inl l) = inl (omega arith)
      go zero (inr (e, r)) = inr (omega arith, r)
      go (suc d) (inr (e, r)) = inl (omega arith)

  -- Nothing of the coordinates below c + 1.
  pub record Alone (c : ℕ) (ds : List ℕ) : Type 0 where
    pub es : List ℕ
    pub longer : Longer c (0 ∷ ds) es
    pub rows : share_rows G 1 es ≡ share_rows G (suc c) ds
    pub same : total es ≡ total ds

  pub alone : (c : ℕ) (ds : List ℕ) → Alone c ds
  unfolding total share_rows first_rows
  alone zero ds = record { es = ds; longer = here; rows = refl; same = refl }
  alone (suc c) ds = let a = alone c (0 ∷ ds) in record { es = a.es; longer = more a.longer; rows = a.rows; same = omega (arith, a.same) }

  -- ---- the search
  -- Row i of coordinate c is scanned over the rows of hs: of the relations whose newest row it is, those lighter than w have weight u at least, if all
  -- else weighs `low`, and u is w or the weight of one.
  pub record Scanned (c i : ℕ) (hs : List ℕ) (low w u : ℕ) : Type 0 where
    pub less : u ≤ w
    pub lighter : {ls ds : List ℕ} → Within ls hs ds → (v : ℕ) → Newest (share_rows G c (suc i ∷ ds)) v → low + suc i + size v < w
        → u ≤ suc i + total ds + size v
    pub from : (u ≡ w) ⊎ ((ds : List ℕ) × (v : ℕ) × (length ds ≡ length hs) × Newest (share_rows G c (suc i ∷ ds)) v × (u ≡ suc i + total ds + size v))

  -- From i rows of coordinate c, of whose range l is the least, and hs of those above, which count for `low`: the least weight k, where w was it so far.
  pub data Found (f : ℕ) : ℕ → ℕ → ℕ → List ℕ → ℕ → ℕ → ℕ → Type 0 where
    bottom : {i l low w : ℕ} {hs : List ℕ} → Found f 0 i l hs low w w
    stop : {c i l low w : ℕ} {hs : List ℕ} → w ≤ low + l + f → w ≤ low + i + f → Found f c i l hs low w w
    take : {c i l low w u k : ℕ} {hs : List ℕ} → Scanned (suc c) i hs low w u → Found f (suc c) (suc i) l hs low u k → Found f (suc c) i l hs low w k
    leave : {c i l low w u k : ℕ} {hs : List ℕ} → Found f c 0 0 (i ∷ hs) (low + l) w u → Found f (suc c) i (suc i) hs low u k → Found f (suc c) i l hs low w k

  -- ---- what it finds
  pub found_less : {f c i l low w k : ℕ} {hs : List ℕ} → Found f c i l hs low w k → k ≤ w
  found_less bottom = omega arith
  found_less (stop a b) = omega arith
  found_less (take s x) = omega (arith, s.less, found_less x)
  found_less (leave x y) = omega (arith, found_less x, found_less y)

  abbrev pub Some : ℕ → ℕ → Type 0
  Some J k = (es : List ℕ) × (v : ℕ) × (length es ≡ J) × Newest (share_rows G 1 es) v × (k ≡ total es + size v)

  scanned_some : (J c i : ℕ) (hs ds : List ℕ) (v u : ℕ) → suc c + length hs ≡ J → length ds ≡ length hs → Newest (share_rows G (suc c) (suc i ∷ ds)) v
      → u ≡ suc i + total ds + size v → Some J u
  unfolding total
  scanned_some J c i hs ds v u all len rel e =
      let a = alone c (suc i ∷ ds) in
      (a.es, v, omega (arith, longer_length a.longer), subst (λ (rs : List ℕ). Newest rs v) (sym a.rows) rel, omega (arith, a.same))

  pub found_from : {f c i l low w k : ℕ} {hs : List ℕ} → Found f c i l hs low w k → (J : ℕ) → c + length hs ≡ J → (k ≡ w) ⊎ Some J k
  found_from bottom J all = inl refl
  found_from (stop a b) J all = inl refl
  found_from (take {c} {i} {l} {low} {w} {u} {k} {hs} s x) J all = go s.from (found_from x J all)
    where
      go : (u ≡ w) ⊎ ((ds : List ℕ) × (v : ℕ) × (length ds ≡ length hs) × Newest (share_rows G (suc c) (suc i ∷ ds)) v × (u ≡ suc i + total ds + size v))
          → (k ≡ u) ⊎ Some J k → (k ≡ w) ⊎ Some J k
      go a (inr b) = inr b
      go (inl e) (inl h) = inl (h ∙ e)
      go (inr (ds, v, len, rel, e)) (inl h) = inr (scanned_some J c i hs ds v k all len rel (h ∙ e))
  found_from (leave {c} {i} {l} {low} {w} {u} {k} {hs} x y) J all = go (found_from x J (omega arith)) (found_from y J all)
    where
      go : (u ≡ w) ⊎ Some J u → (k ≡ u) ⊎ Some J k → (k ≡ w) ⊎ Some J k
      go a (inr b) = inr b
      go (inl e) (inl h) = inl (h ∙ e)
      go (inr a) (inl h) = inr (subst (Some J) (sym h) a)

  -- Relations with l rows or more of coordinate c, and within the ranges above it.
  abbrev pub Lightest : ℕ → ℕ → List ℕ → List ℕ → ℕ → Type 0
  Lightest c l ls hs k = (d : ℕ) (ds es : List ℕ) (v : ℕ) → Within ls hs ds → l ≤ d → Longer c (d ∷ ds) es → Newest (share_rows G 1 es) v → k ≤ total es + size v

  -- Those with l to i rows of coordinate c, and nothing below.
  abbrev pub Known : ℕ → ℕ → ℕ → List ℕ → List ℕ → ℕ → Type 0
  Known c i l ls hs w = (d : ℕ) (ds : List ℕ) (v : ℕ) → Within ls hs ds → l ≤ d → d ≤ i → Newest (share_rows G c (d ∷ ds)) v → w ≤ d + total ds + size v

  known_more : (c i l low w u : ℕ) (ls hs : List ℕ) → total ls ≡ low → Scanned c i hs low w u → Known c i l ls hs w → Known c (suc i) l ls hs u
  known_more c i l low w u ls hs sum s known d ds v x a b rel = go (dec_le d i)
    where
      newest : (d : ℕ) → d ≡ suc i → Newest (share_rows G c (d ∷ ds)) v → Dec (low + suc i + size v < w) → u ≤ d + total ds + size v
      newest d e rel (yes l) = let m = s.lighter x v (subst (λ (d : ℕ). Newest (share_rows G c (d ∷ ds)) v) e rel) l in omega arith
      newest d e rel (no l) = omega (arith, s.less, within_total x)

      go : Dec (d ≤ i) → u ≤ d + total ds + size v
      go (yes l) = omega (arith, s.less, known d ds v x a l rel)
      go (no l) = newest d (omega arith) rel (dec_lt (low + suc i + size v) w)

  module _ (f J W : ℕ) (floor : (es : List ℕ) (v : ℕ) → length es ≡ J → Newest (share_rows G 1 es) v → total es + size v < W → f ≤ suc (size v)) where
    stop_lightest : (c i l low w : ℕ) (ls hs : List ℕ) → total ls ≡ low → c + length hs ≡ J → w ≤ W → w ≤ low + l + f → w ≤ low + i + f
        → Known c i l ls hs w → Lightest c l ls hs w
    unfolding total
    stop_lightest c i l low w ls hs sum all most a b known d ds es v x le y rel = go (dec_lt (total es + size v) w)
      where
        same : f ≤ suc (size v) → Dec (d ≤ i) → (total es ≡ d + total ds) × (share_rows G 1 es ≡ share_rows G c (d ∷ ds)) → w ≤ total es + size v
        same few (yes l) (e, r) = omega (arith, known d ds v x le l (subst (λ (rs : List ℕ). Newest rs v) r rel))
        same few (no l) (e, r) = omega (arith, within_total x)

        at : f ≤ suc (size v) → (d + total ds < total es) ⊎ ((total es ≡ d + total ds) × (share_rows G 1 es ≡ share_rows G c (d ∷ ds))) → w ≤ total es + size v
        at few (inl l) = omega (arith, within_total x)
        at few (inr p) = same few (dec_le d i) p

        go : Dec (total es + size v < w) → w ≤ total es + size v
        go (yes l) = at (floor es v (omega (arith, longer_length y, within_length x)) rel (omega arith)) (longer_more y)
        go (no l) = omega arith

    bottom_lightest : (i l w : ℕ) (ls hs : List ℕ) → Known 0 i l ls hs w → Lightest 0 l ls hs w
    unfolding total share_rows first_rows
    bottom_lightest i l w ls hs known zero ds es v x le here rel = omega (arith, known 0 ds v x le (omega arith) rel)
    bottom_lightest i l w ls hs known (suc e) ds es v x le there rel = elim there [ ]

    pub found_lightest : {c i l low w k : ℕ} {hs : List ℕ} → Found f c i l hs low w k → (ls : List ℕ) → total ls ≡ low → c + length hs ≡ J → w ≤ W
        → Known c i l ls hs w → Lightest c l ls hs k
    unfolding total share_rows first_rows
    found_lightest (bottom {i} {l} {low} {w} {hs}) ls sum all most known = bottom_lightest i l w ls hs known
    found_lightest (stop {c} {i} {l} {low} {w} {hs} a b) ls sum all most known = stop_lightest c i l low w ls hs sum all most a b known
    found_lightest (take {c} {i} {l} {low} {w} {u} {k} {hs} s x) ls sum all most known =
        found_lightest x ls sum all (omega (arith, s.less)) (known_more (suc c) i l low w u ls hs sum s known)
    found_lightest (leave {c} {i} {l} {low} {w} {u} {k} {hs} x y) ls sum all most known =
        both (found_lightest x (l ∷ ls) (omega arith) (omega arith) most known_below)
        (found_lightest y ls sum all (omega (arith, found_less x)) (λ d ds v z a b. absurd (omega arith)))
      where
        known_below : Known c 0 0 (l ∷ ls) (i ∷ hs) w
        known_below zero xs v (more {d = d} {ds = ds} a b z) p q rel = omega (arith, known d ds v z a b rel)
        known_below (suc e) xs v z p q rel = absurd (omega arith)

        both : Lightest c 0 (l ∷ ls) (i ∷ hs) u → Lightest (suc c) (suc i) ls hs k → Lightest (suc c) l ls hs k
        both below behind d ds es v z le (more {d = e} t) rel = go (dec_le d i)
          where
            go : Dec (d ≤ i) → k ≤ total es + size v
            go (yes b) = omega (arith, found_less y, below e (d ∷ ds) es v (more le b z) (omega arith) t rel)
            go (no b) = behind d ds es v z (omega arith) (more t) rel
