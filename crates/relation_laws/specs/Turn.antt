-- The turns of the search with a basis by leading terms: what is held on the path, and how a row taken, a coordinate left and the start keep it. Packed
-- rows are never sums of each other, since each has a place of its own; so a reduced row is never 0.
-- Assumes nothing.
use Rattle.std.specs.Prelude.{◌≡◌, List, [], ◌∷◌, ℕ, zero, suc, ◌+◌, ◌*◌, ◌%◌, ◌^◌, ◌≤◌, ◌<◌, length}
use Rattle.std.proofs.Math.Path.{refl, sym, ap, ap₂, subst, fun_ext}
use Rattle.std.proofs.Common.{◌∙◌, pow-suc, zero-mul, arith, pow_pos, pow_mono}
use Rattle.std.proofs.Math.Logic.{inl}
use Rattle.std.proofs.Math.Nat.{zero-mod}
use Rattle.std.specs.Int.Bits.{bit_or}
use Rattle.definitions.specs.Polynomial.{◌⊕◌, degree}
use Rattle.polynomial_laws.specs.Digits.{Digit, off, on, digit}
use Rattle.polynomial_laws.specs.Sum.{⊕_swap}
use Rattle.polynomial_laws.specs.Degree.{HasDegree}
use Rattle.polynomial_laws.specs.Additive.{digit_at, digit_at_lt, digit_at_small}
use Rattle.net_laws.specs.Net.{total}
use Rattle.net_laws.specs.Share.{first_rows, share_rows, length_share_rows}
use Rattle.relation_laws.specs.Relation.{Sum, none, sum_is, sum_nothing}
use Rattle.relation_laws.specs.Ranges.{Scanned}
use Rattle.relation_laws.specs.Label.{pack, packed, shl-⊕, picks_lt, unpack, beneath, newest_degree}
use Rattle.relation_laws.specs.Scan.{weight, Lowest, scanned}
use Rattle.relation_laws.specs.Offset.{Offset, lowest_nothing}
use Rattle.relation_laws.specs.Leading.{Spanned, Spans, Leads, lead_meets, lead_meets_none}
use Rattle.relation_laws.specs.Starts.{starts}
use Rattle.relation_laws.specs.Mask.{chosen, chosen_not, Held, held_more, chosen_cut, Chosen}

-- ---- packed rows
packed_some : (K r : ℕ) (rs : List ℕ) (u : ℕ) → length rs < K → Sum (packed K rs) u → 0 < pack K r (length rs) ⊕ u
unfolding pack
packed_some K r rs u fits s =
    let p = unpack K rs s in
    let n = length rs in
    let a = p.label in
    let top : HasDegree (2 ^ n ⊕ a) n = newest_degree n a (picks_lt p.picks) in
    let few : 2 ^ n ⊕ a < 2 ^ K = omega (arith, top.most, pow-suc 2 n, pow_mono {i = suc n} {j = K} fits) in
    let is : (r * 2 ^ K ⊕ 2 ^ n) ⊕ u ≡ (r ⊕ p.value) * 2 ^ K ⊕ (2 ^ n ⊕ a) =
    ap (λ (z : ℕ). (r * 2 ^ K ⊕ 2 ^ n) ⊕ z) p.is ∙ ⊕_swap (r * 2 ^ K) (2 ^ n) (p.value * 2 ^ K) a
    ∙ ap (λ (z : ℕ). z ⊕ (2 ^ n ⊕ a)) (sym (shl-⊕ K r p.value)) in
    let low : ((r * 2 ^ K ⊕ 2 ^ n) ⊕ u) % 2 ^ K ≡ 2 ^ n ⊕ a = ap (λ (z : ℕ). z % 2 ^ K) is ∙ beneath K (r ⊕ p.value) (2 ^ n ⊕ a) few in
    positive_by ((r * 2 ^ K ⊕ 2 ^ n) ⊕ u) (2 ^ K) (omega (arith, top.least, pow_pos n))
  where
    positive_by : (x k : ℕ) → 0 < x % k → 0 < x
    positive_by zero k l = absurd (omega (arith, zero-mod k))
    positive_by (suc x) k l = omega arith

-- ---- what is held
module _ (G : ℕ → ℕ → ℕ) (K H : ℕ) where
  -- i rows of coordinate c, and hs of those above, are taken: n in all, which start at σ and whose basis is that of the slots b that the mask chooses.
  pub record State (c i n σ : ℕ) (b : ℕ → ℕ) (mask : ℕ) (hs : List ℕ) : Type 0 where
    pub places : n ≡ i + total hs
    pub marks : σ ≡ starts (i ∷ hs)
    pub held : Held (packed K (share_rows G c (i ∷ hs))) b mask H

  abbrev pub Packed : ℕ → ℕ → List ℕ → List ℕ
  Packed c i hs = packed K (share_rows G c (i ∷ hs))

  pub state_start : (c : ℕ) (b : ℕ → ℕ) → State c 0 0 1 b 0 []
  unfolding starts total share_rows first_rows packed
  state_start c b = record {
    places = refl;
    marks = refl;
    held = record {
      occupied = λ h one. absurd (omega (arith, digit_at_small h 0 (pow_pos h)));
      spans = record { slots = λ h. inl (none_there h); each = λ h. none (none_there h); all = λ s k. nothing s k };
    };
  }
    where
      none_there : (h : ℕ) → chosen 0 b h ≡ 0
      none_there h = chosen_not b h 0 (digit_at_small h 0 (pow_pos h))

      nothing : (s : ℕ) → Sum [] s → Spanned (chosen 0 b) H s
      nothing s (none e) = sum_is (sym e) (sum_nothing (first_rows (chosen 0 b) H))

  pub state_leave : (c i n σ : ℕ) (b : ℕ → ℕ) (mask : ℕ) (hs : List ℕ) → State (suc c) i n σ b mask hs → State c 0 n (bit_or σ (2 ^ n)) b mask (i ∷ hs)
  unfolding starts total share_rows first_rows
  state_leave c i n σ b mask hs s =
      record { places = s.places ∙ omega arith; marks = ap₂ (λ (y z : ℕ). bit_or y (2 ^ z)) s.marks s.places; held = s.held }

  -- the slots that the mask chooses are kept
  module _ (c i n σ : ℕ) (b a : ℕ → ℕ) (mask : ℕ) (hs : List ℕ) (same : (h : ℕ) → digit_at h mask ≡ 1 → a h ≡ b h) where
    chosen_kept : (h : ℕ) → chosen mask a h ≡ chosen mask b h
    unfolding chosen
    chosen_kept h = go (digit (digit_at h mask) (digit_at_lt h mask)) refl
      where
        go : {c : ℕ} → Digit c → digit_at h mask ≡ c → digit_at h mask * a h ≡ digit_at h mask * b h
        go off e = rw e (zero-mul (a h) ∙ sym (zero-mul (b h)))
        go on e = ap (λ (z : ℕ). digit_at h mask * z) (same h e)

    pub state_kept : State c i n σ b mask hs → State c i n σ a mask hs
    state_kept s = record {
      places = s.places;
      marks = s.marks;
      held = record {
        occupied = λ h one. subst (λ (z : ℕ). HasDegree z h) (sym (same h one)) (s.held.occupied h one);
        spans = subst (λ (f : ℕ → ℕ). Spans (Packed c i hs) f H) (fun_ext (λ h. sym (chosen_kept h))) s.held.spans;
      };
    }

  module _ (c i n σ : ℕ) (b : ℕ → ℕ) (mask : ℕ) (hs : List ℕ) (s : State c i n σ b mask hs) where
    abbrev row : ℕ
    row = pack K (G c i) (i + total hs)

    row_place : length (share_rows G c (i ∷ hs)) ≡ i + total hs
    unfolding total
    row_place = length_share_rows G c (i ∷ hs)

    -- no reduced row is 0
    pub row_some : n < K → (u : ℕ) → Sum (Packed c i hs) u → 0 < row ⊕ u
    row_some fits u k = rw row_place at (packed_some K (G c i) (share_rows G c (i ∷ hs)) u (omega (arith, row_place, s.places)) k)

    module _ (v : ℕ) (lead : Leads (Packed c i hs) (chosen mask b) row v) where
      -- ---- row i is taken
      pub state_take : (a : ℕ → ℕ) → v < 2 ^ H → digit_at (degree v) mask ≡ 0 → a (degree v) ≡ v → ((h : ℕ) → (h ≡ degree v → ⊥) → a h ≡ b h)
          → State c (suc i) (suc n) σ a (mask ⊕ 2 ^ degree v) hs
      unfolding share_rows first_rows packed starts
      state_take a fits free now others = record {
        places = omega (arith, s.places);
        marks = s.marks;
        held = subst (λ (z : ℕ). Held (pack K (G c i) z ∷ Packed c i hs) a (mask ⊕ 2 ^ degree v) H) (sym row_place)
            (held_more (Packed c i hs) b a mask H row v s.held lead fits free now others);
      }

      -- ---- row i is scanned
      module _ (low w D : ℕ) (places : suc n ≤ K) (digits : w ≤ suc (low + suc i + D)) where
        pub scan_all : (k : ℕ) → D + K ≤ H → v < 2 ^ (D + K) → Lowest (Chosen b H (mask % 2 ^ (D + K)) v) (weight K (suc i ∷ hs)) w k
            → Scanned G c i hs low w k
        scan_all k le few lowest =
            scanned G K c i hs (omega (arith, s.places)) (Offset (first_rows (chosen mask b) (D + K)) v) low w k D digits
            (lead_meets (Packed c i hs) (chosen mask b) H row v s.held.spans lead (D + K) le few)
            (chosen_cut b H (weight K (suc i ∷ hs)) mask (D + K) v w k le lowest)

        pub scan_none : 2 ^ (D + K) ≤ v → Scanned G c i hs low w w
        scan_none big =
            scanned G K c i hs (omega (arith, s.places)) (λ y. ⊥) low w w D digits
            (lead_meets_none (Packed c i hs) (chosen mask b) H row v s.held.spans lead (D + K) big)
            (lowest_nothing (weight K (suc i ∷ hs)) (λ y. ⊥) w (λ y e. e))
