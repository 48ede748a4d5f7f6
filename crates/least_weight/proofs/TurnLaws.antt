-- `search_ranges`, `search_below` and `take_row`, one call of each: how the path goes on, and what is found.
-- Assumes nothing.
use mathlib.Core.Path.{◌≡◌, refl, sym, ap, ap₂, ◌∙◌, subst}
use mathlib.Core.List.{List, ◌∷◌}
use Prim.Native.Nat.{ℕ, zero, suc, ◌+◌, ◌-◌, ◌*◌, ◌%◌, ◌^◌, ◌≤◌, ◌<◌}
use native.Mathlib.Nat.{mod-eq_of_lt}
use native.Mathlib.Omega.{arith}
use native.Mathlib.Decide.{dec_lt}
use lib.Bits.{bit_xor, bit_or, or_mod, or_lt, or_add_and, and_le_r}
use lib.ListN.{get_or, set, length-set}
use lib.Pow.{shl_lt}
use lib.Seq.{get_or-set_same, get_or-set_other}
use Rattle.definitions.specs.Generator.{largest_degree}
use Rattle.definitions.specs.Polynomial.{◌⊕◌, degree}
use Rattle.number_laws.specs.Bounds.{one_shl_in}
use Rattle.polynomial_laws.specs.Sum.{⊕_def}
use Rattle.polynomial_laws.specs.Additive.{digit_at}
use Rattle.net_laws.specs.Net.{total}
use Rattle.relation_laws.specs.Relation.{Sum}
use Rattle.relation_laws.specs.Ranges.{Scanned, Found, bottom, stop, take, leave}
use Rattle.relation_laws.specs.Label.{pack}
use Rattle.relation_laws.specs.Leading.{Spanned, Leads, spanned_sum}
use Rattle.relation_laws.specs.Starts.{starts}
use Rattle.relation_laws.specs.Mask.{chosen, chosen_not, digit_other}
use Rattle.relation_laws.specs.Turn.{Packed, state_leave, state_kept, row_some, state_take, scan_all, scan_none}
use Rattle.relations.specs.Slots.{slot, Apart, Reduced, Scanning}
use Rattle.relations.proofs.WordLaws.{place, Leading, leading}
use Rattle.digit_rows.specs.Table.{Rows}
use Rattle.least_weight.specs.Search.{Taken, Path, Kept, Searched, Below}
use Rattle.least_weight.proofs.RoomLaws.{Taking}

kept_all : {mask : ℕ} {b : List ℕ} → Kept mask b b
kept_all = record { same = λ h one. refl; sized = refl }

kept_on : {mask : ℕ} {b a z : List ℕ} → Kept mask b a → Kept mask a z → Kept mask b z
kept_on k j = record { same = λ h one. j.same h one ∙ k.same h one; sized = j.sized ∙ k.sized }

or_odd : (σ b : ℕ) → σ % 2 ≡ 1 → bit_or σ b % 2 ≡ 1
or_odd σ b odd =
    let e : bit_or σ b % 2 ≡ bit_or (σ % 2) (b % 2) = or_mod σ b 1 in
    let l : bit_or (σ % 2) (b % 2) < 2 = or_lt 1 (σ % 2) (b % 2) (omega arith) (omega arith) in
    omega (arith, or_add_and (σ % 2) (b % 2), and_le_r (σ % 2) (b % 2))

rows_fewer : (G : ℕ → ℕ → ℕ) (table : List ℕ) (m c : ℕ) → Rows G table m c → Rows G table m (c - 1)
rows_fewer G table m c agree j i some low l = agree j i some (omega arith) l

-- ---- coordinate c is left for the one below
-- The starts with that of the coordinate below, as they are computed.
abbrev pub with_start : ℕ → ℕ → ℕ
with_start σ n = bit_or σ (1 * 2 ^ n % 2 ^ 64)

taken_left : (G : ℕ → ℕ → ℕ) (c i n σ : ℕ) (b : List ℕ) (mask : ℕ) (hs : List ℕ) → 1 ≤ c → n < 64 → Taken G c i n σ b mask hs
    → Taken G (c - 1) 0 n (with_start σ n) b mask (i ∷ hs)
taken_left G zero i n σ b mask hs some fits s = absurd (omega arith)
taken_left G (suc c) i n σ b mask hs some fits s =
    let e : suc c - 1 ≡ c = omega arith in
    rw (e, one_shl_in 64 n fits) (state_leave G 32 64 c i n σ (slot b) mask hs s)

module _ {table : List ℕ} {m c n i σ mask : ℕ} {b : List ℕ} where
  pub path_left : 1 ≤ c → n < 64 → Path table m c i n σ b mask → Path table m (c - 1) 0 n (with_start σ n) b mask
  path_left some fits p = record {
    G = p.G;
    hs = i ∷ p.hs;
    agree = rows_fewer p.G table m c p.agree;
    state = taken_left p.G c i n σ b mask p.hs some fits p.state;
    words = p.words;
    odd = or_odd σ (1 * 2 ^ n % 2 ^ 64) p.odd;
    sized = p.sized;
  }

  pub path_kept : {a : List ℕ} → Kept mask b a → Path table m c i n σ b mask → Path table m c i n σ a mask
  path_kept {a} k p = record {
    G = p.G;
    hs = p.hs;
    agree = p.agree;
    state = state_kept p.G 32 64 c i n σ (slot b) (slot a) mask p.hs k.same p.state;
    words = p.words;
    odd = p.odd;
    sized = k.sized ∙ p.sized;
  }

-- a range is ended
leave_on : {f i l low w : ℕ} (G : ℕ → ℕ → ℕ) (c : ℕ) (hs : List ℕ) (u r : ℕ) → 1 ≤ c → Found G f (c - 1) 0 0 (i ∷ hs) (low + l) w u
    → Found G f c i (suc i) hs low u r → Found G f c i l hs low w r
leave_on G zero hs u r some x y = absurd (omega arith)
leave_on {f} {i} {l} {low} {w} G (suc c) hs u r some x y =
    let e : suc c - 1 ≡ c = omega arith in
    leave (subst (λ (k : ℕ). Found G f k 0 0 (i ∷ hs) (low + l) w u) e x) y

module _ {table : List ℕ} {m f c n i l low w σ mask : ℕ} {b : List ℕ} where
  pub below_one : c ≡ 1 → Below table m f c n i l low w σ mask b b w
  below_one e =
      let z : 0 ≡ c - 1 = omega arith in
      record { less = omega arith; found = λ G agree hs s. subst (λ (k : ℕ). Found G f k 0 0 (i ∷ hs) (low + l) w w) z bottom; kept = kept_all }

  pub below_stop : w ≤ low + l + f → Below table m f c n i l low w σ mask b b w
  below_stop full =
      let a : w ≤ low + l + 0 + f = omega arith in
      record { less = omega arith; found = λ G agree hs s. stop a a; kept = kept_all }

  pub below_deep : {a : List ℕ} {r : ℕ} → 1 ≤ c → n < 64 → Searched table m f (c - 1) n 0 0 (low + l) w (with_start σ n) mask b a r
      → Below table m f c n i l low w σ mask b a r
  below_deep some fits x = record {
    less = x.less;
    found = λ G agree hs s. x.found G (rows_fewer G table m c agree) (i ∷ hs) (taken_left G c i n σ b mask hs some fits s);
    kept = x.kept;
  }

  pub searched_closed : {a : List ℕ} {r : ℕ} → 1 ≤ c → r ≤ low + i + f → Below table m f c n i l low w σ mask b a r
      → Searched table m f c n i l low w σ mask b a r
  searched_closed {r = r} some full x =
      let e : r ≤ low + suc i + f = omega arith in
      record { less = x.less; found = λ G agree hs s. leave_on G c hs r r some (x.found G agree hs s) (stop e full); kept = x.kept }

  pub searched_behind : {a z : List ℕ} {u r : ℕ} → 1 ≤ c → Below table m f c n i l low w σ mask b a u
      → Searched table m f c n i (i + 1) low u σ mask a z r → Searched table m f c n i l low w σ mask b z r
  searched_behind {a} {u = u} {r} some x y =
      let e : i + 1 ≡ suc i = omega arith in
      record {
        less = omega (arith, x.less, y.less);
        found = λ G agree hs s.
            leave_on G c hs u r some (x.found G agree hs s)
            (subst (λ (k : ℕ). Found G f c i k hs low u r) e
            (y.found G agree hs (state_kept G 32 64 c i n σ (slot b) (slot a) mask hs x.kept.same s)));
        kept = kept_on x.kept y.kept;
      }

-- ---- a row is taken
-- The packed row, as it is computed.
abbrev pub packed_row : ℕ → ℕ → ℕ
packed_row value n = bit_xor (value * 2 ^ 32 % 2 ^ 64) (1 * 2 ^ n % 2 ^ 64)

packed_is : (value n : ℕ) → value < 2 ^ 32 → n < 64 → packed_row value n ≡ pack 32 value n
unfolding pack
packed_is value n small fits =
    ap₂ bit_xor (mod-eq_of_lt (shl_lt 32 32 small)) (one_shl_in 64 n fits) ∙ sym (⊕_def (value * 2 ^ 32) (2 ^ n))

-- The mask with the slot of v, as it is computed.
abbrev pub with_slot : ℕ → ℕ → ℕ
with_slot mask v = bit_xor mask (1 * 2 ^ place v % 2 ^ 64)

-- The row that is taken, as it is computed.
abbrev pub row_at : List ℕ → ℕ → ℕ → ℕ → ℕ
row_at table c i n = packed_row (get_or table (c * largest_degree + i) 0) n

module _ {table : List ℕ} {m c i n σ mask low w : ℕ} {b : List ℕ} (t : Taking m c n i low w) (path : Path table m c i n σ b mask) where
  abbrev row : ℕ
  row = row_at table c i n

  row_small : get_or table (c * largest_degree + i) 0 < 2 ^ 32
  row_small = path.words (c * largest_degree + i)

  module _ (G : ℕ → ℕ → ℕ) (agree : Rows G table m c) (hs : List ℕ) (s : Taken G c i n σ b mask hs) where
    row_is : row ≡ pack 32 (G c i) (i + total hs)
    row_is =
        packed_is (get_or table (c * largest_degree + i) 0) n row_small (omega (arith, t.room))
        ∙ ap₂ (pack 32) (agree c i t.some (omega arith) t.digit) s.places

    of_path : (u : ℕ) → Spanned (chosen mask (slot b)) 64 u → Sum (Packed G 32 64 c i hs) u
    of_path u k = spanned_sum (Packed G 32 64 c i hs) (chosen mask (slot b)) 64 s.held.spans 64 k

    sum_some : (u : ℕ) → Spanned (chosen mask (slot b)) 64 u → 0 < row ⊕ u
    sum_some u k =
        subst (λ (z : ℕ). 0 < z ⊕ u) (sym row_is) (row_some G 32 64 c i n σ (slot b) mask hs s (omega (arith, t.room)) u (of_path u k))

    module _ (v : ℕ) (reduced : Reduced b mask row v) where
      v_some : 0 < v
      v_some = subst (λ (z : ℕ). 0 < z) (sym reduced.is) (sum_some reduced.added reduced.of)

      v_leads : Leading v
      v_leads = leading v v_some reduced.fits

      leads : Leads (Packed G 32 64 c i hs) (chosen mask (slot b)) (pack 32 (G c i) (i + total hs)) v
      leads = record {
        added = reduced.added;
        of = of_path reduced.added reduced.of;
        is = reduced.is ∙ ap (λ (z : ℕ). z ⊕ reduced.added) row_is;
        some = v_some;
        empty = chosen_not (slot b) (degree v) mask reduced.free;
      }

      mask_is : with_slot mask v ≡ mask ⊕ 2 ^ degree v
      mask_is =
          ap (bit_xor mask) (one_shl_in 64 (place v) (omega (arith, v_leads.low)) ∙ ap (λ (z : ℕ). 2 ^ z) v_leads.is) ∙ sym (⊕_def mask (2 ^ degree v))

      taken_more : Taken G c (i + 1) (n + 1) σ (set b (place v) v) (with_slot mask v) hs
      taken_more =
          let more-i : suc i ≡ i + 1 = omega arith in
          let more-n : suc n ≡ n + 1 = omega arith in
          rw (← more-i, ← more-n, mask_is)
          (state_take G 32 64 c i n σ (slot b) mask hs s v leads (slot (set b (place v) v)) reduced.fits reduced.free
          (subst (λ (k : ℕ). get_or (set b (place v) v) k 0 ≡ v) v_leads.is (get_or-set_same b (place v) v 0 (omega (arith, v_leads.low, path.sized))))
          (λ h apart. get_or-set_other b (place v) h v 0 (λ e. apart (e ∙ v_leads.is))))

      row_scanned : (u : ℕ) → Scanning σ v mask (w - low - i - 2) b w u → Scanned G c i hs low w u
      unfolding starts
      row_scanned u scan = go (dec_lt v (2 ^ (D + 32)))
        where
          D : ℕ
          D = w - low - i - 2

          digits : w ≤ suc (low + suc i + D)
          digits = omega arith

          places : suc n ≤ 32
          places = omega (arith, t.room)

          go : Dec (v < 2 ^ (D + 32)) → Scanned G c i hs low w u
          go (yes l) =
              scan_all G 32 64 c i n σ (slot b) mask hs s v leads low w D places digits u (omega (arith, t.least)) l
              ((scan.few l).lowest (suc i) hs s.marks)
          go (no l) =
              subst (Scanned G c i hs low w) (sym (scan.many (omega arith)))
              (scan_none G 32 64 c i n σ (slot b) mask hs s v leads low w D places digits (omega arith))

  pub row_apart : Apart b mask row
  row_apart = record { some = sum_some path.G path.agree path.hs path.state }

  module _ {v : ℕ} (reduced : Reduced b mask row v) where
    pub row_leads : Leading v
    row_leads = v_leads path.G path.agree path.hs path.state v reduced

    pub path_taken : Path table m c (i + 1) (n + 1) σ (set b (place v) v) (with_slot mask v)
    path_taken = record {
      G = path.G;
      hs = path.hs;
      agree = path.agree;
      state = taken_more path.G path.agree path.hs path.state v reduced;
      words = path.words;
      odd = path.odd;
      sized = length-set b (place v) v ∙ path.sized;
    }

    pub searched_taken : {f l u r : ℕ} {z : List ℕ} → Scanning σ v mask (w - low - i - 2) b w u
        → Searched table m f c (n + 1) (i + 1) l low u σ (with_slot mask v) (set b (place v) v) z r → Searched table m f c n i l low w σ mask b z r
    searched_taken {f} {l} {u} {r} {z} scan x = record {
      less = omega (arith, scan.less, x.less);
      found = found;
      kept = record { same = same; sized = x.kept.sized ∙ length-set b (place v) v };
    }
      where
        take_on : (G : ℕ → ℕ → ℕ) (c : ℕ) (hs : List ℕ) → 1 ≤ c → Scanned G c i hs low w u → Found G f c (i + 1) l hs low u r → Found G f c i l hs low w r
        take_on G zero hs some sc y = absurd (omega arith)
        take_on G (suc c) hs some sc y =
            let e : i + 1 ≡ suc i = omega arith in
            take sc (subst (λ (i : ℕ). Found G f (suc c) i l hs low u r) e y)

        found : (G : ℕ → ℕ → ℕ) → Rows G table m c → (hs : List ℕ) → Taken G c i n σ b mask hs → Found G f c i l hs low w r
        found G agree hs s = take_on G c hs t.some (row_scanned G agree hs s v reduced u scan) (x.found G agree hs (taken_more G agree hs s v reduced))

        same : (h : ℕ) → digit_at h mask ≡ 1 → slot z h ≡ slot b h
        same h one =
            let k = mask_is path.G path.agree path.hs path.state v reduced in
            let apart : h ≡ degree v → ⊥ = λ e. omega (arith, ap (λ (z : ℕ). digit_at z mask) e, reduced.free) in
            x.kept.same h (ap (digit_at h) k ∙ digit_other h (degree v) mask apart ∙ one)
            ∙ get_or-set_other b (place v) h v 0 (λ e. apart (e ∙ row_leads.is))
