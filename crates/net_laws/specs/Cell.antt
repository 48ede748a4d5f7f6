-- Counting in cells. A cell of some rows is a test of h that asks for one digit of each row's pairing with h. Rows are free over the powers below
-- x^d if each, reduced by the older ones, is at least 2^d. Then some vector turns the newest row's digit and no other, and translating by it
-- halves the count: every cell has its share of the 2^m points, 1/2 for each row and power. A row that is not free asks nothing new of the cell
-- that asks for zeros, which so has twice its share at least.
-- Assumes nothing.
use Rattle.std.specs.Prelude.{◌≡◌, refl, ◌⊎◌, Bool, true, not, ◌&&◌, List, [], ◌∷◌, eqb, length}
use Rattle.std.proofs.Common.{sym, ap, ap₂, ◌∙◌, suc-add, pow_mono, pow_pos, eqb-true, eq-eqb}
use Rattle.std.proofs.Math.Logic.{inl, inr}
use Rattle.std.proofs.Math.Bool.{and_comm, and-eq-true_iff}
use Prim.Native.Nat.{ℕ, suc, ◌+◌, ◌*◌, ◌^◌, ◌≤◌, ◌<◌}
use Rattle.std.proofs.Math.Nat.{pow-suc}
use native.Mathlib.Omega.{arith}
use Rattle.std.proofs.Math.Decide.{dec_le, ℕ_discrete}
use Rattle.std.proofs.Math.Pow.{pow-lt}
use Rattle.definitions.specs.Number.{count}
use Rattle.definitions.specs.Polynomial.{◌⊕◌, degree}
use Rattle.polynomial_laws.specs.Digits.{Digit, off, on, digit}
use Rattle.polynomial_laws.specs.Sum.{⊕_comm, ⊕_zero, ⊕_lt, ⊕_injective}
use Rattle.polynomial_laws.specs.Degree.{degree_is, degree_least}
use Rattle.number_laws.specs.Truth.{truth_equal}
use Rattle.number_laws.specs.Count.{count_ext, count_all, count_split, count_permute}
use Rattle.polynomial_laws.specs.Additive.{Additive, zero_additive, additive_agree, digit_at, digit_at_lt, digit_at_additive, digit_at_small, digit_at_leading}
use Rattle.net_laws.specs.Reduction.{reduced, Each, each_map, reduce, basis, reduce_additive, reduce_le, reduced_rows, reduced_unseen}
use Rattle.net_laws.specs.Pairing.{pairing, pairing_lt, pairing_additive, pairing_additive_left, pairing_zero, partner, partner_lt, partner_pairs}

-- ---- definitions

unfoldable pub Free : ℕ → List ℕ → Type 0
Free d [] = Unit {0}
Free d (r ∷ rs) = (2 ^ d ≤ reduced rs r) × Free d rs

-- The test T asks of h what P asks, and one digit of the pairing with r.
pub record Asks (p r : ℕ) (P T : ℕ → Bool) : Type 0 where
  pub small : r < 2 ^ degree p
  pub asked : ℕ
  pub binary : asked < 2
  pub says : (h : ℕ) → T h ≡ (eqb (pairing p r h) asked && P h)

-- A cell of rows rs and of the d lowest powers of x, which stand behind them.
pub data Cell (p : ℕ) : ℕ → List ℕ → (ℕ → Bool) → Type 0 where
  whole : {T : ℕ → Bool} → ((h : ℕ) → T h ≡ true) → Cell p 0 [] T
  at_power : {d : ℕ} {P T : ℕ → Bool} → Cell p d [] P → Asks p (2 ^ d) P T → Cell p (suc d) [] T
  at_row_lem : {d r : ℕ} {rs : List ℕ} {P T : ℕ → Bool} → Cell p d rs P → Asks p r P T → Cell p d (r ∷ rs) T

-- How many points pass a test.
abbrev pub passing : ℕ → (ℕ → Bool) → ℕ
passing p T = count (2 ^ degree p) T

-- of two digits one is asked for, or the other
eqb_turned : {a c : ℕ} → Digit a → Digit c → eqb (a ⊕ 1) c ≡ not (eqb a c)
unfolding ◌⊕◌
eqb_turned off off = refl
eqb_turned off on = refl
eqb_turned on off = refl
eqb_turned on on = refl

twice : (a b n : ℕ) → a * 2 ≡ b → a * 2 ^ suc n ≡ b * 2 ^ n
twice a b n e = rw (pow-suc 2 n) (omega (arith, ap (λ (x : ℕ). x * 2 ^ n) e))

module _ (p : ℕ) (pos : 0 < p) where
  -- ---- one question
  module _ {r : ℕ} {P T : ℕ → Bool} (q : Asks p r P T) where
    asks_kept : (v : ℕ) → pairing p r v ≡ 0 → ((h : ℕ) → P (h ⊕ v) ≡ P h) → (h : ℕ) → T (h ⊕ v) ≡ T h
    asks_kept v none keep h =
        q.says (h ⊕ v)
        ∙ ap₂ (λ (x : ℕ) (b : Bool). eqb x q.asked && b) (pairing_additive p pos r h v ∙ ap (λ (x : ℕ). pairing p r h ⊕ x) none ∙ ⊕_zero (pairing p r h)) (keep h)
        ∙ sym (q.says h)

    -- translating by a vector that turns this digit, and no other, halves
    asks_half : (v : ℕ) → v < 2 ^ degree p → pairing p r v ≡ 1 → ((h : ℕ) → P (h ⊕ v) ≡ P h) → passing p T * 2 ≡ passing p P
    asks_half v small turns keep =
        let n = 2 ^ degree p in
        let is : ℕ → Bool = λ h. eqb (pairing p r h) q.asked in
        let turned : (h : ℕ) → is (h ⊕ v) ≡ not (is h) = λ h. ap (λ (x : ℕ). eqb x q.asked) (pairing_additive p pos r h v
        ∙ ap (λ (x : ℕ). pairing p r h ⊕ x) turns) ∙ eqb_turned (digit _ (pairing_lt p pos r h)) (digit _ q.binary) in
        let here : count n T ≡ count n (λ h. P h && is h) = count_ext n T _ (λ h l. q.says h ∙ and_comm (is h) (P h)) in
        let there : count n (λ h. T (h ⊕ v)) ≡ count n (λ h. P h && not (is h)) =
        count_ext n _ _ (λ h l. q.says (h ⊕ v) ∙ ap₂ ◌&&◌ (turned h) (keep h) ∙ and_comm (not (is h)) (P h)) in
        let moved : count n (λ h. T (h ⊕ v)) ≡ count n T =
        count_permute n (λ h. h ⊕ v) (λ h l. ⊕_lt (degree p) h v l small) (λ h k a b e. ⊕_injective v h k (⊕_comm v h ∙ e ∙ ⊕_comm k v)) T in
        omega (arith, count_split n P is)

    asks_out : (h : ℕ) → T h ≡ true → (pairing p r h ≡ q.asked) × (P h ≡ true)
    asks_out h t = let both = (and-eq-true_iff (eqb (pairing p r h) q.asked) (P h)).0 (sym (q.says h) ∙ t) in (eqb-true _ _ both.0, both.1)

    -- what 0 passes asks for the digit 0
    asks_zero : T 0 ≡ true → q.asked ≡ 0
    asks_zero t = sym (asks_out 0 t).0 ∙ pairing_zero p pos r

  -- ---- free rows: every cell has its share
  kept : {d : ℕ} {rs : List ℕ} {T : ℕ → Bool} → Cell p d rs T → (v : ℕ) (f : ℕ → ℕ) → ((x : ℕ) → x < 2 ^ degree p → pairing p x v ≡ f x)
      → Each (λ r. f r ≡ 0) rs → ((i : ℕ) → i < d → f (2 ^ i) ≡ 0) → (h : ℕ) → T (h ⊕ v) ≡ T h
  kept (whole all) v f pairs rows powers h = all (h ⊕ v) ∙ sym (all h)
  kept (at_power {d} c q) v f pairs rows powers h =
      asks_kept q v (pairs (2 ^ d) q.small ∙ powers d (omega arith)) (kept c v f pairs rows (λ i l. powers i (omega arith))) h
  kept (at_row_lem {r = r} c q) v f pairs rows powers h = asks_kept q v (pairs r q.small ∙ rows.0) (kept c v f pairs rows.1 powers) h

  cell_half : {d r : ℕ} {rs : List ℕ} {P T : ℕ → Bool} → 2 ^ d ≤ reduced rs r → Cell p d rs P → Asks p r P T
      → passing p T * 2 ≡ passing p P
  cell_half {d} {r} {rs} new c q =
      let k = degree (reduced rs r) in
      let f : ℕ → ℕ = λ x. digit_at k (reduced rs x) in
      let sums : Additive f = λ a b. ap (digit_at k) (reduce_additive (basis rs) a b) ∙ digit_at_additive k (reduced rs a) (reduced rs b) in
      let binary : (x : ℕ) → f x < 2 = λ x. digit_at_lt k (reduced rs x) in
      let v = partner p pos f sums binary in
      let pairs = partner_pairs p pos f sums binary in
      let low : (x : ℕ) → reduced rs x < 2 ^ d → f x ≡ 0 = λ x l. digit_at_small k (reduced rs x) (omega (arith, pow_mono (degree_least (reduced rs r) d new))) in
      asks_half q v (partner_lt p pos f sums binary)
      (pairs r q.small ∙ digit_at_leading k (reduced rs r) (degree_is (reduced rs r) (omega (arith, pow_pos d))))
      (kept c v f pairs (each_map (λ x. reduced rs x ≡ 0) (λ x. f x ≡ 0) (λ x e. low x (omega (arith, pow_pos d))) rs (reduced_rows rs))
      (λ i l. low (2 ^ i) (omega (arith, reduce_le (basis rs) (2 ^ i), pow-lt l))))

  pub cell_count : {d : ℕ} {rs : List ℕ} {T : ℕ → Bool} → Cell p d rs T → Free d rs → passing p T * 2 ^ (length rs + d) ≡ 2 ^ degree p
  unfolding Free basis reduce
  cell_count (whole all) free = omega (arith, count_all (2 ^ degree p) _ (λ h l. all h))
  cell_count (at_power {d} c q) free =
      let e : 0 + suc d ≡ suc (0 + d) = omega arith in
      rw e (twice _ _ (0 + d) (cell_half {rs = []} (omega arith) c q) ∙ cell_count c tt)
  cell_count (at_row_lem {d} {rs = rs} c q) free = rw (suc-add (length rs) d) (twice _ _ (length rs + d) (cell_half free.0 c q) ∙ cell_count c free.1)

  -- ---- the cell that asks for zeros
  -- a point in it is paired to 0 with the rows and the powers
  zeros : {d : ℕ} {rs : List ℕ} {T : ℕ → Bool} → Cell p d rs T → T 0 ≡ true → (h : ℕ) → T h ≡ true
      → Each (λ r. pairing p r h ≡ 0) rs × ((i : ℕ) → i < d → pairing p (2 ^ i) h ≡ 0)
  zeros (whole all) z h t = (tt, λ i l. absurd (omega arith))
  zeros (at_row_lem c q) z h t = let ih = zeros c (asks_out q 0 z).1 h (asks_out q h t).1 in (((asks_out q h t).0 ∙ asks_zero q z, ih.0), ih.1)
  zeros (at_power {d} c q) z h t = (tt, λ i l. at i l (ℕ_discrete i d) (zeros c (asks_out q 0 z).1 h (asks_out q h t).1).1)
    where
      at : (i : ℕ) → i < suc d → Dec (i ≡ d) → ((i : ℕ) → i < d → pairing p (2 ^ i) h ≡ 0) → pairing p (2 ^ i) h ≡ 0
      at i l (yes e) old = rw e ((asks_out q h t).0 ∙ asks_zero q z)
      at i l (no e) old = old i (omega arith)

  -- a row that is not free asks nothing new
  cell_same : {d r : ℕ} {rs : List ℕ} {P T : ℕ → Bool} → reduced rs r < 2 ^ d → Cell p d rs P → Asks p r P T → T 0 ≡ true → passing p T ≡ passing p P
  cell_same {d} {r} {rs} {P} {T} low c q z = count_ext (2 ^ degree p) T P (λ h l. truth_equal (T h) (P h) (λ t. (asks_out q h t).1, passes h))
    where
      none : (h : ℕ) → P h ≡ true → pairing p r h ≡ 0
      none h t =
          let all = zeros c (asks_out q 0 z).1 h t in
          let g : ℕ → ℕ = λ x. pairing p x h in
          let sums : Additive g = pairing_additive_left p pos h in
          sym (reduced_unseen g sums rs all.0 r) ∙ additive_agree g (λ x. 0) sums zero_additive d all.1 (reduced rs r) low

      passes : (h : ℕ) → P h ≡ true → T h ≡ true
      passes h t = q.says h ∙ ap₂ ◌&&◌ (eq-eqb _ _ (none h t ∙ sym (asks_zero q z))) t

  -- it has its share, or twice that at least
  zeros_count : {d : ℕ} {rs : List ℕ} {T : ℕ → Bool} → Cell p d rs T → T 0 ≡ true → Free d rs ⊎ (2 * 2 ^ degree p ≤ passing p T * 2 ^ (length rs + d))
  unfolding Free
  zeros_count (whole all) z = inl tt
  zeros_count (at_power c q) z = inl tt
  zeros_count (at_row_lem {d} {r} {rs} {P} {T} c q) z = rw (suc-add (length rs) d) (go (dec_le (2 ^ d) (reduced rs r)) (zeros_count c (asks_out q 0 z).1))
    where
      go : Dec (2 ^ d ≤ reduced rs r) → Free d rs ⊎ (2 * 2 ^ degree p ≤ passing p P * 2 ^ (length rs + d))
          → Free d (r ∷ rs) ⊎ (2 * 2 ^ degree p ≤ passing p T * 2 ^ suc (length rs + d))
      go (yes l) (inl f) = inl (l, f)
      go (yes l) (inr b) = inr (omega (arith, twice _ _ (length rs + d) (cell_half l c q)))
      go (no l) (inl f) = inr (rw (cell_same (omega arith) c q z, pow-suc 2 (length rs + d)) (omega (arith, cell_count c f)))
      go (no l) (inr b) = inr (rw (cell_same (omega arith) c q z, pow-suc 2 (length rs + d)) (omega arith))

  pub cell_free : {d : ℕ} {rs : List ℕ} {T : ℕ → Bool} → Cell p d rs T → T 0 ≡ true → passing p T * 2 ^ (length rs + d) ≡ 2 ^ degree p → Free d rs
  cell_free {d} {rs} {T} c z share = go (zeros_count c z)
    where
      go : Free d rs ⊎ (2 * 2 ^ degree p ≤ passing p T * 2 ^ (length rs + d)) → Free d rs
      go (inl free) = free
      go (inr over) = absurd (omega (arith, pow_pos (degree p)))
