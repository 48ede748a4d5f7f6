-- Labels. A label says which rows a sum has: its digit at place k is 1 where the k-th oldest row is among them. Of the rows of a share, coordinate by
-- coordinate, the label has as many digits at a coordinate as rows stand up to the newest used there, so it tells the smallest share whose rows make the
-- sum. A row is packed above its place, and a sum of packed rows is the sum of the rows above its label.
-- Assumes nothing.
use Rattle.std.specs.Prelude.{◌≡◌, refl}
use Rattle.std.proofs.Common.{sym, ap₂, ◌∙◌, subst, pow-suc, zero-mul, add-zero, length-append, pow_pos, pow-add}
use Rattle.std.proofs.Math.Path.{ap}
use mathlib.Core.List.{List, [], ◌∷◌, ◌++◌}
use Prim.Native.Nat.{ℕ, zero, suc, ◌+◌, ◌*◌, ◌/◌, ◌%◌, ◌^◌, ◌≤◌, ◌<◌}
use native.Mathlib.Omega.{arith}
use Rattle.std.proofs.Math.Decide.{ℕ_discrete}
use Rattle.std.proofs.lemmas.Nat.{xor_block}
use Rattle.std.specs.Int.Bits.{xor_shifted}
use Rattle.std.proofs.Math.ListN.{length}
use Rattle.std.proofs.Math.Pow.{high, low}
use Rattle.definitions.specs.Polynomial.{◌⊕◌}
use Rattle.polynomial_laws.specs.Sum.{⊕_lt, ⊕_zero, zero-⊕, ⊕_assoc, ⊕_swap}
use Rattle.polynomial_laws.specs.Degree.{HasDegree, power_degree, add_degree}
use Rattle.net_laws.specs.Net.{total}
use Rattle.net_laws.specs.Share.{first_rows, share_rows, length_first_rows, length_share_rows}
use Rattle.relation_laws.specs.Size.{size, size_le, size_degree}
use Rattle.relation_laws.specs.Relation.{Sum, none, skip, add, sum_is, sum_join, Parts, sum_parts}
use Rattle.relation_laws.specs.Ranges.{Within, none, more}

-- ---- definitions

-- The rows that the label a names have the sum v.
pub data Picks : List ℕ → ℕ → ℕ → Type 0 where
  nothing : {a v : ℕ} → a ≡ 0 → v ≡ 0 → Picks [] a v
  omit : {r a v : ℕ} {rs : List ℕ} → Picks rs a v → Picks (r ∷ rs) a v
  pick : {r a b u v : ℕ} {rs : List ℕ} → Picks rs b u → a ≡ 2 ^ length rs ⊕ b → v ≡ r ⊕ u → Picks (r ∷ rs) a v

-- How many rows, up to the newest used of each coordinate, a label takes.
unfoldable pub label_weight : List ℕ → ℕ → ℕ
label_weight [] a = 0
label_weight (h ∷ hs) a = size (a / 2 ^ total hs) + label_weight hs (a % 2 ^ total hs)

-- A row above its place.
unfoldable pub pack : ℕ → ℕ → ℕ → ℕ
pack K r n = r * 2 ^ K ⊕ 2 ^ n

unfoldable pub packed : ℕ → List ℕ → List ℕ
packed K [] = []
packed K (r ∷ rs) = pack K r (length rs) ∷ packed K rs

-- ---- numbers
pub shl-⊕ : (k a b : ℕ) → (a ⊕ b) * 2 ^ k ≡ a * 2 ^ k ⊕ b * 2 ^ k
unfolding ◌⊕◌
shl-⊕ k a b = sym (simp add-zero at (xor_block k a b 0 0 (pow_pos k) (pow_pos k)))

pub place_joined : (l n b c : ℕ) → 2 ^ (l + n) ⊕ (b * 2 ^ n ⊕ c) ≡ (2 ^ l ⊕ b) * 2 ^ n ⊕ c
place_joined l n b c =
    sym (⊕_assoc (2 ^ (l + n)) (b * 2 ^ n) c) ∙ ap (λ (z : ℕ). (z ⊕ b * 2 ^ n) ⊕ c) (pow-add 2 l n)
    ∙ ap (λ (z : ℕ). z ⊕ c) (sym (shl-⊕ n (2 ^ l) b))

-- ---- picked sums
pub picks_is : {rs : List ℕ} {a b v : ℕ} → a ≡ b → Picks rs a v → Picks rs b v
picks_is {rs} {v = v} e s = subst (λ (a : ℕ). Picks rs a v) e s

picks_value : {rs : List ℕ} {a u v : ℕ} → u ≡ v → Picks rs a u → Picks rs a v
picks_value {rs} {a} e s = subst (Picks rs a) e s

pub picks_lt : {rs : List ℕ} {a v : ℕ} → Picks rs a v → a < 2 ^ length rs
picks_lt (nothing e h) = omega arith
picks_lt (omit {rs = rs} p) = omega (arith, picks_lt p, pow-suc 2 (length rs))
picks_lt (pick {b = b} {rs = rs} p e h) =
    let n = length rs in
    let l : b < 2 ^ suc n = omega (arith, picks_lt p, pow-suc 2 n) in
    rw e (⊕_lt (suc n) (2 ^ n) b (omega (arith, pow_pos n, pow-suc 2 n)) l)

pub picks_sum : {rs : List ℕ} {a v : ℕ} → Picks rs a v → Sum rs v
picks_sum (nothing e h) = none h
picks_sum (omit p) = skip (picks_sum p)
picks_sum (pick p e h) = add (picks_sum p) h

pub sum_picks : {rs : List ℕ} {v : ℕ} → Sum rs v → (a : ℕ) × Picks rs a v
sum_picks (none e) = (0, nothing refl e)
sum_picks (skip s) = let p = sum_picks s in (p.0, omit p.1)
sum_picks (add {rs = rs} s e) = let p = sum_picks s in (2 ^ length rs ⊕ p.0, pick p.1 refl e)

pub picks_join : {xs bs : List ℕ} {a b u v : ℕ} → Picks xs a u → Picks bs b v → Picks (xs ++ bs) (a * 2 ^ length bs ⊕ b) (u ⊕ v)
picks_join {bs = bs} {b = b} {v = v} (nothing e h) p =
    let label : b ≡ 0 * 2 ^ length bs ⊕ b = sym (ap (λ (z : ℕ). z ⊕ b) (zero-mul (2 ^ length bs)) ∙ zero-⊕ b) in
    picks_is (label ∙ ap (λ (z : ℕ). z * 2 ^ length bs ⊕ b) (sym e)) (picks_value (sym (ap (λ (z : ℕ). z ⊕ v) h ∙ zero-⊕ v)) p)
picks_join (omit q) p = omit (picks_join q p)
picks_join {bs = bs} {b = b} {v = v} (pick {r} {b = t} {u = s} {rs = rs} q e h) p =
    let n = length bs in
    let label : (2 ^ length rs ⊕ t) * 2 ^ n ⊕ b ≡ 2 ^ length (rs ++ bs) ⊕ (t * 2 ^ n ⊕ b) =
    sym (ap (λ (z : ℕ). 2 ^ z ⊕ (t * 2 ^ n ⊕ b)) (length-append rs bs) ∙ place_joined (length rs) n t b) in
    pick (picks_join q p) (ap (λ (z : ℕ). z * 2 ^ n ⊕ b) e ∙ label) (ap (λ (z : ℕ). z ⊕ v) h ∙ ⊕_assoc r s v)

pub record PickedParts (xs bs : List ℕ) (a v : ℕ) : Type 0 where
  pub left_label : ℕ
  pub right_label : ℕ
  pub left : ℕ
  pub right : ℕ
  pub of_left : Picks xs left_label left
  pub of_right : Picks bs right_label right
  pub label : a ≡ left_label * 2 ^ length bs ⊕ right_label
  pub sum : v ≡ left ⊕ right

pub picks_parts : (xs bs : List ℕ) {a v : ℕ} → Picks (xs ++ bs) a v → PickedParts xs bs a v
picks_parts [] bs {a} {v} p = record {
  left_label = 0;
  right_label = a;
  left = 0;
  right = v;
  of_left = nothing refl refl;
  of_right = p;
  label = sym (ap (λ (z : ℕ). z ⊕ a) (zero-mul (2 ^ length bs)) ∙ zero-⊕ a);
  sum = sym (zero-⊕ v);
}
picks_parts (x ∷ xs) bs (omit p) =
    let q = picks_parts xs bs p in
    record {
      left_label = q.left_label;
      right_label = q.right_label;
      left = q.left;
      right = q.right;
      of_left = omit q.of_left;
      of_right = q.of_right;
      label = q.label;
      sum = q.sum;
    }
picks_parts (x ∷ xs) bs (pick p e h) =
    let q = picks_parts xs bs p in
    let n = length bs in
    record {
      left_label = 2 ^ length xs ⊕ q.left_label;
      right_label = q.right_label;
      left = x ⊕ q.left;
      right = q.right;
      of_left = pick q.of_left refl refl;
      of_right = q.of_right;
      label =
          e ∙ ap₂ (λ (z y : ℕ). 2 ^ z ⊕ y) (length-append xs bs) q.label ∙ place_joined (length xs) n q.left_label q.right_label;
      sum = h ∙ ap (λ (z : ℕ). x ⊕ z) q.sum ∙ sym (⊕_assoc x q.left q.right);
    }

-- ---- packed rows
pub picks_packed : (K : ℕ) {rs : List ℕ} {a v : ℕ} → Picks rs a v → Sum (packed K rs) (v * 2 ^ K ⊕ a)
unfolding packed pack
picks_packed K {a = a} {v} (nothing e h) = none (ap₂ (λ (y z : ℕ). y * 2 ^ K ⊕ z) h e ∙ ⊕_zero (0 * 2 ^ K) ∙ zero-mul (2 ^ K))
picks_packed K (omit p) = skip (picks_packed K p)
picks_packed K (pick {r} {a} {b} {u} {v} {rs} p e h) =
    let n = length rs in
    add (picks_packed K p)
    (ap₂ (λ (y z : ℕ). y * 2 ^ K ⊕ z) h e ∙ ap (λ (z : ℕ). z ⊕ (2 ^ n ⊕ b)) (shl-⊕ K r u) ∙ ⊕_swap (r * 2 ^ K) (u * 2 ^ K) (2 ^ n) b)

pub record Unpacked (K : ℕ) (rs : List ℕ) (x : ℕ) : Type 0 where
  pub label : ℕ
  pub value : ℕ
  pub picks : Picks rs label value
  pub is : x ≡ value * 2 ^ K ⊕ label

pub unpack : (K : ℕ) (rs : List ℕ) {x : ℕ} → Sum (packed K rs) x → Unpacked K rs x
unfolding packed pack
unpack K [] (none e) = record { label = 0; value = 0; picks = nothing refl refl; is = e ∙ sym (⊕_zero (0 * 2 ^ K) ∙ zero-mul (2 ^ K)) }
unpack K (r ∷ rs) (skip s) = let p = unpack K rs s in record { label = p.label; value = p.value; picks = omit p.picks; is = p.is }
unpack K (r ∷ rs) (add s e) =
    let p = unpack K rs s in
    let n = length rs in
    record {
      label = 2 ^ n ⊕ p.label;
      value = r ⊕ p.value;
      picks = pick p.picks refl refl;
      is =
          e ∙ ap (λ (z : ℕ). (r * 2 ^ K ⊕ 2 ^ n) ⊕ z) p.is ∙ ⊕_swap (r * 2 ^ K) (2 ^ n) (p.value * 2 ^ K) p.label
          ∙ ap (λ (z : ℕ). z ⊕ (2 ^ n ⊕ p.label)) (sym (shl-⊕ K r p.value));
    }

-- ---- what a label says of shares
⊕-above : (k a b : ℕ) → b < 2 ^ k → a * 2 ^ k ⊕ b ≡ a * 2 ^ k + b
unfolding ◌⊕◌
⊕-above k a b l = xor_shifted a k b l

pub above : (k a b : ℕ) → b < 2 ^ k → (a * 2 ^ k ⊕ b) / 2 ^ k ≡ a
above k a b l = rw (⊕-above k a b l) (high a k l)

pub beneath : (k a b : ℕ) → b < 2 ^ k → (a * 2 ^ k ⊕ b) % 2 ^ k ≡ b
beneath k a b l = rw (⊕-above k a b l) (low a k l)

pub label_parts : (h : ℕ) (hs : List ℕ) (a b : ℕ) → b < 2 ^ total hs → label_weight (h ∷ hs) (a * 2 ^ total hs ⊕ b) ≡ size a + label_weight hs b
unfolding label_weight
label_parts h hs a b l = ap₂ (λ (y z : ℕ). size y + label_weight hs z) (above (total hs) a b l) (beneath (total hs) a b l)

-- the newest row used is the last digit
pub newest_degree : (i b : ℕ) → b < 2 ^ i → HasDegree (2 ^ i ⊕ b) i
newest_degree i b l = add_degree (power_degree i) l

first_sum_is : (f : ℕ → ℕ) {d e v : ℕ} → d ≡ e → Sum (first_rows f d) v → Sum (first_rows f e) v
first_sum_is f {v = v} e s = subst (λ (d : ℕ). Sum (first_rows f d) v) e s

first_sum : (f : ℕ → ℕ) (h : ℕ) {a v : ℕ} → Picks (first_rows f h) a v → Sum (first_rows f (size a)) v
unfolding first_rows size
first_sum f zero (nothing e h) = first_sum_is f (sym (ap size e)) (none h)
first_sum f (suc k) (omit p) = first_sum f k p
first_sum f (suc k) (pick {a = a} {b = b} p e h) = first_sum_is f (sym digits) (add (picks_sum p) h)
  where
    small : b < 2 ^ k
    small = subst (λ (z : ℕ). b < 2 ^ z) (length_first_rows f k) (picks_lt p)

    digits : size a ≡ suc k
    digits = ap size (e ∙ ap (λ (z : ℕ). 2 ^ z ⊕ b) (length_first_rows f k)) ∙ size_degree (newest_degree k b small)

first_wider : (f : ℕ → ℕ) (d h : ℕ) {a v : ℕ} → d ≤ h → Picks (first_rows f d) a v → Picks (first_rows f h) a v
unfolding first_rows
first_wider f d zero {a} {v} l p = let e : d ≡ 0 = omega arith in subst (λ (h : ℕ). Picks (first_rows f h) a v) e p
first_wider f d (suc h) {a} {v} l p = go (ℕ_discrete d (suc h)) (λ b. first_wider f d h b p)
  where
    go : Dec (d ≡ suc h) → (d ≤ h → Picks (first_rows f h) a v) → Picks (first_rows f (suc h)) a v
    go (yes e) ih = subst (λ (h : ℕ). Picks (first_rows f h) a v) e p
    go (no n) ih = omit (ih (omega arith))

-- the label has fewer digits than rows
first_size : (f : ℕ → ℕ) (d : ℕ) {a v : ℕ} → Picks (first_rows f d) a v → size a ≤ d
first_size f d {a} p = (size_le a d).0 (subst (λ (z : ℕ). a < 2 ^ z) (length_first_rows f d) (picks_lt p))

module _ (G : ℕ → ℕ → ℕ) where
  pub rows_lt : (c : ℕ) (hs : List ℕ) {a v : ℕ} → Picks (share_rows G c hs) a v → a < 2 ^ total hs
  rows_lt c hs {a} p = subst (λ (z : ℕ). a < 2 ^ z) (length_share_rows G c hs) (picks_lt p)

  -- What a label names is a sum of rows of a share of its weight,
  pub record Share (c : ℕ) (hs : List ℕ) (a v : ℕ) : Type 0 where
    pub ds : List ℕ
    pub length_ds : length ds ≡ length hs
    pub weighs : total ds ≡ label_weight hs a
    pub sum : Sum (share_rows G c ds) v

  label_more : (c h : ℕ) (hs : List ℕ) (a b : ℕ) → b < 2 ^ length (share_rows G c hs)
      → label_weight (h ∷ hs) (a * 2 ^ length (share_rows G c hs) ⊕ b) ≡ size a + label_weight hs b
  label_more c h hs a b l = rw (length_share_rows G c hs) (label_parts h hs a b (subst (λ (z : ℕ). b < 2 ^ z) (length_share_rows G c hs) l))

  pub label_share : (c : ℕ) (hs : List ℕ) {a v : ℕ} → Picks (share_rows G c hs) a v → Share c hs a v
  unfolding share_rows label_weight total
  label_share c [] p = record { ds = []; length_ds = refl; weighs = refl; sum = picks_sum p }
  label_share c (h ∷ hs) {a} {v} p =
      let q = picks_parts (first_rows (G c) h) (share_rows G (suc c) hs) p in join q (label_share (suc c) hs q.of_right)
    where
      join : (q : PickedParts (first_rows (G c) h) (share_rows G (suc c) hs) a v) → Share (suc c) hs q.right_label q.right → Share c (h ∷ hs) a v
      join q s =
          record {
            ds = size q.left_label ∷ s.ds;
            length_ds = ap suc s.length_ds;
            weighs =
                omega (
                  arith,
                  s.weighs,
                  ap (label_weight (h ∷ hs)) q.label,
                  label_more (suc c) h hs q.left_label q.right_label (picks_lt q.of_right),
                );
            sum = sum_is (sym q.sum) (sum_join (first_sum (G c) h q.of_left) s.sum);
          }

  -- and a sum of rows of a share has a label that weighs no more.
  pub record Label (c : ℕ) (hs : List ℕ) (most v : ℕ) : Type 0 where
    pub label : ℕ
    pub picks : Picks (share_rows G c hs) label v
    pub weighs : label_weight hs label ≤ most

  pub share_label : {ls hs ds : List ℕ} → Within ls hs ds → (c v : ℕ) → Sum (share_rows G c ds) v → Label c hs (total ds) v
  unfolding share_rows label_weight total
  share_label none c v s = let p = sum_picks s in record { label = p.0; picks = p.1; weighs = omega arith }
  share_label (more {l} {d} {h} {ls} {hs} {ds} le most x) c v s =
      let q = sum_parts (first_rows (G c) d) (share_rows G (suc c) ds) s in join q (share_label x (suc c) q.right q.of_right)
    where
      join : (q : Parts (first_rows (G c) d) (share_rows G (suc c) ds) v) → Label (suc c) hs (total ds) q.right → Label c (h ∷ hs) (d + total ds) v
      join q t =
          let (a, p) = sum_picks q.of_left in
          record {
            label = a * 2 ^ length (share_rows G (suc c) hs) ⊕ t.label;
            picks = picks_value (sym q.sum) (picks_join (first_wider (G c) d h most p) t.picks);
            weighs = omega (arith, t.weighs, first_size (G c) d p, label_more (suc c) h hs a t.label (picks_lt t.picks));
          }
