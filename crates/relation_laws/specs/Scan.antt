-- Scanning a row. Packed rows over labels of K digits: a packed sum with the newest row is a relation above its label, and its weight can be read off. So
-- where the packed sums with the newest row that are below 2^(D + K) are all met, and no others but packed sums with the newest row, the least of the
-- weights met is what the search over ranges asks of a scanned row.
-- Assumes nothing.
use Rattle.std.specs.Prelude.{◌≡◌, ◌⊎◌, List, ◌∷◌, ℕ, suc, ◌+◌, ◌*◌, ◌/◌, ◌%◌, ◌^◌, ◌≤◌, ◌<◌, length}
use Rattle.std.proofs.Math.Path.{refl, ap, subst}
use Rattle.std.proofs.Common.{sym, ap₂, ◌∙◌, pow-suc, arith, pow_pos, pow_mono, shl_lt}
use Rattle.std.proofs.Math.Logic.{inl, inr}
use Rattle.definitions.specs.Polynomial.{◌⊕◌}
use Rattle.polynomial_laws.specs.Sum.{⊕_lt, ⊕_swap}
use Rattle.net_laws.specs.Net.{total}
use Rattle.net_laws.specs.Share.{first_rows, share_rows, length_first_rows, length_share_rows}
use Rattle.relation_laws.specs.Size.{size, size_le, size_degree}
use Rattle.relation_laws.specs.Relation.{Sum, Newest, sum_is, sum_join, sum_parts}
use Rattle.relation_laws.specs.Ranges.{Within, Scanned}
use Rattle.relation_laws.specs.Label.{Picks, label_weight, pack, packed, shl-⊕, newest_degree, place_joined, picks_is, picks_lt, picks_sum, sum_picks}
use Rattle.relation_laws.specs.Label.{picks_join, picks_parts, picks_packed, unpack, above, beneath, label_parts, rows_lt, label_share, share_label}

-- ---- definitions

-- The weight of a packed sum.
unfoldable pub weight : ℕ → List ℕ → ℕ → ℕ
weight K hs x = size (x / 2 ^ K) + label_weight hs (x % 2 ^ K)

-- What is met are sums of p and some vectors, all that are below 2^L among them.
pub record Meets (ps : List ℕ) (p L : ℕ) (E : ℕ → Type 0) : Type 0 where
  pub sound : (y : ℕ) → E y → (u : ℕ) × Sum ps u × (y ≡ p ⊕ u)
  pub complete : (u : ℕ) → Sum ps u → p ⊕ u < 2 ^ L → E (p ⊕ u)

-- k is the least of w and what g says of the numbers met.
pub record Lowest (E : ℕ → Type 0) (g : ℕ → ℕ) (w k : ℕ) : Type 0 where
  pub less : k ≤ w
  pub lower : (y : ℕ) → E y → k ≤ g y
  pub from : (k ≡ w) ⊎ ((y : ℕ) × E y × (k ≡ g y))

-- ---- the newest row's label
packed_joined : (K r U n b : ℕ) → (r * 2 ^ K ⊕ 2 ^ n) ⊕ (U * 2 ^ K ⊕ b) ≡ (r ⊕ U) * 2 ^ K ⊕ (2 ^ n ⊕ b)
packed_joined K r U n b = ⊕_swap (r * 2 ^ K) (2 ^ n) (U * 2 ^ K) b ∙ ap (λ (z : ℕ). z ⊕ (2 ^ n ⊕ b)) (sym (shl-⊕ K r U))

weight_packed : (K : ℕ) (hs : List ℕ) (v b : ℕ) → b < 2 ^ K → weight K hs (v * 2 ^ K ⊕ b) ≡ size v + label_weight hs b
unfolding weight
weight_packed K hs v b l = ap₂ (λ (y z : ℕ). size y + label_weight hs z) (above K v b l) (beneath K v b l)

packed_lt : (K D v b : ℕ) → v < 2 ^ D → b < 2 ^ K → v * 2 ^ K ⊕ b < 2 ^ (D + K)
packed_lt K D v b l h = ⊕_lt (D + K) (v * 2 ^ K) b (shl_lt D K l) (omega (arith, pow_mono {i = K} {j = D + K} (omega arith)))

label_newest : (i : ℕ) (hs : List ℕ) (a b : ℕ) → a < 2 ^ i → b < 2 ^ total hs
    → label_weight (suc i ∷ hs) (2 ^ (i + total hs) ⊕ (a * 2 ^ total hs ⊕ b)) ≡ suc i + label_weight hs b
label_newest i hs a b l h =
    ap (label_weight (suc i ∷ hs)) (place_joined i (total hs) a b) ∙ label_parts (suc i) hs (2 ^ i ⊕ a) b h
    ∙ ap (λ (z : ℕ). z + label_weight hs b) (size_degree (newest_degree i a l))

label_fits : (K i : ℕ) (hs : List ℕ) (b : ℕ) → suc i + total hs ≤ K → b < 2 ^ (i + total hs) → 2 ^ (i + total hs) ⊕ b < 2 ^ K
label_fits K i hs b fits l =
    let n = i + total hs in
    let most : 2 ^ suc n ≤ 2 ^ K = pow_mono {i = suc n} {j = K} (omega arith) in
    omega (arith, ⊕_lt (suc n) (2 ^ n) b (omega (arith, pow_pos n, pow-suc 2 n)) (omega (arith, pow-suc 2 n)))

module _ (G : ℕ → ℕ → ℕ) (K c i : ℕ) (hs : List ℕ) where
  abbrev taken : List ℕ
  taken = share_rows G c (i ∷ hs)

  abbrev place : ℕ
  place = i + total hs

  -- a label of the rows taken, in two parts
  record Two (b U : ℕ) : Type 0 where
    a₁ : ℕ
    a₂ : ℕ
    v₁ : ℕ
    v₂ : ℕ
    of₁ : Picks (first_rows (G c) i) a₁ v₁
    of₂ : Picks (share_rows G (suc c) hs) a₂ v₂
    label : b ≡ a₁ * 2 ^ total hs ⊕ a₂
    sum : U ≡ v₁ ⊕ v₂

  two : (b U : ℕ) → Picks taken b U → Two b U
  unfolding share_rows
  two b U p =
      let q = picks_parts (first_rows (G c) i) (share_rows G (suc c) hs) p in
      record {
        a₁ = q.left_label;
        a₂ = q.right_label;
        v₁ = q.left;
        v₂ = q.right;
        of₁ = q.of_left;
        of₂ = q.of_right;
        label = q.label ∙ ap (λ (n : ℕ). q.left_label * 2 ^ n ⊕ q.right_label) (length_share_rows G (suc c) hs);
        sum = q.sum;
      }

  join : (a₁ a₂ v₁ v₂ : ℕ) → Picks (first_rows (G c) i) a₁ v₁ → Picks (share_rows G (suc c) hs) a₂ v₂ → Picks taken (a₁ * 2 ^ total hs ⊕ a₂) (v₁ ⊕ v₂)
  unfolding share_rows
  join a₁ a₂ v₁ v₂ p q = picks_is (ap (λ (n : ℕ). a₁ * 2 ^ n ⊕ a₂) (length_share_rows G (suc c) hs)) (picks_join p q)

  first_lt : (a v : ℕ) → Picks (first_rows (G c) i) a v → a < 2 ^ i
  first_lt a v p = subst (λ (z : ℕ). a < 2 ^ z) (length_first_rows (G c) i) (picks_lt p)

  module _ (fits : suc i + total hs ≤ K) where
    -- the weight of a packed sum with the newest row
    weight_newest : (b U : ℕ) → Picks taken b U → (t : Two b U)
        → weight K (suc i ∷ hs) ((G c i ⊕ U) * 2 ^ K ⊕ (2 ^ place ⊕ b)) ≡ size (G c i ⊕ U) + (suc i + label_weight hs t.a₂)
    unfolding total
    weight_newest b U p t =
        weight_packed K (suc i ∷ hs) (G c i ⊕ U) (2 ^ place ⊕ b) (label_fits K i hs b fits (rows_lt G c (i ∷ hs) p))
        ∙ ap (λ (z : ℕ). size (G c i ⊕ U) + label_weight (suc i ∷ hs) (2 ^ place ⊕ z)) t.label
        ∙ ap (λ (z : ℕ). size (G c i ⊕ U) + z) (label_newest i hs t.a₁ t.a₂ (first_lt t.a₁ t.v₁ t.of₁) (rows_lt G (suc c) hs t.of₂))

    module _ (E : ℕ → Type 0) (low w k D : ℕ) (digits : w ≤ suc (low + suc i + D)) (meets : Meets (packed K taken) (pack K (G c i) place) (D + K) E)
        (lowest : Lowest E (weight K (suc i ∷ hs)) w k) where
      lighter : {ls ds : List ℕ} → Within ls hs ds → (v : ℕ) → Newest (share_rows G c (suc i ∷ ds)) v → low + suc i + size v < w → k ≤ suc i + total ds + size v
      unfolding Newest share_rows first_rows pack total
      lighter {ls} {ds} x v (u, s, e) l =
          let q = sum_parts (first_rows (G c) i) (share_rows G (suc c) ds) s in
          let t = share_label G x (suc c) q.right q.of_right in
          let (a, p) = sum_picks q.of_left in
          let b = a * 2 ^ total hs ⊕ t.label in
          let U = q.left ⊕ q.right in
          let picks = join a t.label q.left q.right p t.picks in
          let r = G c i in
          let same : v ≡ r ⊕ U = e ∙ ap (λ (z : ℕ). r ⊕ z) q.sum in
          let y = (r ⊕ U) * 2 ^ K ⊕ (2 ^ place ⊕ b) in
          let is : pack K r place ⊕ (U * 2 ^ K ⊕ b) ≡ y = packed_joined K r U place b in
          let fit = label_fits K i hs b fits (rows_lt G c (i ∷ hs) picks) in
          let few : r ⊕ U < 2 ^ D = (size_le (r ⊕ U) D).1 (omega (arith, ap size same)) in
          let small = subst (λ (z : ℕ). z < 2 ^ (D + K)) (sym is) (packed_lt K D (r ⊕ U) (2 ^ place ⊕ b) few fit) in
          let met : E y = subst E is (meets.complete (U * 2 ^ K ⊕ b) (picks_packed K picks) small) in
          let parts : Two b U =
          record { a₁ = a; a₂ = t.label; v₁ = q.left; v₂ = q.right; of₁ = p; of₂ = t.picks; label = refl; sum = refl } in
          omega (arith, lowest.lower y met, weight_newest b U picks parts, t.weighs, ap size same)

      from : (k ≡ w) ⊎ ((y : ℕ) × E y × (k ≡ weight K (suc i ∷ hs) y))
          → (k ≡ w) ⊎ ((ds : List ℕ) × (v : ℕ) × (length ds ≡ length hs) × Newest (share_rows G c (suc i ∷ ds)) v × (k ≡ suc i + total ds + size v))
      unfolding Newest share_rows first_rows pack total
      from (inl e) = inl e
      from (inr (y, met, e)) =
          let (u, s, h) = meets.sound y met in
          let p = unpack K taken s in
          let U = p.value in
          let b = p.label in
          let r = G c i in
          let t = two b U p.picks in
          let d = label_share G (suc c) hs t.of₂ in
          let is : y ≡ (r ⊕ U) * 2 ^ K ⊕ (2 ^ place ⊕ b) = h ∙ ap (λ (z : ℕ). pack K r place ⊕ z) p.is ∙ packed_joined K r U place b in
          inr (
            d.ds,
            r ⊕ U,
            d.length_ds,
            (U, sum_is (sym t.sum) (sum_join (picks_sum t.of₁) d.sum), refl),
            omega (arith, e, ap (weight K (suc i ∷ hs)) is, weight_newest b U p.picks t, d.weighs),
          )

      pub scanned : Scanned G c i hs low w k
      scanned = record { less = lowest.less; lighter = lighter; from = from lowest.from }
