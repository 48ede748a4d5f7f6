-- Reading a weight off a label by the places where coordinates start. `starts` has a 1 at the place of each coordinate's first row, the highest of them
-- where the newest coordinate's rows begin. So up to a label's leading digit, at place k, the highest start is that of the coordinate of row k.
-- Assumes nothing.
use Rattle.std.specs.Prelude.{◌≡◌, refl, List, [], ◌∷◌, ℕ, suc, ◌+◌, ◌-◌, ◌/◌, ◌%◌, ◌^◌, ◌≤◌, ◌<◌}
use Rattle.std.proofs.Common.{sym, ap, ◌∙◌, pow-suc, mod-eq_of_lt, mod-lt, arith, pow_pos, pow_mono, pow-add, shr-shr}
use Rattle.std.proofs.Math.Nat.{div-eq_of_lt, mul-mod_left}
use Rattle.std.proofs.Math.Decide.{dec_lt}
use Rattle.std.specs.Int.Bits.{bit_or, or_zero_r, or_add_and}
use Rattle.std.proofs.lemmas.Nat.{or_mod, or_lt, and_le_l}
use Rattle.std.proofs.Math.Pow.{pow-lt, split}
use Rattle.definitions.specs.Polynomial.{degree}
use Rattle.polynomial_laws.specs.Degree.{HasDegree, degree_unique, degree_least, degree_most, leading_one, one_leads}
use Rattle.net_laws.specs.Net.{total}
use Rattle.relation_laws.specs.Size.{size, size_degree}
use Rattle.relation_laws.specs.Label.{label_weight}

unfoldable pub starts : List ℕ → ℕ
starts [] = 0
starts (h ∷ hs) = bit_or (starts hs) (2 ^ total hs)

or_ge : (a b : ℕ) → b ≤ bit_or a b
or_ge a b = omega (arith, or_add_and a b, and_le_l a b)

starts_lt : (hs : List ℕ) → starts hs < 2 ^ suc (total hs)
unfolding starts total
starts_lt [] = omega arith
starts_lt (h ∷ hs) =
    let n = total hs in
    let l : bit_or (starts hs) (2 ^ n) < 2 ^ suc n = or_lt (suc n) (starts hs) (2 ^ n) (starts_lt hs) (pow-lt {i = n} {j = suc n} (omega arith)) in
    omega (arith, pow_mono {i = suc n} {j = suc (h + n)} (omega arith))

starts_degree : (h : ℕ) (hs : List ℕ) → HasDegree (starts (h ∷ hs)) (total hs)
unfolding starts
starts_degree h hs =
    let n = total hs in
    record {
      least = or_ge (starts hs) (2 ^ n);
      most = omega (arith, or_lt (suc n) (starts hs) (2 ^ n) (starts_lt hs) (pow-lt {i = n} {j = suc n} (omega arith)), pow-suc 2 n);
    }

-- The start of the coordinate of row k.
abbrev pub start_of : ℕ → ℕ → ℕ
start_of σ k = degree (σ % 2 ^ suc k)

-- What a label weighs at row k and above.
pub record Step (hs : List ℕ) (a k : ℕ) : Type 0 where
  pub some : 0 < starts hs % 2 ^ suc k
  pub most : start_of (starts hs) k ≤ k
  pub weighs : label_weight hs a ≡ suc (k - start_of (starts hs) k) + label_weight hs (a % 2 ^ start_of (starts hs) k)

shifted_degree : (n k a : ℕ) → n ≤ k → HasDegree a k → HasDegree (a / 2 ^ n) (k - n)
shifted_degree n k a le d =
    let e : n + (k - n) ≡ k = omega arith in
    one_leads (k - n) (shr-shr a n (k - n) ∙ ap (λ (z : ℕ). a / 2 ^ z) e ∙ leading_one d)

label_small : (h : ℕ) (hs : List ℕ) (a : ℕ) → a < 2 ^ total hs → label_weight (h ∷ hs) a ≡ label_weight hs a
unfolding label_weight size
label_small h hs a l = rw (div-eq_of_lt l, mod-eq_of_lt l) (omega arith)

mod_le_self : (a b : ℕ) → a % 2 ^ b ≤ a
mod_le_self a b = omega (arith, split a b)

power_mod : (n k : ℕ) → k ≤ n → 2 ^ n % 2 ^ k ≡ 0
power_mod n k l =
    let e : (n - k) + k ≡ n = omega arith in
    ap (λ (z : ℕ). 2 ^ z % 2 ^ k) (sym e) ∙ ap (λ (z : ℕ). z % 2 ^ k) (pow-add 2 (n - k) k) ∙ mul-mod_left (2 ^ (n - k)) (2 ^ k)

label_head : (h : ℕ) (hs : List ℕ) (a k : ℕ) → HasDegree a k → (a < 2 ^ total hs → Step hs a k) → Step (h ∷ hs) a k
unfolding starts label_weight
label_head h hs a k d older = go (dec_lt a (2 ^ n)) older
  where
    n : ℕ
    n = total hs

    go : Dec (a < 2 ^ n) → (a < 2 ^ n → Step hs a k) → Step (h ∷ hs) a k
    go (yes b) ih =
        let s = ih b in
        let few : suc k ≤ n = omega (arith, degree_most a n (omega (arith, d.least, pow_pos k)) b, degree_unique a k d) in
        let none : 2 ^ n % 2 ^ suc k ≡ 0 = power_mod n (suc k) few in
        let same : bit_or (starts hs) (2 ^ n) % 2 ^ suc k ≡ starts hs % 2 ^ suc k =
        or_mod (starts hs) (2 ^ n) (suc k) ∙ ap (bit_or (starts hs % 2 ^ suc k)) none ∙ or_zero_r (starts hs % 2 ^ suc k) in
        let f = start_of (starts hs) k in
        record {
          some = omega (arith, s.some);
          most = omega (arith, s.most, ap degree same);
          weighs =
              label_small h hs a b ∙ s.weighs ∙ ap (λ (z : ℕ). suc (k - f) + z) (sym (label_small h hs (a % 2 ^ f) (omega (arith, mod_le_self a f))))
              ∙ ap (λ (z : ℕ). suc (k - z) + label_weight (h ∷ hs) (a % 2 ^ z)) (sym (ap degree same));
        }
    go (no b) ih =
        let le : n ≤ k = omega (arith, degree_least a n (omega arith), degree_unique a k d) in
        let σ = starts (h ∷ hs) in
        let top = starts_degree h hs in
        let whole : σ % 2 ^ suc k ≡ σ = mod-eq_of_lt (omega (arith, top.most, pow-suc 2 n, pow_mono {i = suc n} {j = suc k} (omega arith))) in
        let f : degree (σ % 2 ^ suc k) ≡ n = ap degree whole ∙ degree_unique σ n top in
        let size_is : size (a / 2 ^ n) ≡ suc (k - n) = size_degree (shifted_degree n k a le d) in
        record {
          some = omega (arith, whole, top.least, pow_pos n);
          most = omega arith;
          weighs =
              ap (λ (z : ℕ). z + label_weight hs (a % 2 ^ n)) size_is
              ∙ ap (λ (z : ℕ). suc (k - n) + z) (sym (label_small h hs (a % 2 ^ n) (mod-lt _ (pow_pos n))))
              ∙ ap (λ (z : ℕ). suc (k - z) + label_weight (h ∷ hs) (a % 2 ^ z)) (sym f);
        }

label_within : (hs : List ℕ) (a k : ℕ) → a < 2 ^ total hs → HasDegree a k → Step hs a k
unfolding total
label_within [] a k l d = absurd (omega (arith, d.least, pow_pos k))
label_within (h ∷ hs) a k l d = label_head h hs a k d (λ b. label_within hs a k b d)

-- The leading digit at place k.
pub label_step : (h : ℕ) (hs : List ℕ) (a k : ℕ) → HasDegree a k → Step (h ∷ hs) a k
label_step h hs a k d = label_head h hs a k d (λ b. label_within hs a k b d)

pub label_nothing : (hs : List ℕ) → label_weight hs 0 ≡ 0
unfolding label_weight size
label_nothing [] = refl
label_nothing (h ∷ hs) = label_small h hs 0 (pow_pos (total hs)) ∙ label_nothing hs
