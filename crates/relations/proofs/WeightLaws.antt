-- One turn of `weight_of`: the newest row that the label names, and the rows of its coordinate up to it.
-- Assumes nothing.
use mathlib.Core.Path.{◌≡◌, sym, ap, ◌∙◌}
use mathlib.Core.List.{List, ◌∷◌}
use Prim.Native.Nat.{ℕ, suc, ◌+◌, ◌-◌, ◌*◌, ◌/◌, ◌%◌, ◌^◌, ◌≤◌, ◌<◌}
use native.Mathlib.Nat.{mod-lt}
use native.Mathlib.Omega.{arith}
use lib.Count.{count_leading_zeros}
use lib.Pow.{pow_pos, pow-lt, pow_mono, mod-mod-pow, shr_lt, split}
use Rattle.definitions.specs.Polynomial.{degree}
use Rattle.number_laws.specs.Bounds.{one_shl_in}
use Rattle.polynomial_laws.specs.Degree.{HasDegree, degree_most}
use Rattle.relation_laws.specs.Size.{size, size_le}
use Rattle.relation_laws.specs.Label.{label_weight}
use Rattle.relation_laws.specs.Scan.{weight}
use Rattle.relation_laws.specs.Starts.{starts, label_step, label_nothing}
use Rattle.relations.specs.Slots.{Weighed}
use Rattle.relations.proofs.WordLaws.{place, Leading, leading, size_64, two_shl}

-- w is the weight of x but for the rows that what is left of the label, a, names.
pub record Weighing (σ x w a : ℕ) : Type 0 where
  pub small : a < 2 ^ 32
  pub most : w ≤ 64
  pub left : a < 2 ^ (64 - w)
  pub is : (h : ℕ) (hs : List ℕ) → σ ≡ starts (h ∷ hs) → w + label_weight (h ∷ hs) a ≡ weight 32 (h ∷ hs) x

pub weighing_start : (σ x : ℕ) → x < 2 ^ 64 → Weighing σ x (64 - count_leading_zeros 64 (x / 2 ^ 32)) (x % 2 ^ 32)
unfolding weight
weighing_start σ x fits =
    let high : x / 2 ^ 32 < 2 ^ 32 = shr_lt {n = x} 32 32 fits in
    let e = size_64 (x / 2 ^ 32) (omega (arith, pow-lt {i = 32} {j = 64} (omega arith))) in
    let few : size (x / 2 ^ 32) ≤ 32 = (size_le (x / 2 ^ 32) 32).0 high in
    let low : x % 2 ^ 32 < 2 ^ 32 = mod-lt x (pow_pos 32) in
    record {
      small = low;
      most = omega arith;
      left = omega (arith, pow_mono {i = 32} {j = 64 - (64 - count_leading_zeros 64 (x / 2 ^ 32))} (omega arith));
      is = λ h hs same. ap (λ (z : ℕ). z + label_weight (h ∷ hs) (x % 2 ^ 32)) e;
    }

-- What is left of σ up to the newest row of a, as it is computed.
abbrev pub up_to : ℕ → ℕ → ℕ
up_to σ a = σ % (2 * 2 ^ place a % 2 ^ 64)

-- The place of the newest row of a, and that where its coordinate starts.
pub record Turn (σ a : ℕ) : Type 0 where
  pub zeros : count_leading_zeros 64 a ≤ 63
  pub low : place a ≤ 31
  pub start_zeros : count_leading_zeros 64 (up_to σ a) ≤ 63
  pub under : place (up_to σ a) ≤ place a
  pub newest : HasDegree a (place a)
  pub divisor : 2 * 2 ^ place a % 2 ^ 64 ≡ 2 ^ suc (place a)
  pub start : place (up_to σ a) ≡ degree (up_to σ a)
  pub power : 1 * 2 ^ place (up_to σ a) % 2 ^ 64 ≡ 2 ^ place (up_to σ a)

pub turn : (σ a : ℕ) → σ % 2 ≡ 1 → 0 < a → a < 2 ^ 32 → Turn σ a
turn σ a odd some small = record {
  zeros = r.zeros;
  low = low;
  start_zeros = s.zeros;
  under = under;
  newest = r.has;
  divisor = d;
  start = s.is;
  power = one_shl_in 64 (place (up_to σ a)) (omega (arith, under, low));
}
  where
    k : ℕ
    k = place a

    r : Leading a
    r = leading a some (omega (arith, pow-lt {i = 32} {j = 64} (omega arith)))

    low : k ≤ 31
    low = omega (arith, degree_most a 32 some small, r.is)

    d : 2 * 2 ^ k % 2 ^ 64 ≡ 2 ^ suc k
    d = two_shl k (omega (arith, low))

    few : σ % 2 ^ suc k < 2 ^ suc k
    few = mod-lt σ (pow_pos (suc k))

    least : 0 < σ % 2 ^ suc k
    least =
        let e : k + 1 ≡ suc k = omega arith in
        let o : σ % 2 ^ suc k % 2 ≡ 1 = ap (λ (z : ℕ). σ % 2 ^ z % 2) (sym e) ∙ mod-mod-pow σ k 1 ∙ odd in
        omega arith

    s : Leading (up_to σ a)
    s = rw d (leading (σ % 2 ^ suc k) least (omega (arith, few, pow_mono {i = suc k} {j = 64} (omega (arith, low)))))

    under : place (up_to σ a) ≤ k
    under = omega (arith, s.is, ap (λ (z : ℕ). degree (σ % z)) d, degree_most (σ % 2 ^ suc k) (suc k) least few)

module _ (σ x w a : ℕ) (inv : Weighing σ x w a) (t : Turn σ a) where
  abbrev k : ℕ
  k = place a

  abbrev f : ℕ
  f = place (up_to σ a)

  room : w + k < 64
  room = omega (arith, degree_most a (64 - w) (omega (arith, t.newest.least, pow_pos k)) inv.left, digits)
    where
      digits : k ≡ degree a
      digits = (leading a (omega (arith, t.newest.least, pow_pos k)) (omega (arith, inv.small, pow-lt {i = 32} {j = 64} (omega arith)))).is

  pub weighing_more : Weighing σ x (w + (k + 1 - f)) (a % (1 * 2 ^ f % 2 ^ 64))
  weighing_more = rw t.power (record {
    small = omega (arith, inv.small, split a f);
    most = omega (arith, room, t.under);
    left = omega (arith, mod-lt a (pow_pos f), pow_mono {i = f} {j = 64 - (w + (k + 1 - f))} (omega (arith, room, t.under)));
    is = λ h hs same. step h hs same;
  })
    where
      step : (h : ℕ) (hs : List ℕ) → σ ≡ starts (h ∷ hs) → w + (k + 1 - f) + label_weight (h ∷ hs) (a % 2 ^ f) ≡ weight 32 (h ∷ hs) x
      step h hs same =
          let e : degree (starts (h ∷ hs) % 2 ^ suc k) ≡ f =
          ap (λ (z : ℕ). degree (z % 2 ^ suc k)) (sym same) ∙ ap (λ (z : ℕ). degree (σ % z)) (sym t.divisor) ∙ sym t.start in
          let u : label_weight (h ∷ hs) a ≡ suc (k - f) + label_weight (h ∷ hs) (a % 2 ^ f) =
          (label_step h hs a k t.newest).weighs ∙ ap (λ (z : ℕ). suc (k - z) + label_weight (h ∷ hs) (a % 2 ^ z)) e in
          omega (arith, inv.is h hs same, t.under)

pub weighed : (σ x w a : ℕ) → Weighing σ x w a → a ≡ 0 → Weighed σ x w
weighed σ x w a inv e = record {
  is = λ h hs same. omega (arith, inv.is h hs same, ap (label_weight (h ∷ hs)) e, label_nothing (h ∷ hs));
}

module _ (σ a : ℕ) (t : Turn σ a) where
  pub falls : a % (1 * 2 ^ place (up_to σ a) % 2 ^ 64) < a
  falls = rw t.power (omega (arith, mod-lt a (pow_pos (place (up_to σ a))), pow_mono t.under, t.newest.least))

  pub divides : 0 < 2 * 2 ^ place a % 2 ^ 64
  divides = omega (arith, t.divisor, pow_pos (suc (place a)))
