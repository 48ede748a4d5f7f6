-- The greatest common divisor divides both numbers, by induction along Euclid's algorithm; and what remainders keep, it has: each common divisor
-- divides it, and n divides c times it where n divides c * a and c * b. For coprime numbers that is Euclid's lemma, without Bézout.
-- Assumes nothing.
use Rattle.std.specs.Prelude.{◌≡◌}
use Rattle.std.proofs.Common.{sym, ap, ◌∙◌, add-mul, mul_left_comm, mul-one, div-add-mod', arith}
use Prim.Native.Nat.{ℕ, zero, suc, ◌+◌, ◌-◌, ◌*◌, ◌/◌, ◌%◌, ◌<◌, ◌∣◌}
use Rattle.std.proofs.Math.Nat.{add-mul-mod_self_right, div-mul_cancel, mod-lt, dvd_refl, dvd-zero, dvd-mod_iff, dvd-sub, dvd-mul_left_of_dvd, mod-eq-sub-div-mul, mul-sub, le_of_dvd, dvd-mul_left, dvd-mul_right, eq-one_of_dvd-one, pos_of_dvd_of_pos}
use Rattle.definitions.specs.Number.{gcd_within, gcd}
use Rattle.number_laws.specs.Truth.{apart_by_order}

-- ---- along Euclid's algorithm
module _ {ℓ} (P : ℕ → ℕ → ℕ → Type ℓ) (last : (a : ℕ) → P a 0 a) (turn : (a b g : ℕ) → 0 < b → P b (a % b) g → P a b g) where
  within : (n a b : ℕ) → b < n → P a b (gcd_within n a b)
  unfolding gcd_within
  within zero a b h = absurd (omega arith)
  within (suc n) a zero h = last a
  within (suc n) a (suc b) h =
      let l : a % suc b < suc b = mod-lt a (omega arith) in
      turn a (suc b) _ (omega arith) (within n (suc b) (a % suc b) (omega arith))

  along : (a b : ℕ) → P a b (gcd a b)
  along a b = unfold gcd in within (suc b) a b (omega arith)

pub gcd_divides : (a b : ℕ) → (gcd a b ∣ a) × (gcd a b ∣ b)
gcd_divides =
    along (λ a b g. (g ∣ a) × (g ∣ b)) (λ a. (dvd_refl a, dvd-zero a)) (λ a b g pos (of-b, of-rest). ((dvd-mod_iff g of-b).0 of-rest, of-b))

module _ {ℓ} (Q : ℕ → Type ℓ) (keep : (a b : ℕ) → Q a → Q b → Q (a % b)) where
  pub gcd_keeps : (a b : ℕ) → Q a → Q b → Q (gcd a b)
  gcd_keeps = along (λ a b g. Q a → Q b → Q g) (λ a qa qb. qa) (λ a b g pos rest qa qb. rest qb (keep a b qa qb))

pub gcd_greatest : (d a b : ℕ) → d ∣ a → d ∣ b → d ∣ gcd a b
gcd_greatest d = gcd_keeps (λ a. d ∣ a) (λ a b of-a of-b. (dvd-mod_iff d of-b).1 of-a)

pub gcd_positive : (a b : ℕ) → 0 < b → 0 < gcd a b
gcd_positive a b h = pos_of_dvd_of_pos (gcd_divides a b).1 h

-- ---- coprime numbers
pub coprime_only : (a b d : ℕ) → gcd a b ≡ 1 → d ∣ a → d ∣ b → d ≡ 1
coprime_only a b d coprime of-a of-b = eq-one_of_dvd-one (rw coprime at (gcd_greatest d a b of-a of-b))

-- Euclid's lemma
pub coprime_divides : (n s c : ℕ) → gcd s n ≡ 1 → n ∣ c * s → n ∣ c
coprime_divides n s c coprime h =
    rw (coprime, mul-one) at (gcd_keeps (λ a. n ∣ c * a) scaled s n h (dvd-mul_left n c))
  where
    scaled : (a b : ℕ) → n ∣ c * a → n ∣ c * b → n ∣ c * (a % b)
    scaled a b of-a of-b = rw (mod-eq-sub-div-mul, mul-sub, mul_left_comm) (dvd-sub n of-a (dvd-mul_left_of_dvd n of-b (a / b)))

-- ---- multiples, quotients and remainders
module _ (d n : ℕ) (part : d ∣ n) where
  pub quotient_divides : n / d ∣ n
  quotient_divides = rw (div-mul_cancel d part) at (dvd-mul_right (n / d) d)

  pub quotient_positive : 0 < n → 0 < n / d
  quotient_positive = pos_of_dvd_of_pos quotient_divides

pub remainder_mul : (i n s : ℕ) → i % n * s % n ≡ i * s % n
remainder_mul i n s =
    let e : i * s ≡ i % n * s + i / n * s * n = ap (λ k. k * s) (sym (div-add-mod' i n)) ∙ omega arith in
    sym (ap (λ k. k % n) e ∙ add-mul-mod_self_right (i % n * s) (i / n * s) n)

-- a common divisor g of n and s: n divides s taken n / g times
pub divided_multiple : (g n s : ℕ) → g ∣ n → g ∣ s → n ∣ n / g * s
divided_multiple g n s of-n of-s =
    let e : n / g * s ≡ s / g * n =
    ap (λ k. n / g * k) (sym (div-mul_cancel g of-s)) ∙ mul_left_comm (n / g) (s / g) g ∙ ap (λ k. s / g * k) (div-mul_cancel g of-n) in
    rw e (dvd-mul_left n (s / g))

-- those of a number coprime to N are told apart by their remainders
pub multiples_apart : (N s : ℕ) → gcd s N ≡ 1 → (i j : ℕ) → i < N → j < N → i * s % N ≡ j * s % N → i ≡ j
multiples_apart N s coprime = apart_by_order N (λ i. i * s % N) (λ i j less below same.
    let whole : (j - i) * s + i * s ≡ j * s = sym (add-mul (j - i) i s) ∙ ap (λ k. k * s) (omega arith) in
    let e : (j - i) * s ≡ j * s / N * N - i * s / N * N = omega (arith, div-add-mod' (j * s) N, div-add-mod' (i * s) N) in
    let part : N ∣ (j - i) * s = rw e (dvd-sub N (dvd-mul_left N (j * s / N)) (dvd-mul_left N (i * s / N))) in
    omega (arith, le_of_dvd (omega arith) (coprime_divides N s (j - i) coprime part)))
