-- The points in an array: a coordinate's digits from its word, and the array filled from the front, place j 2^m + h with coordinate j of the point h.
-- Assumes nothing.
use Rattle.std.specs.Prelude.{◌≡◌, refl, List, ℕ, zero, suc, ◌+◌, ◌-◌, ◌*◌, ◌/◌, ◌%◌, ◌^◌, ◌≤◌, ◌<◌, length, get_or, set, replicate}
use Rattle.std.proofs.Common.{ap, ◌∙◌, arith, length-set, pow_pos}
use Rattle.std.proofs.Math.Arith.{digits_lt, digits_div, digits_mod}
use Rattle.std.proofs.lemmas.List.{length-replicate}
use Rattle.definitions.specs.Polynomial.{prod, power, rem}
use Rattle.definitions.specs.Points.{leading, coordinate, word_digits}
use Rattle.number_laws.specs.Lists.{set_each}
use Rattle.polynomial_laws.specs.Division.{rem_prod_right}
use Rattle.polynomial_laws.specs.Leading.{leading_front}
use Rattle.net_laws.specs.Point.{leading_lt}
use Rattle.counting_laws.specs.Points.{Digits, Built}

-- ---- the digits of a coordinate
module _ (p : ℕ) (pos : 0 < p) (q : ℕ) where
  coordinate_is : (j h r y : ℕ) → r ≡ rem (power q j) p → y ≡ rem (prod h r) p → y ≡ coordinate p q j h
  unfolding coordinate
  coordinate_is j h r y er ey = ey ∙ rw er (rem_prod_right p pos h (power q j))

  pub digits_is : (m : ℕ) → m ≤ 32 → (j h r y word : ℕ) → r ≡ rem (power q j) p → y ≡ rem (prod h r) p → word ≡ leading p word_digits y
      → word / 2 ^ (32 - m) ≡ leading p m (coordinate p q j h)
  digits_is m l j h r y word er ey e =
      ap (λ (z : ℕ). z / 2 ^ (32 - m)) (e ∙ ap (leading p word_digits) (coordinate_is j h r y er ey)) ∙ leading_front p pos 32 m (coordinate p q j h) l

-- ---- the array, with i places filled
pub record Building (m p q i : ℕ) (w : List ℕ) : Type 0 where
  pub kept : length w ≡ 2048
  pub small : Digits m w
  pub each : (k : ℕ) → k < i → get_or w k 0 ≡ leading p m (coordinate p q (k / 2 ^ m) (k % 2 ^ m))

get_d_zeros : (n i : ℕ) → ◌≡◌ {A = ℕ} (get_or (replicate n 0) i 0) 0
get_d_zeros zero i = refl
get_d_zeros (suc n) zero = refl
get_d_zeros (suc n) (suc i) = get_d_zeros n i

module _ (m p q : ℕ) where
  pub building_start : Building m p q 0 (replicate 2048 0)
  building_start = record {
    kept = length-replicate {A = ℕ} 2048 0;
    small = λ i. rw (get_d_zeros 2048 i) (pow_pos m);
    each = λ k l. absurd (omega arith);
  }

  module _ (pos : 0 < p) {i v : ℕ} {w : List ℕ} (h : Building m p q i w) (l : i < 2048) {all : ℕ} (count : all ≡ 2 ^ m)
      (here : v ≡ leading p m (coordinate p q (i / all) (i % all))) where
    e : v ≡ leading p m (coordinate p q (i / 2 ^ m) (i % 2 ^ m))
    e = rw count at here

    fits : i < length w
    fits = rw h.kept l

    pub building_more : Building m p q (i + 1) (set w i v)
    building_more = record {
      kept = length-set w i v ∙ h.kept;
      small = λ k. set_each (λ k x. x < 2 ^ m) w i v fits (rw e (leading_lt p pos q (i / 2 ^ m) m (i % 2 ^ m))) k (λ other. h.small k);
      each = λ k below.
          set_each (λ k x. x ≡ leading p m (coordinate p q (k / 2 ^ m) (k % 2 ^ m))) w i v fits e k (λ other. h.each k (omega arith));
    }

  pub building_done : (i : ℕ) (w : List ℕ) → Building m p q i w → 8 * 2 ^ m ≤ i → Built m p q w
  building_done i w b all = record {
    small = b.small;
    each = λ h j lh lj.
        rw (digits_div j lh, digits_mod j lh) at (b.each (j * 2 ^ m + h) (omega (arith, digits_lt lj lh)));
  }
