-- Shapes: the last coordinate takes all digits that are left, any other d of them, for every d; and every t tried from 0 on.
-- Assumes nothing.
use Rattle.std.specs.Prelude.{◌≡◌, refl, Bool, true, false, List, ℕ, suc, ◌+◌, ◌-◌, ◌≤◌, ◌<◌, length, take, set, replicate}
use Rattle.std.proofs.Common.{sym, ap, ◌∙◌, zero-add, add-one, length-set}
use Rattle.std.proofs.Math.Nat.{sub-zero}
use native.Mathlib.Omega.{arith}
use Rattle.definitions.specs.Number.{first, every}
use Rattle.number_laws.specs.Bounds.{CountedDegree, LawfulDimension}
use Rattle.number_laws.specs.First.{first_stop, first_on}
use Rattle.number_laws.specs.Every.{every_fails}
use Rattle.net_laws.specs.Net.{total}
use Rattle.counting_laws.specs.Shapes.{every_shape, total_set, shape_more, shape_last}
use Rattle.counting_laws.specs.Points.{Digits, Shaped, Begun, fills_evenly}

-- ---- every shape
module _ {m s t : ℕ} {w shape : List ℕ} {j left : ℕ} (given : Begun m s t w shape j left) where
  within_shape : j < length shape
  within_shape = omega (arith, given.sized, given.most, given.place)

  -- d digits for coordinate j
  sum_set : (d : ℕ) → d ≤ left → total (take (j + 1) (set shape j d)) + (left - d) ≡ m - t
  sum_set d l = omega (arith, total_set shape j d within_shape, given.sum)

  -- the last coordinate takes all
  module _ (last : j + 1 ≡ s) where
    pub begun_whole : Shaped m s w (set shape j left) × (t ≤ m) × (total (take s (set shape j left)) ≡ m - t)
    begun_whole =
        let sum : total (take s (set shape j left)) ≡ m - t = rw (← last) (omega (arith, sum_set left (omega arith))) in
        let sized = length-set shape j left ∙ given.sized in
        (record { degree = given.degree; small = given.small; sized = sized; most = given.most; room = omega arith }, given.within, sum)

    pub whole_is : every_shape s (fills_evenly m w t) shape j left ≡ fills_evenly m w t (take s (set shape j left))
    whole_is = shape_last s (fills_evenly m w t) shape j left within_shape last

  -- another takes d of them
  module _ (other : j + 1 ≡ s → ⊥) where
    pub further : j + 1 < s
    further = let h : ¬ (j + 1 ≡ s) = other in omega (arith, given.place)

    pub begun_more : (d : ℕ) → d ≤ left → Begun m s t w (set shape j d) (j + 1) (left - d)
    begun_more d l = record {
      degree = given.degree;
      small = given.small;
      sized = length-set shape j d ∙ given.sized;
      most = given.most;
      place = further;
      within = given.within;
      sum = sum_set d l;
    }

  abbrev tested : ℕ → Bool
  tested d = every_shape s (fills_evenly m w t) (set shape j d) (j + 1) (left - d)

  whole : every_shape s (fills_evenly m w t) shape j left ≡ every (left + 1) tested
  whole = shape_more s (fills_evenly m w t) shape j left within_shape given.place

  pub more_fails : (d : ℕ) → d ≤ left → tested d ≡ false → every_shape s (fills_evenly m w t) shape j left ≡ false
  more_fails d l fail = whole ∙ every_fails (left + 1) tested d (omega arith) fail

  pub more_holds : (d : ℕ) → d ≤ left + 1 → left < d → every d tested ≡ true → every_shape s (fills_evenly m w t) shape j left ≡ true
  more_holds d most all t =
      let e : d ≡ left + 1 = omega arith in
      whole ∙ (rw e at t)

pub begun_start : (m s t : ℕ) (w : List ℕ) → CountedDegree m → Digits m w → LawfulDimension s → t ≤ m → Begun m s t w (replicate 8 0) 0 (m - t)
unfolding total
begun_start m s t w degree small dimension within = record {
  degree = degree;
  small = small;
  sized = refl;
  most = dimension.high;
  place = dimension.low;
  within = within;
  sum = zero-add (m - t);
}

-- ---- t from 0 on: what is found from here is what is found from 0
module _ (m : ℕ) (test : ℕ → Bool) where
  pub first_start : first (m - 0) 0 test ≡ first m 0 test
  first_start = rw sub-zero

  pub first_found : (t : ℕ) → t < m → test t ≡ true → first (m - t) t test ≡ t
  first_found t l pass =
      let e : m - t ≡ suc (m - (t + 1)) = omega arith in
      rw e (first_stop (m - (t + 1)) t test pass)

  pub first_further : (t : ℕ) → t < m → test t ≡ false → first (m - (t + 1)) (t + 1) test ≡ first (m - t) t test
  first_further t l fail =
      let e : m - t ≡ suc (m - (t + 1)) = omega arith in
      sym (rw e (first_on (m - (t + 1)) t test fail) ∙ ap (λ (k : ℕ). first (m - (t + 1)) k test) (sym (add-one t)))

  pub first_last : (t : ℕ) → t ≤ m → m ≤ t → first (m - t) t test ≡ t
  unfolding first
  first_last t most all =
      let e : m - t ≡ 0 = omega arith in
      rw e
