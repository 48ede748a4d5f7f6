-- For an accepted pair the point set of dimension s is, to 32 digits, the origin together with the s-blocks of the output, taken round the period.
-- The point X_i has the coordinates X_i, X_(i+1), ..; the X_i run through the nonzero polynomials once; and h = 0 is the origin.
-- Assumes nothing.
use Rattle.std.specs.Prelude.{◌≡◌, refl, Bool, true, replicate}
use Rattle.std.proofs.Math.Path.{sym, ap, fun_ext}
use Rattle.std.proofs.Common.{ap₂, ◌∙◌, arith}
use mathlib.Core.List.{List, ◌∷◌, map}
use Prim.Native.Nat.{ℕ, zero, suc, ◌+◌, ◌%◌, ◌^◌, ◌≤◌, ◌<◌}
use Rattle.definitions.specs.Number.{bit, count, numbers}
use Rattle.definitions.specs.Polynomial.{power}
use Rattle.definitions.specs.Generator.{period, accepted}
use Rattle.definitions.specs.Points.{leading, state, word_digits, word, coordinate}
use Rattle.polynomial_laws.specs.Degree.{HasDegree}
use Rattle.polynomial_laws.specs.Division.{rem_prod_left}
use Rattle.polynomial_laws.specs.Power.{power_add}
use Rattle.order_laws.specs.Cycle.{degree_big}
use Rattle.order_laws.specs.State.{state_power}
use Rattle.order_laws.specs.Orbit.{state_mod, states_count}
use Rattle.order_laws.specs.Accepted.{accepted_is}
use Rattle.net_laws.specs.Point.{leading_origin}

-- The s coordinates of the point h, to 32 digits.
unfoldable pub point : ℕ → ℕ → ℕ → ℕ → List ℕ
point p q s h = map (λ (j : ℕ). leading p word_digits (coordinate p q j h)) (numbers 0 s)

-- The s words from word i on, round the period.
unfoldable pub block : ℕ → ℕ → ℕ → ℕ → ℕ → List ℕ
block m p q s i = map (λ (j : ℕ). word p q ((i + j) % period m)) (numbers 0 s)

unfoldable pub origin : ℕ → List ℕ
origin s = replicate s 0

zeros : (s a : ℕ) → map {B = ℕ} (λ (j : ℕ). 0) (numbers a s) ≡ replicate s 0
unfolding numbers
zeros zero a = refl
zeros (suc s) a = ap (λ (l : List ℕ). 0 ∷ l) (zeros s (suc a))

point_zero : (p q s : ℕ) → point p q s 0 ≡ origin s
unfolding point origin
point_zero p q s =
    ap (λ (f : ℕ → ℕ). map f (numbers 0 s)) (fun_ext (λ j. leading_origin p q j word_digits)) ∙ zeros s 0

module _ (p : ℕ) (big : 2 ≤ p) where
  coordinate_state : (q i j : ℕ) → coordinate p q j (state p q i) ≡ state p q (i + j)
  unfolding coordinate
  coordinate_state q i j =
      rw (state_power p big q i, rem_prod_left p (omega arith) (power q i) (power q j), ← power_add q i j, ← state_power p big q (i + j))

module _ (m p q : ℕ) (positive : 1 ≤ m) (d : HasDegree p m) (nonzero : 0 < q) (residue : q < 2 ^ m) (a : accepted m p q ≡ true) where
  point_state : (s i : ℕ) → point p q s (state p q i) ≡ block m p q s i
  unfolding point block word
  point_state s i =
      let h = (accepted_is m p q).0 a in
      ap (λ (f : ℕ → ℕ). map f (numbers 0 s))
      (fun_ext (λ j. ap (leading p word_digits) (coordinate_state p (degree_big m p positive d) q i j ∙ sym (state_mod m p positive d h.primitive_p q nonzero residue (i + j)))))

  -- Whatever is asked of a point, as many points have it as the origin and the blocks together.
  pub points_are_blocks : (s : ℕ) (test : List ℕ → Bool)
      → count (2 ^ m) (λ h. test (point p q s h)) ≡ count (period m) (λ i. test (block m p q s i)) + bit (test (origin s))
  points_are_blocks s test =
      let h = (accepted_is m p q).0 a in
      states_count m p positive d h.primitive_p q nonzero residue h.coprime (λ (y : ℕ). test (point p q s y))
      ∙ ap₂ (λ (f : ℕ → Bool) (o : List ℕ). count (period m) f + bit (test o)) (fun_ext (λ i. ap test (point_state s i))) (point_zero p q s)
