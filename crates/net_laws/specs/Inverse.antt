-- Where q has an inverse modulo p, the bound 2 holds. For then h ↦ q h mod p permutes the points and moves each coordinate down by one, so
-- that a share with no digit of coordinate 0 is as free as that one coordinate lower: of the same weight, and without the last coordinate.
-- Assumes nothing.
use Rattle.std.specs.Prelude.{◌≡◌, Bool}
use Rattle.std.proofs.Math.Path.{refl, sym, ap, ap₂}
use Rattle.std.proofs.Common.{◌∙◌, eq-eqb}
use Rattle.std.proofs.Math.Bool.{◌&&◌}
use mathlib.Core.List.{List, [], ◌∷◌}
use Prim.Native.Nat.{ℕ, zero, suc, ◌+◌, ◌^◌, ◌≤◌, ◌<◌}
use native.Mathlib.Omega.{arith}
use Rattle.std.proofs.Math.Dec.{eqb}
use Rattle.definitions.specs.Polynomial.{degree, prod, power, rem}
use Rattle.definitions.specs.Points.{leading, coordinate}
use Rattle.definitions.specs.Net.{in_box}
use Rattle.number_laws.specs.Count.{count_ext, count_permute}
use Rattle.polynomial_laws.specs.Product.{prod_assoc, prod_factors, one_prod}
use Rattle.polynomial_laws.specs.Division.{rem_lt, rem_small, rem_prod_left, rem_prod_right}
use Rattle.polynomial_laws.specs.Power.{power_suc}
use Rattle.net_laws.specs.Cell.{passing}
use Rattle.net_laws.specs.Net.{total, Box, none, more}
use Rattle.net_laws.specs.Point.{digit_row, leading_none}
use Rattle.net_laws.specs.Share.{FreeShare, corner, corner_box, free_box, box_free}
use Rattle.net_laws.specs.Weight.{Sound}

module _ (p : ℕ) (pos : 0 < p) (q back : ℕ) (inverse : rem (prod back q) p ≡ rem 1 p) where
  abbrev moved : ℕ → ℕ
  moved h = rem (prod q h) p

  -- and back
  moved_back : (h : ℕ) → h < 2 ^ degree p → rem (prod back (moved h)) p ≡ h
  moved_back h l =
      rw (rem_prod_right p pos back (prod q h), ← prod_assoc back q h, ← rem_prod_left p pos (prod back q) h, inverse, rem_prod_left p pos 1 h, one_prod h) (rem_small p pos h l)

  coordinate_moved : (j h : ℕ) → coordinate p q (suc j) h ≡ coordinate p q j (moved h)
  unfolding coordinate
  coordinate_moved j h = rw (power_suc q j, rem_prod_left p pos (prod q h) (power q j)) (simp prod_factors)

  in_box_moved : {ds rs : List ℕ} → Box ds rs → (j h : ℕ) → in_box p q (suc j) ds rs h ≡ in_box p q j ds rs (moved h)
  unfolding in_box
  in_box_moved none j h = refl
  in_box_moved (more {d} {r} l b) j h = ap₂ (λ (y : ℕ) (b : Bool). eqb (leading p d y) r && b) (coordinate_moved j h) (in_box_moved b (suc j) h)

  -- the box at the origin, one coordinate up
  corner_moved : (ds : List ℕ) → passing p (in_box p q 0 (0 ∷ ds) (corner (0 ∷ ds))) ≡ passing p (in_box p q 0 ds (corner ds))
  unfolding in_box corner
  corner_moved ds =
      count_ext (2 ^ degree p) _ (λ h. in_box p q 0 ds (corner ds) (moved h))
      (λ h l. ap₂ ◌&&◌ (eq-eqb _ 0 (leading_none p pos q 0 h)) (in_box_moved (corner_box ds) 0 h))
      ∙ count_permute (2 ^ degree p) moved (λ h l. rem_lt p pos (prod q h))
      (λ h k a b e. sym (moved_back h a) ∙ ap (λ (z : ℕ). rem (prod back z) p) e ∙ moved_back k b) (in_box p q 0 ds (corner ds))

  free_up : (d : ℕ) (ds : List ℕ) → d ≤ degree p → FreeShare p q d ds → FreeShare p q 0 (d ∷ ds)
  unfolding total
  free_up d ds fits free =
      let e : d + total ds + 0 ≡ total ds + d = omega arith in
      box_free p pos q 0 (d ∷ ds) (omega arith) (rw (e, corner_moved (d ∷ ds)) (free_box p pos q d fits free (corner_box (d ∷ ds))))

  pub sound_two : Sound (digit_row p q) (degree p) 2
  unfolding total
  sound_two j W least (suc c) ds len few l = absurd (omega arith)
  sound_two j W least zero [] len few l = absurd (omega arith)
  sound_two j W least zero (d ∷ ds) len few l =
      free_up d ds (omega (arith, least.most)) (least.lighter d ds (omega arith) (omega arith))
