-- Inverse residues have the same t-values. Where q r ≡ 1 (mod p), the point h q^n has for r the coordinates that h has for q, from coordinate n down to
-- coordinate 0; and h ↦ h q^n permutes the points. So a box for r has as many points as the box with its sides in reverse order has for q, and
-- what is asked of every share of digits is the same. Assumes nothing.
use Rattle.std.specs.Prelude.{◌≡◌, Bool, ◌&&◌, ℕ, zero, suc, ◌+◌, ◌-◌, ◌^◌, ◌<◌, eqb}
use Rattle.std.proofs.Math.Path.{refl, sym, ap, fun_ext}
use Rattle.std.proofs.Common.{◌∙◌, zero-add, add-zero}
use Rattle.std.proofs.Math.Bool.{and_comm, and_assoc, and-true}
use mathlib.Core.List.{List, [], ◌∷◌, reverse, reverse_aux}
use native.Mathlib.Omega.{arith}
use Rattle.std.proofs.Math.ListN.{length}
use Rattle.std.proofs.lemmas.List.{length-reverse}
use Rattle.definitions.specs.Number.{first, count}
use Rattle.definitions.specs.Polynomial.{degree, prod, power, rem}
use Rattle.definitions.specs.Points.{leading, coordinate}
use Rattle.definitions.specs.Net.{in_box, is_net, t_value}
use Rattle.number_laws.specs.Truth.{truth_equal}
use Rattle.number_laws.specs.Count.{count_ext, count_permute}
use Rattle.polynomial_laws.specs.Degree.{HasDegree, degree_unique, positive}
use Rattle.polynomial_laws.specs.Product.{one_prod, prod_one, prod_comm, prod_factors}
use Rattle.polynomial_laws.specs.Division.{rem_small, rem_prod, rem_prod_left, rem_prod_right}
use Rattle.polynomial_laws.specs.Power.{power_zero, power_suc, power_add}
use Rattle.net_laws.specs.Point.{coordinate_lt}
use Rattle.net_laws.specs.Net.{total, Box, none, more, Net, is_net_net}

-- ---- shares and boxes in reverse order

total_onto : (ds es : List ℕ) → total (reverse_aux ds es) ≡ total ds + total es
unfolding total
total_onto [] es = sym (zero-add (total es))
total_onto (d ∷ ds) es = omega (arith, total_onto ds (d ∷ es))

total_reverse : (ds : List ℕ) → total (reverse ds) ≡ total ds
unfolding total
total_reverse ds = total_onto ds [] ∙ add-zero (total ds)

box_onto : {ds rs es ts : List ℕ} → Box ds rs → Box es ts → Box (reverse_aux ds es) (reverse_aux rs ts)
box_onto none c = c
box_onto (more l b) c = box_onto b (more l c)

pub box_reverse : {ds rs : List ℕ} → Box ds rs → Box (reverse ds) (reverse rs)
box_reverse b = box_onto b none

module _ (p : ℕ) (pos : 0 < p) (q r : ℕ) (inverse : rem (prod q r) p ≡ rem 1 p) where
  -- ---- the coordinates turn round

  powers_cancel : (j : ℕ) → rem (prod (power q j) (power r j)) p ≡ rem 1 p
  powers_cancel zero = rw (power_zero q, power_zero r, one_prod)
  powers_cancel (suc j) =
      let paired : prod (power q (suc j)) (power r (suc j)) ≡ prod (prod q r) (prod (power q j) (power r j)) =
      rw (power_suc q j, power_suc r j) (simp prod_factors) in
      ap (λ (z : ℕ). rem z p) paired
      ∙ sym (rem_prod p pos (prod q r) (prod (power q j) (power r j)))
      ∙ rw (inverse, powers_cancel j) (rem_prod p pos 1 1 ∙ ap (λ (z : ℕ). rem z p) (one_prod 1))

  coordinate_back : (k j h : ℕ) → coordinate p r j (coordinate p q (k + j) h) ≡ coordinate p q k h
  unfolding coordinate
  coordinate_back k j h =
      let paired : prod (prod h (power q (k + j))) (power r j) ≡ prod (prod h (power q k)) (prod (power q j) (power r j)) =
      rw power_add (simp prod_factors) in
      rem_prod_left p pos (prod h (power q (k + j))) (power r j)
      ∙ ap (λ (z : ℕ). rem z p) paired
      ∙ sym (rem_prod_right p pos (prod h (power q k)) (prod (power q j) (power r j)))
      ∙ rw (powers_cancel j) (rem_prod_right p pos (prod h (power q k)) 1 ∙ ap (λ (z : ℕ). rem z p) (prod_one (prod h (power q k))))

  point_back : (n h : ℕ) → h < 2 ^ degree p → coordinate p r n (coordinate p q n h) ≡ h
  unfolding coordinate
  point_back n h small =
      ap (λ (i : ℕ). coordinate p r n (coordinate p q i h)) (sym (zero-add n))
      ∙ coordinate_back 0 n h
      ∙ rw (power_zero, prod_one) (rem_small p pos h small)

  -- the sides ds of a box for r, from coordinate j on, before the sides es of one for q
  in_box_onto : {ds rs es ts : List ℕ} → Box ds rs → Box es ts → (j n h : ℕ) → j + length ds - 1 ≡ n
      → (in_box p r j ds rs (coordinate p q n h) && in_box p q (length ds) es ts h) ≡ in_box p q 0 (reverse_aux ds es) (reverse_aux rs ts) h
  unfolding in_box
  in_box_onto none c j n h e = refl
  in_box_onto {es = es} {ts = ts} (more {d} {r = x} {ds} {rs} l b) c j n h e =
      let here : n ≡ length ds + j = omega arith in
      let side : coordinate p r j (coordinate p q n h) ≡ coordinate p q (length ds) h = rw here (coordinate_back (length ds) j h) in
      rw side (moved (eqb (leading p d (coordinate p q (length ds) h)) x) (in_box p r (suc j) ds rs (coordinate p q n h)) (in_box p q (suc (length ds)) es ts h))
      ∙ in_box_onto b (more l c) (suc j) n h (omega arith)
    where
      moved : (x y z : Bool) → ((x && y) && z) ≡ (y && (x && z))
      moved x y z = ap (λ (w : Bool). w && z) (and_comm x y) ∙ and_assoc y x z

  -- ---- counts, nets

  pub inverse_box : {ds rs : List ℕ} → Box ds rs
      → count (2 ^ degree p) (in_box p r 0 ds rs) ≡ count (2 ^ degree p) (in_box p q 0 (reverse ds) (reverse rs))
  unfolding in_box
  inverse_box {ds} {rs} b =
      let n = length ds - 1 in
      sym (count_permute (2 ^ degree p) (coordinate p q n) (λ h l. coordinate_lt p pos q n h)
      (λ h k l l' e. sym (point_back n h l) ∙ ap (coordinate p r n) e ∙ point_back n k l') (in_box p r 0 ds rs))
      ∙ count_ext (2 ^ degree p) _ _ (λ h l. sym (and-true _) ∙ in_box_onto b none 0 n h (omega arith))

  pub inverse_net : (s t : ℕ) → Net (degree p) p q s t → Net (degree p) p r s t
  unfolding Net
  inverse_net s t net ds len sum rs b =
      inverse_box b ∙ net (reverse ds) (length-reverse ds ∙ len) (total_reverse ds ∙ sum) (reverse rs) (box_reverse b)

-- INVERSE RESIDUES HAVE THE SAME T-VALUE, IN EVERY DIMENSION.
pub inverse_t_value : (m p q r : ℕ) → HasDegree p m → rem (prod q r) p ≡ rem 1 p → (s : ℕ) → t_value m p q s ≡ t_value m p r s
unfolding t_value
inverse_t_value m p q r d inverse s = rw (← degree_unique p m d) (ap (first (degree p) 0) (fun_ext same))
  where
    pos : 0 < p
    pos = positive d

    other : rem (prod r q) p ≡ rem 1 p
    other = rw (prod_comm r q) inverse

    same : (t : ℕ) → is_net (degree p) p q s t ≡ is_net (degree p) p r s t
    same t = truth_equal _ _ (
      λ n. (is_net_net (degree p) p r s t).1 (inverse_net p pos q r inverse s t ((is_net_net (degree p) p q s t).0 n)),
      λ n. (is_net_net (degree p) p q s t).1 (inverse_net p pos r q other s t ((is_net_net (degree p) p r s t).0 n)),
    )
