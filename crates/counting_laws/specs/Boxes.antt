-- Boxes by number: the leading digits of a box, those of one coordinate behind those of the one before, write a number, and each number of so many
-- digits is one box. So asking of every box, chosen coordinate by coordinate, is asking of every number; and a point lies in the box whose number
-- its own leading digits write. Both by the share, one coordinate at a time: what stands in front and what stands behind tell a number.
-- Assumes nothing.
use Rattle.std.specs.Prelude.{◌≡◌, Bool, ◌&&◌, ℕ, suc, ◌+◌, ◌*◌, ◌/◌, ◌%◌, ◌^◌, ◌≤◌, ◌<◌, length}
use Rattle.std.proofs.Math.Path.{refl, sym, ap, ap₂}
use Rattle.std.proofs.Common.{◌∙◌, add-mul, mul-one, add_assoc, div-add-mod', pow_pos, eqb-true, eq-eqb}
use Rattle.std.proofs.Math.Bool.{and-true, and-eq-true_iff}
use mathlib.Core.List.{List, [], ◌∷◌}
use Rattle.std.proofs.Math.Nat.{mul_assoc, zero-mul, zero-add, add-zero, mod-lt}
use native.Mathlib.Omega.{arith}
use Rattle.std.proofs.Math.Arith.{digits_lt, digits_div, digits_mod, lt-one}
use Rattle.std.proofs.Math.Dec.{eqb}
use Rattle.std.proofs.Math.Pow.{pow-add}
use Rattle.definitions.specs.Number.{every, count}
use Rattle.definitions.specs.Points.{leading, coordinate}
use Rattle.definitions.specs.Net.{every_box, in_box}
use Rattle.number_laws.specs.Truth.{truth_equal}
use Rattle.number_laws.specs.Every.{every_ext, every_rows}
use Rattle.number_laws.specs.Count.{count_ext}
use Rattle.net_laws.specs.Point.{leading_lt}
use Rattle.net_laws.specs.Net.{total}

-- The box of the share ds with the number b.
unfoldable pub box_numbered : List ℕ → ℕ → List ℕ
box_numbered [] b = []
box_numbered (d ∷ ds) b = b / 2 ^ total ds ∷ box_numbered ds (b % 2 ^ total ds)

-- The number of the box that the point h lies in, where digits j d h are the first d digits of its coordinate j: from coordinate j on, the leading
-- ds digits one behind the other, behind b.
unfoldable pub box_of : (ℕ → ℕ → ℕ → ℕ) → ℕ → List ℕ → ℕ → ℕ → ℕ
box_of digits j [] h b = b
box_of digits j (d ∷ ds) h b = box_of digits (suc j) ds h (b * 2 ^ d + digits j d h)

-- Each box of the share ds, by its number, has c of n points.
unfoldable pub evenly_filled : (ℕ → ℕ → ℕ → ℕ) → ℕ → ℕ → List ℕ → Bool
evenly_filled digits n c ds = every (2 ^ total ds) (λ b. eqb (count n (λ h. eqb (box_of digits 0 ds h 0) b)) c)

-- ---- every box is every number
pub every_box_numbered : (ds : List ℕ) (test : List ℕ → Bool) → every_box ds test ≡ every (2 ^ total ds) (λ b. test (box_numbered ds b))
unfolding every_box total box_numbered every
every_box_numbered [] test = simp and-true
every_box_numbered (d ∷ ds) test =
    every_ext (2 ^ d) _ _ (λ r l. every_box_numbered ds (λ rs. test (r ∷ rs)) ∙ every_ext (2 ^ total ds) _ _ (λ c k. ap test (sym (split r c k))))
    ∙ every_rows (2 ^ d) (2 ^ total ds) (λ b. test (box_numbered (d ∷ ds) b)) (pow_pos (total ds))
    ∙ ap (λ (n : ℕ). every n (λ b. test (box_numbered (d ∷ ds) b))) (sym (pow-add 2 d (total ds)))
  where
    split : (r c : ℕ) → c < 2 ^ total ds → box_numbered (d ∷ ds) (r * 2 ^ total ds + c) ≡ r ∷ box_numbered ds c
    split r c k = ap₂ ◌∷◌ (digits_div r k) (ap (box_numbered ds) (digits_mod r k))

-- ---- the number of a point's box
module _ (digits : ℕ → ℕ → ℕ → ℕ) where
  pub box_of_lt : (h : ℕ) (ds : List ℕ) (j n b : ℕ) → ((i d : ℕ) → d ≤ total ds → digits i d h < 2 ^ d) → b < 2 ^ n
      → box_of digits j ds h b < 2 ^ (n + total ds)
  unfolding box_of total
  box_of_lt h [] j n b small l = rw add-zero l
  box_of_lt h (d ∷ ds) j n b small l =
      let e : n + d + total ds ≡ n + (d + total ds) = omega arith in
      rw (← e) (box_of_lt h ds (suc j) (n + d) _ (λ i c k. small i c (omega arith)) (rw (pow-add 2 n d) (digits_lt l (small j d (omega arith)))))

  -- what it is written behind
  box_of_behind : (h : ℕ) (ds : List ℕ) (j b : ℕ) → box_of digits j ds h b ≡ b * 2 ^ total ds + box_of digits j ds h 0
  unfolding box_of total
  box_of_behind h [] j b = simp (mul-one, add-zero)
  box_of_behind h (d ∷ ds) j b =
      rw (box_of_behind h ds (suc j) (b * 2 ^ d + digits j d h), box_of_behind h ds (suc j) (0 * 2 ^ d + digits j d h))
      (simp (add-mul, pow-add, mul_assoc, zero-mul, zero-add, add_assoc))

-- what stands in front and what stands behind tell a number
eqb_behind : (n a b x y : ℕ) → x < n → y < n → eqb (a * n + x) (b * n + y) ≡ (eqb a b && eqb x y)
eqb_behind n a b x y lx ly = truth_equal _ _ (
  λ t.
      let e = eqb-true (a * n + x) (b * n + y) t in
      (and-eq-true_iff (eqb a b) (eqb x y)).1 (
        eq-eqb a b (sym (digits_div a lx) ∙ ap (λ (z : ℕ). z / n) e ∙ digits_div b ly),
        eq-eqb x y (sym (digits_mod a lx) ∙ ap (λ (z : ℕ). z % n) e ∙ digits_mod b ly),
      ),
  λ t.
      let both = (and-eq-true_iff (eqb a b) (eqb x y)).0 t in
      let front = eqb-true a b both.0 in
      let behind = eqb-true x y both.1 in
      eq-eqb (a * n + x) (b * n + y) (cc),
)

module _ (p : ℕ) (pos : 0 < p) (q : ℕ) where
  abbrev digits : ℕ → ℕ → ℕ → ℕ
  digits j d h = leading p d (coordinate p q j h)

  -- a point lies in the box whose number it writes
  pub in_box_numbered : (h : ℕ) (ds : List ℕ) (j b : ℕ) → b < 2 ^ total ds → in_box p q j ds (box_numbered ds b) h ≡ eqb (box_of digits j ds h 0) b
  unfolding in_box box_numbered box_of total
  in_box_numbered h [] j b l = rw (lt-one l)
  in_box_numbered h (d ∷ ds) j b l =
      let r = digits j d h in
      let n = 2 ^ total ds in
      let rest : b % n < n = mod-lt b (pow_pos (total ds)) in
      let own : box_of digits (suc j) ds h 0 < n = rw zero-add at (box_of_lt digits h ds (suc j) 0 0 (λ i c k. leading_lt p pos q i c h) (omega arith)) in
      let alone : 0 * 2 ^ d + r ≡ r = simp (zero-mul, zero-add) in
      ap (λ (x : Bool). eqb r (b / n) && x) (in_box_numbered h ds (suc j) (b % n) rest)
      ∙ sym (eqb_behind n r (b / n) (box_of digits (suc j) ds h 0) (b % n) own rest)
      ∙ ap₂ eqb (sym (ap (box_of digits (suc j) ds h) alone ∙ box_of_behind digits h ds (suc j) r)) (div-add-mod' b n)

  -- the definition's boxes by their numbers
  pub boxes_by_number : (n c : ℕ) (ds : List ℕ) → every_box ds (λ rs. eqb (count n (in_box p q 0 ds rs)) c) ≡ evenly_filled digits n c ds
  unfolding evenly_filled
  boxes_by_number n c ds =
      every_box_numbered ds (λ rs. eqb (count n (in_box p q 0 ds rs)) c)
      ∙ every_ext (2 ^ total ds) _ _ (λ b l. ap (λ (k : ℕ). eqb k c) (count_ext n _ _ (λ h k. in_box_numbered h ds 0 b l)))

-- ---- digits that agree write the same numbers
module _ (digits other : ℕ → ℕ → ℕ → ℕ) where
  box_of_ext : (h : ℕ) (ds : List ℕ) (j b : ℕ) → ((i d : ℕ) → i < j + length ds → d ≤ total ds → digits i d h ≡ other i d h)
      → box_of digits j ds h b ≡ box_of other j ds h b
  unfolding box_of total
  box_of_ext h [] j b same = refl
  box_of_ext h (d ∷ ds) j b same =
      rw (same j d (omega arith) (omega arith)) (box_of_ext h ds (suc j) _ (λ i c l k. same i c (omega arith) (omega arith)))

  pub evenly_filled_ext : (n c : ℕ) (ds : List ℕ) → ((h i d : ℕ) → h < n → i < length ds → d ≤ total ds → digits i d h ≡ other i d h)
      → evenly_filled digits n c ds ≡ evenly_filled other n c ds
  unfolding evenly_filled
  evenly_filled_ext n c ds same =
      every_ext (2 ^ total ds) _ _ (λ b l. ap (λ (k : ℕ). eqb k c) (count_ext n _ _ (λ h k. ap (λ (x : ℕ). eqb x b) (alike h k))))
    where
      alike : (h : ℕ) → h < n → box_of digits 0 ds h 0 ≡ box_of other 0 ds h 0
      alike h k = box_of_ext h ds 0 0 (λ i d u v. same h i d k (omega arith) v)
