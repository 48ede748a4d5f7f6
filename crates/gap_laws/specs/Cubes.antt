-- Cubes of dimension s + 1 with l digits a side hold equally many points just where the first l digit rows of each coordinate, x^i q^j mod p with i < l
-- and j ≤ s, are free together; those of coordinate 0 are powers of x. For a cube is a cell of these rows: where they are free each cube has its
-- share, and where all cubes hold equally many that is their share, so that the cube at the origin tells that the rows are free. Then s + 1 times l is
-- at most m; and free rows stay free with a digit or a coordinate less.
-- Assumes nothing.
use Rattle.std.specs.Prelude.{◌≡◌, refl, ◌↔◌, ◌&&◌, List, [], ◌∷◌, ◌++◌, length}
use Rattle.std.proofs.Math.Path.{sym, ap, fun_ext}
use Rattle.std.proofs.Common.{◌∙◌, subst, zero-mul, suc-mul, mul_comm, le-mul_of_pos_right, length-append, pow_pos}
use Rattle.std.proofs.Math.Bool.{Bool, true, and_comm, and_assoc, and-true}
use Prim.Native.Nat.{ℕ, zero, suc, ◌+◌, ◌*◌, ◌^◌, ◌≤◌, ◌<◌}
use Rattle.std.proofs.Math.Nat.{add-zero, zero-add, eq_of_mul-eq-mul_right}
use native.Mathlib.Omega.{arith}
use Rattle.std.proofs.Math.ListN.{replicate}
use Rattle.std.proofs.Math.Pow.{pow-lt}
use borrow.Author.Tests.{eqb-true, eq-eqb}
use Rattle.definitions.specs.Polynomial.{degree}
use Rattle.definitions.specs.Points.{leading, coordinate}
use Rattle.definitions.specs.Net.{in_box}
use Rattle.definitions.specs.Gaps.{held, even_cubes}
use Rattle.polynomial_laws.specs.Degree.{HasDegree, degree_unique, positive}
use Rattle.number_laws.specs.Truth.{le_unless}
use Rattle.number_laws.specs.Every.{every_out}
use Rattle.net_laws.specs.Cell.{Free, Cell, passing, cell_count, cell_free}
use Rattle.net_laws.specs.Point.{digit_row, leading_lt}
use Rattle.net_laws.specs.Net.{total, Box, none, more, every_box_in}
use Rattle.net_laws.specs.Share.{first_rows, length_first_rows, corner, corner_box, corner_origin, begins, powers_cell, digits_cell}
use Rattle.counting_laws.specs.Boxes.{box_of, box_of_lt, evenly_filled, boxes_by_number}
use Rattle.gap_laws.specs.Sums.{equal_values}
use Rattle.gap_laws.specs.Fewer.{Within, at_end, left_out, within_same, free_within}

-- ---- the rows

-- The first l rows of the coordinates s, .., 1, where G j i is row i of coordinate j; coordinate s stands in front.
unfoldable pub cube_rows : (ℕ → ℕ → ℕ) → ℕ → ℕ → List ℕ
cube_rows G l zero = []
cube_rows G l (suc s) = first_rows (G (suc s)) l ++ cube_rows G l s

-- They are free together with the l powers of x, the rows of coordinate 0.
abbrev pub FreeCubes : ℕ → ℕ → ℕ → ℕ → Type 0
FreeCubes p q l s = Free l (cube_rows (digit_row p q) l s)

length_cube_rows : (G : ℕ → ℕ → ℕ) (l s : ℕ) → length (cube_rows G l s) ≡ s * l
unfolding cube_rows
length_cube_rows G l zero = sym (zero-mul l)
length_cube_rows G l (suc s) =
    rw suc-mul (omega (arith, length-append (first_rows (G (suc s)) l) (cube_rows G l s), length_first_rows (G (suc s)) l, length_cube_rows G l s))

-- ---- fewer of them
pub free_behind : (d : ℕ) (front rs : List ℕ) → Free d (front ++ rs) → Free d rs
unfolding Free
free_behind d [] rs free = free
free_behind d (r ∷ front) rs free = free_behind d front rs free.1

pub free_coordinate_less : (p q l s : ℕ) → FreeCubes p q l (suc s) → FreeCubes p q l s
unfolding cube_rows
free_coordinate_less p q l s = free_behind l (first_rows (digit_row p q (suc s)) l) (cube_rows (digit_row p q) l s)

cube_rows_within : (G : ℕ → ℕ → ℕ) (l s : ℕ) → Within (cube_rows G l s) (cube_rows G (suc l) s)
unfolding cube_rows first_rows
cube_rows_within G l zero = at_end
cube_rows_within G l (suc s) = left_out (within_same (first_rows (G (suc s)) l) (cube_rows_within G l s))

pub free_digit_less : (p q l s : ℕ) → FreeCubes p q (suc l) s → FreeCubes p q l s
free_digit_less p q l s = free_within (cube_rows_within (digit_row p q) l s) l (suc l) (omega arith)

-- ---- the cube at the origin
corner_cube : (s l : ℕ) → corner (replicate s l) ≡ replicate s 0
unfolding corner
corner_cube zero l = refl
corner_cube (suc s) l = ap (λ (rs : List ℕ). 0 ∷ rs) (corner_cube s l)

total_cube : (s l : ℕ) → total (replicate s l) ≡ s * l
unfolding total
total_cube zero l = sym (zero-mul l)
total_cube (suc s) l = rw suc-mul (omega (arith, total_cube s l))

-- ---- cubes are cells
module _ (p : ℕ) (pos : 0 < p) (q l : ℕ) where
  abbrev rows : ℕ → List ℕ
  rows = cube_rows (digit_row p q) l

  coordinates_cell : (n j : ℕ) {rs : List ℕ} → Box (replicate n l) rs → {P : ℕ → Bool} → Cell p l (rows j) P
      → Cell p l (rows (n + j)) (λ h. P h && in_box p q (suc j) (replicate n l) rs h)
  unfolding cube_rows in_box
  coordinates_cell zero j none {P} c = rw zero-add (subst (Cell p l (rows j)) (fun_ext (λ h. sym (and-true (P h)))) c)
  coordinates_cell (suc n) j (more {r = r} {rs = rs} small b) {P} c =
      let e : suc n + j ≡ n + suc j = omega arith in
      let rest : ℕ → Bool = in_box p q (suc (suc j)) (replicate n l) rs in
      rw e
      (subst (Cell p l (rows (n + suc j)))
      (fun_ext (λ h. ap (λ (b : Bool). b && rest h) (and_comm (begins p pos q (suc j) l r h) (P h)) ∙ and_assoc (P h) (begins p pos q (suc j) l r h) (rest h)))
      (coordinates_cell n (suc j) b (digits_cell p pos q (suc j) l r small c (λ h. refl))))

  cube_cell : (s : ℕ) {rs : List ℕ} → l ≤ degree p → Box (replicate (suc s) l) rs → Cell p l (rows s) (in_box p q 0 (replicate (suc s) l) rs)
  unfolding cube_rows in_box
  cube_cell s fits (more {r = r} small b) = rw add-zero at (coordinates_cell s 0 b (powers_cell p pos q l r fits small))

  -- ---- what a cube holds
  free_cube : (s : ℕ) {rs : List ℕ} → l ≤ degree p → FreeCubes p q l s → Box (replicate (suc s) l) rs
      → passing p (in_box p q 0 (replicate (suc s) l) rs) * 2 ^ (suc s * l) ≡ 2 ^ degree p
  free_cube s fits free b = rw (suc-mul s l) (rw (length_cube_rows (digit_row p q) l s) at (cell_count p pos (cube_cell s fits b) free))

  cube_free : (s : ℕ) → l ≤ degree p → passing p (in_box p q 0 (replicate (suc s) l) (corner (replicate (suc s) l))) * 2 ^ (suc s * l) ≡ 2 ^ degree p
      → FreeCubes p q l s
  cube_free s fits share =
      let cube = replicate (suc s) l in
      cell_free p pos (cube_cell s fits (corner_box cube)) (corner_origin p q 0 cube) (rw (length_cube_rows (digit_row p q) l s, ← suc-mul s l) share)

-- ---- equally many
module _ (m p q s l : ℕ) (pos : 0 < p) where
  -- Where they do, the cube at the origin has its share: the boxes by their numbers are values that the points take equally often.
  even_share : even_cubes m p q s l ≡ true → 2 ^ (s * l) * held m p q s l (replicate s 0) ≡ 2 ^ m
  unfolding even_cubes held evenly_filled
  even_share t =
      let cube = replicate s l in
      let digits : ℕ → ℕ → ℕ → ℕ = λ j d h. leading p d (coordinate p q j h) in
      let c = held m p q s l (replicate s 0) in
      let filled : evenly_filled digits (2 ^ m) c cube ≡ true = sym (boxes_by_number p pos q (2 ^ m) c cube) ∙ t in
      let small : (h : ℕ) → box_of digits 0 cube h 0 < 2 ^ total cube = λ h.
      (rw zero-add at (box_of_lt digits h cube 0 0 0 (λ i d k. leading_lt p pos q i d h) (omega arith))) in
      rw (← total_cube s l)
      (equal_values (2 ^ m) (2 ^ total cube) c (λ h. box_of digits 0 cube h 0) small (λ b k. eqb-true _ c (every_out (2 ^ total cube) _ filled b k)))

  -- With s l > m there are more cubes than points.
  pub even_cubes_fits : even_cubes m p q s l ≡ true → s * l ≤ m
  even_cubes_fits t = go (held m p q s l (replicate s 0)) (even_share t)
    where
      go : (c : ℕ) → 2 ^ (s * l) * c ≡ 2 ^ m → s * l ≤ m
      go zero e = absurd (omega (arith, pow_pos m))
      go (suc c) e = le_unless (λ over. omega (arith, pow-lt over, le-mul_of_pos_right {m = suc c} (2 ^ (s * l)) (omega arith)))

-- THE CUBES HOLD EQUALLY MANY POINTS exactly where the first l digit rows of each coordinate are free together.
pub even_cubes_free : (m p : ℕ) → HasDegree p m → (q s l : ℕ) → l ≤ m → (even_cubes m p q (suc s) l ≡ true) ↔ FreeCubes p q l s
unfolding even_cubes held
even_cubes_free m p of q s l fits =
    rw (← degree_unique p m of) (out (rw (← degree_unique p m of) at fits), back (rw (← degree_unique p m of) at fits))
  where
    pos : 0 < p
    pos = positive of

    cube : List ℕ
    cube = replicate (suc s) l

    out : l ≤ degree p → even_cubes (degree p) p q (suc s) l ≡ true → FreeCubes p q l s
    out fits t = cube_free p pos q l s fits (rw (corner_cube (suc s) l) (mul_comm _ (2 ^ (suc s * l)) ∙ even_share (degree p) p q (suc s) l pos t))

    back : l ≤ degree p → FreeCubes p q l s → even_cubes (degree p) p q (suc s) l ≡ true
    back fits free =
        every_box_in cube _ (λ rs b.
        eq-eqb _ _ (eq_of_mul-eq-mul_right (2 ^ (suc s * l)) (pow_pos (suc s * l)) _ _
        (free_cube p pos q l s fits free b ∙ sym (free_cube p pos q l s fits free (rw (corner_cube (suc s) l) at (corner_box cube))))))
