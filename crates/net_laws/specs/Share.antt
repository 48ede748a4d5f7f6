-- The rows of a share: of each coordinate as many as it has digits. A box of the share is a cell of these rows, those of coordinate 0 being powers
-- of x. So where the rows are free every box has its part of the points, and where the box at the origin has no more than that they are free;
-- and the points are a net just where every share of m - t digits has free rows.
-- Assumes nothing.
use Rattle.std.specs.Prelude.{◌≡◌, refl, ◌↔◌, Bool, true, ◌&&◌, List, [], ◌∷◌, ◌++◌, eqb, length}
use Rattle.std.proofs.Math.Path.{sym, ap, fun_ext, subst}
use Rattle.std.proofs.Common.{ap₂, ◌∙◌, arith, length-append, pow_pos, pow-add, eqb-true, eq-eqb}
use Rattle.std.proofs.Math.Bool.{and_comm, and_assoc, and-eq-true_iff}
use Prim.Native.Nat.{ℕ, zero, suc, ◌+◌, ◌-◌, ◌*◌, ◌/◌, ◌%◌, ◌^◌, ◌≤◌, ◌<◌}
use Rattle.std.proofs.Math.Nat.{pow-suc}
use Rattle.std.proofs.Math.Arith.{lt-one}
use Rattle.std.proofs.Math.Pow.{pow-lt}
use Rattle.std.proofs.lemmas.Nat.{shl-shr}
use Rattle.definitions.specs.Polynomial.{degree}
use Rattle.definitions.specs.Points.{leading, coordinate}
use Rattle.definitions.specs.Net.{in_box}
use Rattle.number_laws.specs.Truth.{truth_equal}
use Rattle.net_laws.specs.Pairing.{pairing, pairing_lt}
use Rattle.net_laws.specs.Cell.{Free, Cell, whole, at_power, at_row_lem, passing, cell_count, cell_free}
use Rattle.net_laws.specs.Point.{digit_row, digit_row_lt, digit_row_power, leading_origin, leading_none, leading_more}
use Rattle.net_laws.specs.Net.{total, Box, none, more, Net}

-- ---- definitions

-- f (d - 1), .., f 0.
unfoldable pub first_rows : (ℕ → ℕ) → ℕ → List ℕ
first_rows f zero = []
first_rows f (suc d) = f d ∷ first_rows f d

-- The rows of a share ds of the coordinates from j on, where G j i is row i of coordinate j.
unfoldable pub share_rows : (ℕ → ℕ → ℕ) → ℕ → List ℕ → List ℕ
share_rows G j [] = []
share_rows G j (d ∷ ds) = first_rows (G j) d ++ share_rows G (suc j) ds

-- A share of d digits of coordinate 0, and ds of the others, has free rows.
abbrev pub FreeShare : ℕ → ℕ → ℕ → List ℕ → Type 0
FreeShare p q d ds = Free d (share_rows (digit_row p q) 1 ds)

-- The box at the origin.
unfoldable pub corner : List ℕ → List ℕ
corner [] = []
corner (d ∷ ds) = 0 ∷ corner ds

pub length_first_rows : (f : ℕ → ℕ) (d : ℕ) → length (first_rows f d) ≡ d
unfolding first_rows
length_first_rows f zero = refl
length_first_rows f (suc d) = ap suc (length_first_rows f d)

pub length_share_rows : (G : ℕ → ℕ → ℕ) (j : ℕ) (ds : List ℕ) → length (share_rows G j ds) ≡ total ds
unfolding share_rows total
length_share_rows G j [] = refl
length_share_rows G j (d ∷ ds) =
    length-append (first_rows (G j) d) (share_rows G (suc j) ds) ∙ ap₂ ◌+◌ (length_first_rows (G j) d) (length_share_rows G (suc j) ds)

pub corner_box : (ds : List ℕ) → Box ds (corner ds)
unfolding corner
corner_box [] = none
corner_box (d ∷ ds) = more (pow_pos d) (corner_box ds)

pub corner_origin : (p q j : ℕ) (ds : List ℕ) → in_box p q j ds (corner ds) 0 ≡ true
unfolding corner in_box
corner_origin p q j [] = refl
corner_origin p q j (d ∷ ds) = ap₂ ◌&&◌ (eq-eqb _ 0 (leading_origin p q j d)) (corner_origin p q (suc j) ds)

-- A number is told by its last digit and the others.
eqb_last : (x c r : ℕ) → c < 2 → eqb (2 * x + c) r ≡ (eqb c (r % 2) && eqb x (r / 2))
eqb_last x c r l = truth_equal _ _ (
  λ t. let e = eqb-true (2 * x + c) r t in (and-eq-true_iff _ _).1 (eq-eqb c (r % 2) (omega arith), eq-eqb x (r / 2) (omega arith)),
  λ t. let both = (and-eq-true_iff (eqb c (r % 2)) (eqb x (r / 2))).0 t in eq-eqb _ r (omega (arith, eqb-true c (r % 2) both.0, eqb-true x (r / 2) both.1)),
)

module _ (p : ℕ) (pos : 0 < p) (q : ℕ) where
  -- ---- boxes are cells
  -- the first d digits of coordinate j are r
  abbrev pub begins : ℕ → ℕ → ℕ → ℕ → Bool
  begins j d r h = eqb (leading p d (coordinate p q j h)) r

  -- and digit d is the last one of r
  abbrev goes_on_lem : ℕ → ℕ → ℕ → ℕ → Bool
  goes_on_lem j d r h = eqb (pairing p (digit_row p q j d) h) (r % 2)

  begins_none : (j r h : ℕ) → r < 1 → begins j 0 r h ≡ true
  begins_none j r h l = eq-eqb _ r (leading_none p pos q j h ∙ sym (lt-one l))

  begins_more : (j d r h : ℕ) → begins j (suc d) r h ≡ (goes_on_lem j d r h && begins j d (r / 2) h)
  begins_more j d r h =
      rw (leading_more p pos q j d h) (eqb_last (leading p d (coordinate p q j h)) (pairing p (digit_row p q j d) h) r (pairing_lt p pos (digit_row p q j d) h))

  pub powers_cell : (d r : ℕ) → d ≤ degree p → r < 2 ^ d → Cell p d [] (begins 0 d r)
  powers_cell zero r fits l = whole (λ h. begins_none 0 r h l)
  powers_cell (suc d) r fits l =
      at_power (powers_cell d (r / 2) (omega arith) (omega (arith, pow-suc 2 d))) (record {
        small = pow-lt fits;
        asked = r % 2;
        binary = omega arith;
        says = λ h. rw (digit_row_power p pos q d fits) at (begins_more 0 d r h);
      })

  pub digits_cell : {d : ℕ} {rs : List ℕ} {P T : ℕ → Bool} (j n r : ℕ) → r < 2 ^ n → Cell p d rs P → ((h : ℕ) → T h ≡ (begins j n r h && P h))
      → Cell p d (first_rows (digit_row p q j) n ++ rs) T
  unfolding first_rows
  digits_cell {d} {rs} {P} j zero r l c says = subst (Cell p d rs) (fun_ext (λ h. sym (says h ∙ ap (λ (b : Bool). b && P h) (begins_none j r h l)))) c
  digits_cell {P = P} {T = T} j (suc n) r l c says =
      at_row_lem (digits_cell {T = λ x. begins j n (r / 2) x && P x} j n (r / 2) (omega (arith, pow-suc 2 n)) c (λ h. refl)) (record {
        small = digit_row_lt p pos q j n;
        asked = r % 2;
        binary = omega arith;
        says = λ h. says h ∙ ap (λ (b : Bool). b && P h) (begins_more j n r h) ∙ and_assoc (goes_on_lem j n r h) (begins j n (r / 2) h) (P h);
      })

  boxes_cell : {ds rs : List ℕ} → Box ds rs → (j : ℕ) {d : ℕ} {P : ℕ → Bool} → Cell p d [] P
      → Cell p d (share_rows (digit_row p q) j ds) (λ h. in_box p q j ds rs h && P h)
  unfolding in_box share_rows
  boxes_cell none j c = c
  boxes_cell (more {d} {r} {ds} {rs} l b) j {P = P} c =
      digits_cell j d r l (boxes_cell b (suc j) c) (λ h. and_assoc (begins j d r h) (in_box p q (suc j) ds rs h) (P h))

  box_cell : (d r : ℕ) {ds rs : List ℕ} → d ≤ degree p → r < 2 ^ d → Box ds rs → Cell p d (share_rows (digit_row p q) 1 ds) (in_box p q 0 (d ∷ ds) (r ∷ rs))
  unfolding in_box
  box_cell d r {ds} {rs} fits l b =
      subst (Cell p d (share_rows (digit_row p q) 1 ds)) (fun_ext (λ h. and_comm (in_box p q 1 ds rs h) (begins 0 d r h)))
      (boxes_cell b 1 (powers_cell d r fits l))

  -- ---- what a box has
  pub free_box : (d : ℕ) {ds : List ℕ} → d ≤ degree p → FreeShare p q d ds → {rs : List ℕ} → Box (d ∷ ds) rs
      → passing p (in_box p q 0 (d ∷ ds) rs) * 2 ^ (total ds + d) ≡ 2 ^ degree p
  free_box d {ds} fits free (more {r = r} l b) = rw (length_share_rows (digit_row p q) 1 ds) at (cell_count p pos (box_cell d r fits l b) free)

  pub box_free : (d : ℕ) (ds : List ℕ) → d ≤ degree p → passing p (in_box p q 0 (d ∷ ds) (corner (d ∷ ds))) * 2 ^ (total ds + d) ≡ 2 ^ degree p
      → FreeShare p q d ds
  unfolding corner
  box_free d ds fits share =
      cell_free p pos (box_cell d 0 fits (pow_pos d) (corner_box ds)) (corner_origin p q 0 (d ∷ ds)) (rw (length_share_rows (digit_row p q) 1 ds) share)

  -- ---- nets
  pub net_free : (s t : ℕ) → t ≤ degree p
      → Net (degree p) p q (suc s) t ↔ ((d : ℕ) (ds : List ℕ) → length ds ≡ s → total ds + d ≡ degree p - t → FreeShare p q d ds)
  unfolding Net total
  net_free s t le = (out, back)
    where
      rest : ℕ
      rest = degree p - t

      joined : 2 ^ t * 2 ^ rest ≡ 2 ^ degree p
      joined = let e : t + rest ≡ degree p = omega arith in sym (pow-add 2 t rest) ∙ ap (λ (z : ℕ). 2 ^ z) e

      out : Net (degree p) p q (suc s) t → (d : ℕ) (ds : List ℕ) → length ds ≡ s → total ds + d ≡ degree p - t → FreeShare p q d ds
      out net d ds len sum = box_free d ds (omega arith) (rw (net (d ∷ ds) (ap suc len) (omega arith) (corner (d ∷ ds)) (corner_box (d ∷ ds)), sum) joined)

      back : ((d : ℕ) (ds : List ℕ) → length ds ≡ s → total ds + d ≡ degree p - t → FreeShare p q d ds) → Net (degree p) p q (suc s) t
      back free [] len sum rs b = absurd (omega arith)
      back free (d ∷ ds) len sum rs b =
          let e : total ds + d ≡ rest = omega arith in
          let share = rw e at (free_box d (omega arith) (free d ds (omega arith) e) b) in
          sym (shl-shr (passing p (in_box p q 0 (d ∷ ds) rs)) rest) ∙ ap (λ (z : ℕ). z / 2 ^ rest) (share ∙ sym joined) ∙ shl-shr (2 ^ t) rest
