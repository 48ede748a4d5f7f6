-- One turn of each loop over plain numbers: a digit row more that is free or not, a coordinate more, and a gap more. Assumes nothing.
use mathlib.Core.Path.{◌≡◌, refl, sym, ap₂, ◌∙◌}
use mathlib.Core.List.{List, ◌∷◌, ◌++◌}
use Prim.Native.Nat.{ℕ, zero, suc, ◌+◌, ◌-◌, ◌*◌, ◌/◌, ◌^◌, ◌≤◌, ◌<◌}
use native.Mathlib.Nat.{suc-mul, zero-mul, le-div_iff_mul-le}
use native.Mathlib.Numerals.{add-one}
use native.Mathlib.Omega.{arith}
use lib.ListN.{set, length-set, replicate}
use Rattle.definitions.specs.Number.{sum}
use Rattle.definitions.specs.Generator.{largest_degree}
use Rattle.definitions.specs.Polynomial.{rem}
use Rattle.number_laws.specs.Bounds.{Between}
use Rattle.polynomial_laws.specs.Degree.{HasDegree}
use Rattle.polynomial.specs.Modulus.{Modulus, modulus_positive}
use Rattle.net_laws.specs.Point.{digit_row, digit_row_lt, digit_row_suc}
use Rattle.net_laws.specs.Reduction.{reduce, basis}
use Rattle.net_laws.specs.Cell.{Free}
use Rattle.net_laws.specs.Share.{first_rows}
use Rattle.gap_laws.specs.Sums.{sum_more}
use Rattle.gap_laws.specs.Cubes.{cube_rows}
use Rattle.gap_laws.specs.Resolution.{dimensions, dimension_gap, dimensions_found}
use Rattle.digit_rows.specs.Basis.{basis_room, newest, newest_set}
use Rattle.gaps.specs.Taken.{Taken}

-- A row of the next coordinate has room behind those taken.
pub row_fits : (last l i : ℕ) → suc last * l ≤ largest_degree → i < l → last * l + i < largest_degree
row_fits last l i fits less = omega (arith, suc-mul last l)

-- ---- the rows of a coordinate
module _ {p lead : ℕ} (h : Modulus p lead) (q j i : ℕ) {row : ℕ} (at : row ≡ digit_row p q j i) where
  pub row_lt : row < lead
  row_lt = rw (at, h.leading) (digit_row_lt p (modulus_positive h) q j i)

  pub row_next : rem (2 * row) p ≡ digit_row p q j (i + 1)
  row_next = rw (at, add-one i) (sym (digit_row_suc p (modulus_positive h) q j i))

-- With n rows of a coordinate more, and without them.
free_shorter : (l : ℕ) (f : ℕ → ℕ) (rs : List ℕ) (n i : ℕ) → Free l (first_rows f (n + i) ++ rs) → Free l (first_rows f i ++ rs)
unfolding first_rows Free
free_shorter l f rs zero i free = let e : 0 + i ≡ i = omega arith in rw e at free
free_shorter l f rs (suc n) i free = let e : suc n + i ≡ suc (n + i) = omega arith in free_shorter l f rs n i (rw e at free).1

-- ---- rows taken
module _ (G : ℕ → ℕ → ℕ) (l : ℕ) where
  pub taken_start : Taken G l 0 0 (replicate basis_room 0)
  unfolding newest basis first_rows cube_rows Free
  taken_start = record { sized = refl; vectors = let e : 0 * l + 0 ≡ 0 = omega (arith, zero-mul l) in rw e; free = tt }

  module _ {last i : ℕ} {b : List ℕ} (at : Taken G l last i b) {v : ℕ} (reduces : v ≡ reduce (newest b (last * l + i)) (G (suc last) i)) where
    vector_is : v ≡ reduce (basis (first_rows (G (suc last)) i ++ cube_rows G l last)) (G (suc last) i)
    vector_is = rw at.vectors at reduces

    pub taken_row : last * l + i < basis_room → 2 ^ l ≤ v → Taken G l last (i + 1) (set b (last * l + i) v)
    unfolding basis first_rows Free
    taken_row room new =
        let n = last * l + i in
        let e : last * l + suc i ≡ n + 1 = omega arith in
        rw (add-one i) (record {
          sized = length-set b n v ∙ at.sized;
          vectors = rw e (newest_set b n v (omega (arith, at.sized)) ∙ ap₂ ◌∷◌ vector_is at.vectors);
          free = (rw vector_is at new, at.free);
        })

    -- the row is not free, nor so the coordinate
    pub taken_stops : i < l → v < 2 ^ l → Free l (cube_rows G l (suc last)) → ⊥
    unfolding first_rows Free cube_rows
    taken_stops less low free =
        let whole : l - suc i + suc i ≡ l = omega arith in
        omega (arith, vector_is, (free_shorter l (G (suc last)) (cube_rows G l last) (l - suc i) (suc i) (rw whole free)).0)

  pub taken_coordinate : {last i : ℕ} {b : List ℕ} → i ≡ l → Taken G l last i b → Taken G l (suc last) 0 b
  unfolding first_rows cube_rows
  taken_coordinate {last} {i} {b} all at =
      let e : suc last * l + 0 ≡ last * l + l = omega (arith, suc-mul last l) in
      record { sized = at.sized; vectors = rw e (rw all at at.vectors); free = rw all at at.free }

-- ---- as many dimensions as fit, or those whose rows are free
pub most_least : {m l : ℕ} → Between 1 m l → 1 ≤ m / l
most_least {m} {l} h = (le-div_iff_mul-le {k = l} {x = 1} h.low).1 (omega (arith, h.high))

pub dimensions_are : {m p l last : ℕ} {b : List ℕ} → HasDegree p m → (q : ℕ) → Between 1 m l → last + 1 ≤ m / l → Taken (digit_row p q) l last 0 b
    → (last + 1 < m / l → Free l (cube_rows (digit_row p q) l (suc last)) → ⊥) → last + 1 ≡ dimensions m p q l
unfolding first_rows
dimensions_are {m} {p} {l} {last} of q h fits at full =
    add-one last ∙ dimensions_found m p of q last l h.low h.high (omega arith) at.free (λ less. full (omega arith))

-- ---- one gap more
pub gap_more : (m p q d g s : ℕ) → 1 ≤ d → g ≡ sum (d - 1) (dimension_gap m p q) → s ≡ dimensions m p q d → g + (m / d - s) ≡ sum d (dimension_gap m p q)
unfolding dimension_gap
gap_more m p q zero g s some so_far found = absurd (omega arith)
gap_more m p q (suc d) g s some so_far found =
    let before : suc d - 1 ≡ d = omega arith in rw (so_far, before, found, sum_more) (omega arith)
