-- The least weight of rows of the coordinates 0 .. j that are not free, those of coordinate 0 being powers of x: the rows of a share weigh as many as
-- they are, and over c powers of x that many more. There is one least weight only, and with one coordinate more it is no larger.
-- Assumes nothing.
use Rattle.std.specs.Prelude.{◌≡◌, ℕ, suc, ◌+◌, ◌≤◌, ◌<◌, length}
use Rattle.std.proofs.Math.Path.{refl, ap}
use mathlib.Core.List.{List, [], ◌∷◌, ◌++◌}
use Rattle.std.proofs.Common.{le_antisymm, lt_of_not-le, length-append}
use native.Mathlib.Omega.{arith}
use Rattle.net_laws.specs.Cell.{Free}
use Rattle.net_laws.specs.Net.{total}
use Rattle.net_laws.specs.Share.{first_rows, share_rows}

module _ (G : ℕ → ℕ → ℕ) where
  -- All rows of the weight w are free.
  abbrev pub AllFree : ℕ → ℕ → Type 0
  AllFree j w = (c : ℕ) (ds : List ℕ) → length ds ≡ j → total ds + c ≡ w → Free c (share_rows G 1 ds)

  -- All rows lighter than w are free.
  abbrev pub LighterFree : ℕ → ℕ → Type 0
  LighterFree j w = (c : ℕ) (ds : List ℕ) → length ds ≡ j → total ds + c < w → Free c (share_rows G 1 ds)

  -- ---- one coordinate more, with no digits
  pub share_padded : (j : ℕ) (ds : List ℕ) → share_rows G j (ds ++ 0 ∷ []) ≡ share_rows G j ds
  unfolding share_rows first_rows
  share_padded j [] = refl
  share_padded j (d ∷ ds) = ap (λ (rows : List ℕ). first_rows (G j) d ++ rows) (share_padded (suc j) ds)

  pub total_padded : (ds : List ℕ) → total (ds ++ 0 ∷ []) ≡ total ds
  unfolding total
  total_padded [] = omega arith
  total_padded (d ∷ ds) = ap (λ (n : ℕ). d + n) (total_padded ds)

  pub all_free_fewer : (j w : ℕ) → AllFree (suc j) w → AllFree j w
  all_free_fewer j w free c ds len sum =
      rw (share_padded 1 ds) at (free c (ds ++ 0 ∷ []) (omega (arith, length-append ds (0 ∷ []))) (omega (arith, total_padded ds)))

module _ (G : ℕ → ℕ → ℕ) (m : ℕ) where
  -- W is the least weight of rows that are not free, or m + 1 where all up to the weight m are.
  pub record Least (j W : ℕ) : Type 0 where
    pub most : W ≤ suc m
    pub lighter : LighterFree G j W
    pub some : W ≤ m → AllFree G j W → ⊥

  pub least_unique : (j W U : ℕ) → Least j W → Least j U → W ≡ U
  least_unique j W U a b = le_antisymm (le W U a b) (le U W b a)
    where
      le : (W U : ℕ) → Least j W → Least j U → W ≤ U
      le W U a b = omega (arith, lt_of_not-le λ (l : suc U ≤ W). b.some (omega (arith, a.most)) (λ c ds len sum. a.lighter c ds len (omega arith)))

  -- rows of the coordinates 0 .. j are rows of 0 .. j + 1 too
  pub least_falls : (j W U : ℕ) → Least j W → Least (suc j) U → U ≤ W
  least_falls j W U a b =
      omega (
        arith,
        lt_of_not-le λ (l : suc W ≤ U). a.some (omega (arith, b.most))
            (all_free_fewer G j W (λ c ds len sum. b.lighter c ds len (omega arith))),
      )

  pub least_zero : Least 0 (suc m)
  unfolding Free share_rows
  least_zero = record { most = omega arith; lighter = none; some = λ l all. absurd (omega arith) }
    where
      none : LighterFree G 0 (suc m)
      none c [] len l = tt
      none c (d ∷ ds) len l = absurd (omega arith)

  -- The bound f holds for every coordinate that is added: of rows lighter than before, those over fewer than f - 1 powers of x are free.
  abbrev pub Sound : ℕ → Type 0
  Sound f = (j W : ℕ) → Least j W → (c : ℕ) (ds : List ℕ) → length ds ≡ suc j → suc c < f → total ds + c < W → Free c (share_rows G 1 ds)

  pub sound_one : Sound 1
  sound_one j W least c ds len few l = absurd (omega arith)
