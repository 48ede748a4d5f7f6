-- Resolution in the words of document 02: l_s is the largest l with 1 ≤ l ≤ m for which the congruent cubes hold equally many points, and 0 if none.
-- The definition asks that each cube holds as many as the one at the origin, which is the same. Assumes nothing.
use Rattle.std.specs.Prelude.{◌≡◌, ◌↔◌, true, List, ℕ, zero, suc, ◌≤◌, replicate}
use Rattle.std.proofs.Common.{sym, ◌∙◌, le_antisymm, arith, pow_pos, eqb-true, eq-eqb}
use Rattle.definitions.specs.Gaps.{held, even_cubes, resolution}
use Rattle.number_laws.specs.Truth.{le_unless}
use Rattle.number_laws.specs.Largest.{largest_to, largest_passes, largest_least}
use Rattle.net_laws.specs.Net.{Box, none, more, every_box_in, every_box_out}

-- Any two of the congruent cubes of dimension s with l digits a side hold equally many points.
abbrev pub EqualCubes : ℕ → ℕ → ℕ → ℕ → ℕ → Type 0
EqualCubes m p q s l = (a b : List ℕ) → Box (replicate s l) a → Box (replicate s l) b → held m p q s l a ≡ held m p q s l b

-- l_s.
pub record IsResolution (m p q s l : ℕ) : Type 0 where
  pub within : l ≤ m
  pub equal : 1 ≤ l → EqualCubes m p q s l
  pub largest : (k : ℕ) → 1 ≤ k → k ≤ m → EqualCubes m p q s k → k ≤ l

origin_box : (s l : ℕ) → Box (replicate s l) (replicate s 0)
origin_box zero l = none
origin_box (suc s) l = more (pow_pos l) (origin_box s l)

pub even_cubes_equal : (m p q s l : ℕ) → (even_cubes m p q s l ≡ true) ↔ EqualCubes m p q s l
unfolding even_cubes
even_cubes_equal m p q s l = (
  λ t a b x y. eqb-true _ _ (every_box_out x _ t) ∙ sym (eqb-true _ _ (every_box_out y _ t)),
  λ all. every_box_in (replicate s l) _ (λ a x. eq-eqb _ _ (all a (replicate s 0) x (origin_box s l))),
)

module _ (m p q s : ℕ) where
  pub resolution_is : IsResolution m p q s (resolution m p q s)
  unfolding resolution
  resolution_is = record {
    within = largest_to (even_cubes m p q s) m;
    equal = λ some. (even_cubes_equal m p q s _).0 (largest_passes (even_cubes m p q s) m some);
    largest = λ k low high all. largest_least (even_cubes m p q s) m k low high ((even_cubes_equal m p q s k).1 all);
  }

  -- No other number is.
  pub resolution_unique : {l : ℕ} → IsResolution m p q s l → resolution m p q s ≡ l
  resolution_unique {l} r = le_antisymm (below r resolution_is) (below resolution_is r)
    where
      below : {a b : ℕ} → IsResolution m p q s a → IsResolution m p q s b → b ≤ a
      below {a} {b} x y = le_unless (λ over. let l = x.largest b (omega arith) y.within (y.equal (omega arith)) in omega arith)
