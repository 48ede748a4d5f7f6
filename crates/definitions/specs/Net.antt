-- Nets: every way to share digits among coordinates, every box, the count of points in it, and the t-value. Assumes nothing.
use Rattle.std.specs.Prelude.{◌&&◌, ◌∷◌, ◌-◌, ◌^◌}
use Rattle.definitions.specs.Base.{Bool, true, false, List, [], ℕ, zero, suc, eqb}
use Rattle.definitions.specs.Number.{first, every, count}
use Rattle.definitions.specs.Points.{leading, coordinate}

-- The test holds of every way to share k digits among s coordinates; ds lists each coordinate's number of digits.
unfoldable pub every_share : ℕ → ℕ → (List ℕ → Bool) → Bool
every_share zero zero test = test []
every_share zero (suc k) test = true
every_share (suc s) k test = every (suc k) (λ d. every_share s (k - d) (λ ds. test (d ∷ ds)))

-- The test holds of every choice of the leading digits: of each coordinate's d digits, as a number below 2^d.
unfoldable pub every_box : List ℕ → (List ℕ → Bool) → Bool
every_box [] test = test []
every_box (d ∷ ds) test = every (2 ^ d) (λ r. every_box ds (λ rs. test (r ∷ rs)))

-- The point h lies in the box: from coordinate j on, the leading ds digits of its coordinates are rs.
unfoldable pub in_box : ℕ → ℕ → ℕ → List ℕ → List ℕ → ℕ → Bool
in_box p q j [] [] h = true
in_box p q j [] (r ∷ rs) h = false
in_box p q j (d ∷ ds) [] h = false
in_box p q j (d ∷ ds) (r ∷ rs) h = eqb (leading p d (coordinate p q j h)) r && in_box p q (suc j) ds rs h

-- However m - t digits are shared among the s coordinates, each box has exactly 2^t of the 2^m points; equal points count as often as they arise.
unfoldable pub is_net : ℕ → ℕ → ℕ → ℕ → ℕ → Bool
is_net m p q s t = every_share s (m - t) (λ ds. every_box ds (λ rs. eqb (count (2 ^ m) (in_box p q 0 ds rs)) (2 ^ t)))

-- t-value: the smallest t in 0..m for which the points are such a net.
unfoldable pub t_value : ℕ → ℕ → ℕ → ℕ → ℕ
t_value m p q s = first m 0 (is_net m p q s)
