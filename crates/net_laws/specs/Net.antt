-- Nets as a statement: however m - t digits are shared among s coordinates, each box has 2^t of the 2^m points. The definition's test holds
-- just where the statement does, since `every_share` asks of every share, and `every_box` of every box, and of nothing else.
-- Assumes nothing.
use Rattle.std.specs.Prelude.{◌≡◌, refl, ◌↔◌, Bool, true, List, [], ◌∷◌, ℕ, zero, suc, ◌+◌, ◌-◌, ◌^◌, ◌<◌, length}
use Rattle.std.proofs.Common.{sym, ap, arith, eqb-true, eq-eqb}
use Rattle.definitions.specs.Number.{count}
use Rattle.definitions.specs.Net.{every_share, every_box, in_box, is_net}
use Rattle.number_laws.specs.Every.{every_in, every_out}

-- The digits of a share, all together.
unfoldable pub total : List ℕ → ℕ
total [] = 0
total (d ∷ ds) = d + total ds

-- rs is a box of the share ds: for each coordinate a number of its d digits.
pub data Box : List ℕ → List ℕ → Type 0 where
  none : Box [] []
  more : {d r : ℕ} {ds rs : List ℕ} → r < 2 ^ d → Box ds rs → Box (d ∷ ds) (r ∷ rs)

unfoldable pub Net : ℕ → ℕ → ℕ → ℕ → ℕ → Type 0
Net m p q s t = (ds : List ℕ) → length ds ≡ s → total ds ≡ m - t → (rs : List ℕ) → Box ds rs → count (2 ^ m) (in_box p q 0 ds rs) ≡ 2 ^ t

every_share_out : (s k : ℕ) (test : List ℕ → Bool) → every_share s k test ≡ true → (ds : List ℕ) → length ds ≡ s → total ds ≡ k → test ds ≡ true
unfolding every_share total
every_share_out s k test t [] len sum = rw (sym len, sym sum) at t
every_share_out zero k test t (d ∷ ds) len sum = absurd (omega arith)
every_share_out (suc s) k test t (d ∷ ds) len sum =
    every_share_out s (k - d) (λ ds. test (d ∷ ds)) (every_out (suc k) (λ d. every_share s (k - d) (λ ds. test (d ∷ ds))) t d (omega arith)) ds
    (omega arith) (omega arith)

every_share_in : (s k : ℕ) (test : List ℕ → Bool) → ((ds : List ℕ) → length ds ≡ s → total ds ≡ k → test ds ≡ true) → every_share s k test ≡ true
unfolding every_share total
every_share_in zero zero test all = all [] refl refl
every_share_in zero (suc k) test all = refl
every_share_in (suc s) k test all =
    every_in (suc k) _ (λ d l. every_share_in s (k - d) (λ ds. test (d ∷ ds)) (λ ds len sum. all (d ∷ ds) (ap suc len) (omega arith)))

pub every_box_out : {ds rs : List ℕ} → Box ds rs → (test : List ℕ → Bool) → every_box ds test ≡ true → test rs ≡ true
unfolding every_box
every_box_out none test t = t
every_box_out (more {d} {r} l b) test t = every_box_out b (λ rs. test (r ∷ rs)) (every_out (2 ^ d) _ t r l)

pub every_box_in : (ds : List ℕ) (test : List ℕ → Bool) → ((rs : List ℕ) → Box ds rs → test rs ≡ true) → every_box ds test ≡ true
unfolding every_box
every_box_in [] test all = all [] none
every_box_in (d ∷ ds) test all = every_in (2 ^ d) _ (λ r l. every_box_in ds (λ rs. test (r ∷ rs)) (λ rs b. all (r ∷ rs) (more l b)))

pub is_net_net : (m p q s t : ℕ) → (is_net m p q s t ≡ true) ↔ Net m p q s t
unfolding is_net Net
is_net_net m p q s t = (
  λ n ds len sum rs b. eqb-true _ _ (every_box_out b _ (every_share_out s (m - t) _ n ds len sum)),
  λ n. every_share_in s (m - t) _ (λ ds len sum. every_box_in ds _ (λ rs b. eq-eqb _ _ (n ds len sum rs b))),
)
