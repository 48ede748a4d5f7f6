-- The t-value is the smallest t of the net statement. With t = m there is one box, of no digits, which has all points; so some t in 0..m passes.
-- Assumes nothing.
use Rattle.std.specs.Prelude.{◌≡◌, refl, Bool, true, ◌&&◌, List, ℕ, zero, suc, ◌^◌, ◌≤◌, ◌<◌}
use Rattle.std.proofs.Common.{sym, ap₂, ◌∙◌, true≢false, lt_of_not-le, arith, eq-eqb}
use Rattle.std.proofs.Math.Decide.{dec_lt}
use Rattle.std.proofs.Math.Arith.{lt-one}
use Rattle.definitions.specs.Number.{first}
use Rattle.definitions.specs.Net.{in_box, is_net, t_value}
use Rattle.number_laws.specs.Count.{count_all}
use Rattle.number_laws.specs.First.{first_to, first_passes, first_before}
use Rattle.net_laws.specs.Point.{leading_none}
use Rattle.net_laws.specs.Net.{total, Box, none, more, Net, is_net_net}

pub record SmallestNet (m p q s t : ℕ) : Type 0 where
  pub most : t ≤ m
  pub net : Net m p q s t
  pub least : (k : ℕ) → Net m p q s k → t ≤ k

-- every point lies in the box of no digits
in_whole : (p : ℕ) → 0 < p → {ds rs : List ℕ} → Box ds rs → total ds ≡ 0 → (q j h : ℕ) → in_box p q j ds rs h ≡ true
unfolding in_box total
in_whole p pos none sum q j h = refl
in_whole p pos (more {d = zero} {r} l b) sum q j h =
    ap₂ ◌&&◌ (eq-eqb _ r (leading_none p pos q j h ∙ sym (lt-one l))) (in_whole p pos b (omega arith) q (suc j) h)
in_whole p pos (more {d = suc d} l b) sum q j h = absurd (omega arith)

net_whole : (m p q s : ℕ) → 0 < p → Net m p q s m
unfolding Net
net_whole m p q s pos ds len sum rs b = count_all (2 ^ m) (in_box p q 0 ds rs) (λ h l. in_whole p pos b (omega arith) q 0 h)

pub t_value_smallest_lem : (m p q s : ℕ) → 0 < p → SmallestNet m p q s (t_value m p q s)
unfolding t_value
t_value_smallest_lem m p q s pos = record { most = omega (arith, first_to m 0 test); net = passes (dec_lt (first m 0 test) m); least = smallest }
  where
    test : ℕ → Bool
    test = is_net m p q s

    passes : Dec (first m 0 test < m) → Net m p q s (first m 0 test)
    passes (yes l) = (is_net_net m p q s _).0 (first_passes m 0 test (omega arith))
    passes (no l) = let e : first m 0 test ≡ m = omega (arith, first_to m 0 test) in rw e (net_whole m p q s pos)

    smallest : (k : ℕ) → Net m p q s k → first m 0 test ≤ k
    smallest k n =
        omega (arith, lt_of_not-le λ (l : suc k ≤ first m 0 test). true≢false (sym ((is_net_net m p q s k).1 n) ∙ first_before m 0 test k (omega arith) l))
