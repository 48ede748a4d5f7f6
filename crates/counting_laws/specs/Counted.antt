-- What is counted in the array of points is what the definition asks: the array's digits are those of the coordinates, and its boxes by number are
-- the definition's boxes. So the smallest t that passes is the t-value.
-- Assumes nothing.
use Rattle.std.specs.Prelude.{◌≡◌, List, ℕ, ◌-◌, ◌^◌, ◌≤◌, ◌<◌}
use Rattle.std.proofs.Math.Path.{sym, ap, fun_ext}
use Rattle.std.proofs.Common.{◌∙◌, arith}
use Rattle.definitions.specs.Number.{first}
use Rattle.definitions.specs.Points.{leading, coordinate}
use Rattle.definitions.specs.Net.{every_share, is_net, t_value}
use Rattle.polynomial_laws.specs.Leading.{leading_front}
use Rattle.counting_laws.specs.Boxes.{evenly_filled_ext, boxes_by_number}
use Rattle.counting_laws.specs.Shapes.{every_share_ext}
use Rattle.counting_laws.specs.Points.{Built, digits_at, fills_evenly}

module _ (m p q : ℕ) (pos : 0 < p) (w : List ℕ) (built : Built m p q w) where
  abbrev digits : ℕ → ℕ → ℕ → ℕ
  digits j d h = leading p d (coordinate p q j h)

  built_digits : (h j d : ℕ) → h < 2 ^ m → j < 8 → d ≤ m → digits_at m w j d h ≡ digits j d h
  built_digits h j d lh lj ld = rw (built.each h j lh lj) (leading_front p pos m d (coordinate p q j h) ld)

  counted_net : (s t : ℕ) → s ≤ 8 → every_share s (m - t) (fills_evenly m w t) ≡ is_net m p q s t
  unfolding is_net fills_evenly
  counted_net s t most =
      every_share_ext s (m - t) _ _ (λ ds len sum.
      evenly_filled_ext (digits_at m w) digits (2 ^ m) (2 ^ t) ds (λ h j d lh lj ld. built_digits h j d lh (omega arith) (omega arith))
      ∙ sym (boxes_by_number p pos q (2 ^ m) (2 ^ t) ds))

  pub counted_value : (s : ℕ) → s ≤ 8 → first m 0 (λ t. every_share s (m - t) (fills_evenly m w t)) ≡ t_value m p q s
  unfolding t_value
  counted_value s most = ap (first m 0) (fun_ext (λ t. counted_net s t most))
