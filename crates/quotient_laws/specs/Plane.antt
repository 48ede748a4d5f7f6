-- The t-value in dimension 2. The digit rows of coordinate 1 are x^i q mod p, so d of them over c powers of x are not free just where some b < 2^d but 0
-- has b q mod p below 2^c. The least weight d + c of such is m + 2 less K, or less the common factor's degree and 1 where that is more. So t(2) is
-- K - 1 or the common factor's degree, whichever is larger: K - 1 where there is no common factor, and 0 just where the quotients are linear.
-- Assumes nothing.
use Rattle.std.specs.Prelude.{◌≡◌, ◌↔◌, true, ℕ, suc, ◌+◌, ◌-◌, ◌^◌, ◌≤◌, ◌<◌, max, length}
use Rattle.std.proofs.Math.Path.{refl}
use Rattle.std.proofs.Common.{sym, ap, ◌∙◌, arith, pow_mono}
use mathlib.Core.List.{List, [], ◌∷◌}
use Rattle.definitions.specs.Polynomial.{◌⊕◌, degree, prod, power, quot, rem}
use Rattle.definitions.specs.Generator.{linear_quotients, quotient_degree, common_degree}
use Rattle.definitions.specs.Net.{t_value}
use Rattle.number_laws.specs.Truth.{le_unless}
use Rattle.polynomial_laws.specs.Sum.{⊕_sums}
use Rattle.polynomial_laws.specs.Degree.{degree_unique}
use Rattle.polynomial_laws.specs.Product.{⊕-prod}
use Rattle.polynomial_laws.specs.Division.{division, rem-⊕, rem_unique}
use Rattle.polynomial_laws.specs.Power.{power_one}
use Rattle.polynomial_laws.specs.Additive.{Additive}
use Rattle.fraction_laws.specs.WellFormed.{WellFormed}
use Rattle.net_laws.specs.Cell.{Free}
use Rattle.net_laws.specs.Net.{total}
use Rattle.net_laws.specs.Point.{digit_row}
use Rattle.net_laws.specs.Share.{share_rows}
use Rattle.net_laws.specs.Weight.{AllFree, Least, least_unique}
use Rattle.net_laws.specs.TValue.{least_t_value, t_value_most}
use Rattle.quotient_laws.specs.Degrees.{Falling, well_formed_falling, quotient_degree_least, linear_degrees}
use Rattle.quotient_laws.specs.Approximation.{loss, Near, loss_some, near_some, near_bound, nearest}
use Rattle.quotient_laws.specs.Relations.{value_rows, free_rows, rows_free}

-- ---- d rows of coordinate 1

-- b q mod p.
multiple : ℕ → ℕ → ℕ → ℕ
multiple p q b = rem (prod b (power q 1)) p

multiple_is : (p q b : ℕ) → multiple p q b ≡ rem (prod b q) p
unfolding multiple
multiple_is p q b = rw power_one

module _ (p q : ℕ) (f : Falling p q) where
  multiple_additive : Additive (multiple p q)
  unfolding multiple
  multiple_additive a b = rw ⊕-prod (rem-⊕ p f.some (prod a (power q 1)) (prod b (power q 1)))

  plane_rows : (d : ℕ) → share_rows (digit_row p q) 1 (d ∷ []) ≡ value_rows (multiple p q) d
  unfolding share_rows digit_row multiple
  plane_rows d = refl

  -- what is below 2^c is near
  multiple_near : (d c b : ℕ) → 0 < b → b < 2 ^ d → multiple p q b < 2 ^ c → Near p q d c
  multiple_near d c b nonzero short small =
      let a = quot (prod b q) p in
      let value : prod b q ⊕ prod a p ≡ rem (prod b q) p = ap (λ z. z ⊕ prod a p) (sym (division p f.some (prod b q))) ∙ simp ⊕_sums in
      record { b = b; a = a; nonzero = nonzero; short = short; small = rw value (omega (arith, multiple_is p q b)) }

  near_multiple : (d c : ℕ) (n : Near p q d c) → c ≤ degree p → multiple p q n.b < 2 ^ c
  near_multiple d c n low =
      let value = prod n.b q ⊕ prod n.a p in
      let whole : prod n.a p ⊕ value ≡ prod n.b q = simp ⊕_sums in
      let e : rem (prod n.b q) p ≡ value =
      ap (λ z. rem z p) (sym whole) ∙ rem_unique p f.some n.a value (omega (arith, n.small, pow_mono low)) in
      omega (arith, multiple_is p q n.b, n.small)

  -- ---- the least weight
  plane_free : (d c : ℕ) → d + c + loss p q < degree p + 2 → Free c (share_rows (digit_row p q) 1 (d ∷ []))
  plane_free d c light =
      rw (plane_rows d)
      (free_rows (multiple p q) multiple_additive c d
      (λ b nonzero short. le_unless (λ small. omega (arith, near_bound p q f d c (multiple_near d c b nonzero short small)))))

  plane_lighter : (c : ℕ) (ds : List ℕ) → length ds ≡ 1 → total ds + c + loss p q < degree p + 2 → Free c (share_rows (digit_row p q) 1 ds)
  unfolding total
  plane_lighter c [] len light = absurd (omega arith)
  plane_lighter c (d ∷ []) len light = plane_free d c (omega arith)
  plane_lighter c (d ∷ d₁ ∷ ds) len light = absurd (omega arith)

  plane_some : (W : ℕ) → W + loss p q ≡ degree p + 2 → AllFree (digit_row p q) 1 W → ⊥
  unfolding total
  plane_some W e free =
      let t = nearest p q f in
      let n = t.near in
      let low : t.c ≤ degree p = omega (arith, t.weight, near_some n, loss_some p q) in
      let all = free t.c (t.d ∷ []) refl (omega (arith, t.weight)) in
      let large = rows_free (multiple p q) multiple_additive t.c t.d (rw plane_rows at all) n.b n.nonzero n.short in
      omega (arith, near_multiple t.d t.c n low)

  loss_most : loss p q ≤ degree p + 2
  loss_most = omega (arith, (nearest p q f).weight)

-- ---- well-formed pairs

module _ {m p q : ℕ} (w : WellFormed m p q) where
  falls : Falling p q
  falls = well_formed_falling w

  least_plane : Least (digit_row p q) m 1 (suc (suc m) - loss p q)
  least_plane =
      let e = degree_unique p m w.degree_p in
      let fits = loss_most p q falls in
      record {
        most = omega (arith, loss_some p q);
        lighter = λ c ds len l. plane_lighter p q falls c ds len (omega arith);
        some = λ l. plane_some p q falls (suc (suc m) - loss p q) (omega arith);
      }

  loss_t_value : suc (t_value m p q 2) ≡ loss p q
  loss_t_value =
      let e = degree_unique p m w.degree_p in
      let same = least_unique (digit_row p q) m 1 _ _ least_plane (least_t_value m p w.degree_p q 1) in
      omega (arith, loss_most p q falls, t_value_most m p w.degree_p q 2)

  -- t(2) IS K - 1 OR THE COMMON FACTOR'S DEGREE, whichever is larger:
  pub t_value_plane : t_value m p q 2 ≡ max (quotient_degree p q - 1) (common_degree p q)
  unfolding loss
  t_value_plane = omega (arith, loss_t_value, quotient_degree_least w)

  -- K - 1 where there is no common factor,
  pub t_value_quotient_degree : common_degree p q ≡ 0 → t_value m p q 2 ≡ quotient_degree p q - 1
  t_value_quotient_degree none = omega (arith, t_value_plane)

  -- and 0 just where the quotients are linear.
  pub t_value_linear : (linear_quotients p q ≡ true) ↔ (t_value m p q 2 ≡ 0)
  t_value_linear = (
    λ t. let h = (linear_degrees w).0 t in omega (arith, t_value_plane, h.0, h.1),
    λ e. (linear_degrees w).1 (omega (arith, t_value_plane, quotient_degree_least w), omega (arith, t_value_plane)),
  )
