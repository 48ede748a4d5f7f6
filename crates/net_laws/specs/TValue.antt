-- The t-value of a pair is m + 1 less the least weight w: with m - t digits all shares are free just where m - t < w, since rows that are not free
-- stay so with more powers of x. What is to come weighs 1 at least for every pair, and 2 where q has an inverse modulo p; t(1) = 0, t(s) is at least
-- t(s - 1), and t is at most m.
-- Assumes nothing.
use Rattle.std.specs.Prelude.{◌≡◌, ◌↔◌, List, [], ◌∷◌, ℕ, suc, ◌-◌, ◌≤◌}
use Rattle.std.proofs.Common.{subst, arith, pow_mono}
use Rattle.definitions.specs.Polynomial.{prod, rem}
use Rattle.definitions.specs.Net.{t_value}
use Rattle.polynomial_laws.specs.Degree.{HasDegree, degree_unique, positive}
use Rattle.net_laws.specs.Cell.{Free}
use Rattle.net_laws.specs.Net.{total, Net}
use Rattle.net_laws.specs.Smallest.{t_value_smallest_lem}
use Rattle.net_laws.specs.Point.{digit_row}
use Rattle.net_laws.specs.Share.{share_rows, net_free}
use Rattle.net_laws.specs.Weight.{AllFree, Least, Sound, sound_one, least_zero, least_falls, least_unique}
use Rattle.net_laws.specs.Inverse.{sound_two}

free_fewer : (c d : ℕ) (rs : List ℕ) → c ≤ d → Free d rs → Free c rs
unfolding Free
free_fewer c d [] l free = tt
free_fewer c d (r ∷ rs) l free = (omega (arith, pow_mono l, free.0), free_fewer c d rs l free.1)

-- What is to come weighs f at least.
abbrev pub StopBound : ℕ → ℕ → ℕ → ℕ → Type 0
StopBound m p q f = Sound (digit_row p q) m f

module _ (m p : ℕ) (of : HasDegree p m) (q : ℕ) where
  abbrev rows : ℕ → ℕ → ℕ
  rows = digit_row p q

  net_all_free : (j t : ℕ) → t ≤ m → Net m p q (suc j) t ↔ AllFree rows j (m - t)
  net_all_free j t = subst (λ (m : ℕ). t ≤ m → Net m p q (suc j) t ↔ AllFree rows j (m - t)) (degree_unique p m of) (net_free p (positive of) q j t)

  -- ---- the least weight and the t-value tell each other: w(s) = m + 1 - t(s)
  pub least_t_value : (j : ℕ) → Least rows m j (suc m - t_value m p q (suc j))
  least_t_value j =
      let t = t_value m p q (suc j) in
      let S = t_value_smallest_lem m p q (suc j) (positive of) in
      record {
        most = omega arith;
        lighter = λ c ds len l.
            let rest = m - t - total ds in
            free_fewer c rest (share_rows rows 1 ds) (omega arith) ((net_all_free j t S.most).0 S.net rest ds len (omega arith));
        some = λ l free.
            let e : suc m - t ≡ m - (t - 1) = omega arith in
            omega (arith, S.least (t - 1) ((net_all_free j (t - 1) (omega (arith, S.most))).1 (rw e at free)));
      }

  t_value_least : (j W : ℕ) → Least rows m j W → W ≡ suc m - t_value m p q (suc j)
  t_value_least j W least = least_unique rows m j W (suc m - t_value m p q (suc j)) least (least_t_value j)

  pub t_value_most : (s : ℕ) → t_value m p q s ≤ m
  t_value_most s = (t_value_smallest_lem m p q s (positive of)).most

  pub t_value_first : t_value m p q 1 ≡ 0
  t_value_first = omega (arith, t_value_least 0 (suc m) (least_zero rows m), t_value_most 1)

  pub t_value_grows : (j : ℕ) → t_value m p q (suc j) ≤ t_value m p q (suc (suc j))
  t_value_grows j = omega (arith, least_falls rows m j _ _ (least_t_value j) (least_t_value (suc j)), t_value_most (suc j))

  -- ---- what is to come
  pub stop_one : StopBound m p q 1
  stop_one = sound_one rows m

  pub stop_two : (r : ℕ) → rem (prod r q) p ≡ rem 1 p → StopBound m p q 2
  stop_two r inverse = rw (degree_unique p m of) at (sound_two p (positive of) q r inverse)
