-- Well-formed pairs, as inequalities: p has degree m, and q is not 0 and of a smaller degree. A pair at the tree's root has q = 0 instead,
-- so the walk down the tree asks only for p's degree and that q is below it. Assumes nothing.
use Rattle.std.specs.Prelude.{◌≡◌, ◌↔◌, true, ◌&&◌, ℕ, suc, ◌^◌, ◌<◌, leb, ltb}
use Rattle.std.proofs.Math.Bool.{and-eq-true_iff}
use Rattle.std.proofs.Common.{pow-suc, arith, leb-true, ltb-true, le-leb, lt-ltb}
use Rattle.definitions.specs.Polynomial.{degree}
use Rattle.definitions.specs.Generator.{well_formed, Pair}
use Rattle.polynomial_laws.specs.Degree.{HasDegree, degree_unique, positive}

pub record WellFormed (m p q : ℕ) : Type 0 where
  pub degree_p : HasDegree p m
  pub nonzero : 0 < q
  pub smaller : q < 2 ^ m

-- The same with q = 0 allowed.
pub record Proper (m : ℕ) (s : Pair) : Type 0 where
  pub degree_p : HasDegree s.p m
  pub smaller : s.q < 2 ^ m

pub well_formed_is : (m p q : ℕ) → (well_formed m p q ≡ true) ↔ WellFormed m p q
unfolding well_formed
well_formed_is m p q = (
  λ e.
      let halves = (and-eq-true_iff (leb (2 ^ m) p && ltb p (2 ^ suc m)) (leb 1 q && ltb q (2 ^ m))).0 e in
      let of_p = (and-eq-true_iff (leb (2 ^ m) p) (ltb p (2 ^ suc m))).0 halves.0 in
      let of-q = (and-eq-true_iff (leb 1 q) (ltb q (2 ^ m))).0 halves.1 in
      record {
        degree_p = record { least = leb-true (2 ^ m) p of_p.0; most = omega (arith, ltb-true p (2 ^ suc m) of_p.1, pow-suc 2 m) };
        nonzero = leb-true 1 q of-q.0;
        smaller = ltb-true q (2 ^ m) of-q.1;
      },
  λ h.
      let most : p < 2 ^ suc m = omega (arith, h.degree_p.most, pow-suc 2 m) in
      simp (le-leb (2 ^ m) p h.degree_p.least, lt-ltb p (2 ^ suc m) most, le-leb 1 q h.nonzero, lt-ltb q (2 ^ m) h.smaller),
)

pub well_formed_proper : {m p q : ℕ} → WellFormed m p q → Proper m (record { p = p; q = q })
well_formed_proper h = record { degree_p = h.degree_p; smaller = h.smaller }

pub proper_degree : {m : ℕ} {s : Pair} → Proper m s → degree s.p ≡ m
proper_degree {m} {s} h = degree_unique s.p m h.degree_p

pub proper_positive : {m : ℕ} {s : Pair} → Proper m s → 0 < s.p
proper_positive h = positive h.degree_p

-- q's degree is below p's
pub proper_smaller : {m : ℕ} {s : Pair} → Proper m s → s.q < 2 ^ degree s.p
proper_smaller h = rw (proper_degree h) h.smaller
