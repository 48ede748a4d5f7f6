-- Generators: what makes a pair (p, q) of degree m well-formed, primitive and accepted; partial quotients and their degrees, the tree of pairs, the
-- step and its floor.
-- Assumes nothing.
use Rattle.std.specs.Prelude.{◌&&◌, ◌∷◌, ◌++◌, ◌-◌, ◌^◌}
use Rattle.definitions.specs.Base.{Bool, List, [], ℕ, zero, suc, max, eqb, leb, ltb}
use Rattle.definitions.specs.Number.{first, all, gcd}
use Rattle.definitions.specs.Polynomial.{◌⊕◌, degree, prod, quot, rem}

abbrev pub least_degree : ℕ
least_degree = 2

abbrev pub largest_degree : ℕ
largest_degree = 16

abbrev pub lawful_degree : ℕ → Bool
lawful_degree m = leb least_degree m && leb m largest_degree

-- Well-formed pair: 2^m ≤ p < 2^(m+1) and 1 ≤ q < 2^m.
unfoldable pub well_formed : ℕ → ℕ → ℕ → Bool
well_formed m p q = leb (2 ^ m) p && ltb p (2 ^ suc m) && (leb 1 q && ltb q (2 ^ m))

-- How many words the period has: 2^m - 1.
abbrev pub period : ℕ → ℕ
period m = 2 ^ m - 1

-- The smallest e ≥ 1 with x^e ≡ 1 (mod p), where it is at most 2^m - 1; else 2^m.
unfoldable pub order : ℕ → ℕ → ℕ
order m p = first (period m) 1 (λ (e : ℕ). eqb (rem (2 ^ e) p) 1)

-- Primitive: the smallest e ≥ 1 with x^e ≡ 1 (mod p) is 2^m - 1.
unfoldable pub primitive : ℕ → ℕ → Bool
primitive m p = eqb (order m p) (period m)

-- The partial quotients A1, A2, .. of q/p = [0; A1, A2, ..], and the common factor of p and q.
pub record Expansion : Type 0 where
  pub quotients : List ℕ
  pub common : ℕ

unfoldable pub found : ℕ → Expansion → Expansion
found a e = record { quotients = a ∷ e.quotients; common = e.common }

-- Euclid's algorithm: p = A1 q + r1, q = A2 r1 + r2, .. until the remainder is 0, in at most n steps. Remainders fall, so q steps are enough.
unfoldable pub expansion_within : ℕ → ℕ → ℕ → Expansion
expansion_within zero p q = record { quotients = []; common = p }
expansion_within (suc n) p zero = record { quotients = []; common = p }
expansion_within (suc n) p (suc q) = found (quot p (suc q)) (expansion_within n (suc q) (rem p (suc q)))

unfoldable pub expansion : ℕ → ℕ → Expansion
expansion p q = expansion_within q p q

-- Of degree one.
abbrev pub linear : ℕ → Bool
linear a = eqb (degree a) 1

-- Quotients: every partial quotient of q/p has degree one, and p and q have no common factor.
unfoldable pub linear_quotients : ℕ → ℕ → Bool
linear_quotients p q = all linear (expansion p q).quotients && eqb (expansion p q).common 1

-- The largest degree among polynomials, 0 where there are none.
unfoldable pub highest : List ℕ → ℕ
highest [] = 0
highest (a ∷ l) = max (degree a) (highest l)

-- K of document 000: the largest degree among the partial quotients of q/p.
unfoldable pub quotient_degree : ℕ → ℕ → ℕ
quotient_degree p q = highest (expansion p q).quotients

-- The degree of the common factor of p and q, 0 if there is none.
unfoldable pub common_degree : ℕ → ℕ → ℕ
common_degree p q = degree (expansion p q).common

-- Step: the σ with x^σ ≡ q (mod p) and 0 < σ < 2^m - 1, the first power of x that equals q; 2^m - 1 where there is none.
unfoldable pub step : ℕ → ℕ → ℕ → ℕ
step m p q = first (period m - 1) 1 (λ (e : ℕ). eqb (rem (2 ^ e) p) q)

unfoldable pub coprime_step : ℕ → ℕ → ℕ → Bool
coprime_step m p q = eqb (gcd (step m p q) (period m)) 1

-- Accepted: p is primitive, every partial quotient of q/p has degree one, and the step is coprime to 2^m - 1.
unfoldable pub accepted : ℕ → ℕ → ℕ → Bool
accepted m p q = primitive m p && (linear_quotients p q && coprime_step m p q)

-- A floor is 0 to 32, the number of output digits: with a step of at least so many no output begins with digits of the one before it.
abbrev pub largest_floor : ℕ
largest_floor = 32

abbrev pub lawful_floor : ℕ → Bool
lawful_floor floor = leb floor largest_floor

-- The step is at least the floor.
unfoldable pub reaches_floor : ℕ → ℕ → ℕ → ℕ → Bool
reaches_floor m floor p q = leb floor (step m p q)

-- Accepted at a floor: accepted, and the step is at least the floor.
unfoldable pub accepted_at : ℕ → ℕ → ℕ → ℕ → Bool
accepted_at m floor p q = accepted m p q && reaches_floor m floor p q

pub record Pair : Type 0 where
  pub p : ℕ
  pub q : ℕ

-- One level down the tree: from (F_(k-1), F_(k-2)) to (F_k, F_(k-1)) by F_k = A F_(k-1) + F_(k-2).
unfoldable pub child : ℕ → Pair → Pair
child a s = record { p = prod a s.p ⊕ s.q; q = s.p }

-- The pairs k levels below s, each quotient being x or x + 1.
unfoldable pub pairs_below : ℕ → Pair → List Pair
pairs_below zero s = s ∷ []
pairs_below (suc k) s = pairs_below k (child 2 s) ++ pairs_below k (child 3 s)

-- The tree's 2^m pairs (F_m, F_(m-1)), from F_0 = 1 and F_(-1) = 0.
unfoldable pub tree : ℕ → List Pair
tree m = pairs_below m (record { p = 1; q = 0 })
