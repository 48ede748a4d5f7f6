-- K, the largest degree among the partial quotients, and the degree of the common factor, one quotient at a time: K of (p, q) is the degree of the
-- first quotient or K of (q, rem p q), and both pairs have one common factor. A quotient's degree is the difference of the degrees of the two that
-- are divided. In words, K is a degree that some quotient has and none exceeds. Assumes nothing.
use Rattle.std.specs.Prelude.{◌≡◌, refl, ℕ, zero, suc, ◌-◌, ◌^◌, ◌≤◌, ◌<◌, max}
use Rattle.std.proofs.Common.{sym, ap, ◌∙◌, arith}
use mathlib.Core.List.{List, [], ◌∷◌, Memᴰ}
use Rattle.std.proofs.Math.Decide.{dec_le}
use Rattle.definitions.specs.Polynomial.{degree, quot, rem}
use Rattle.definitions.specs.Generator.{found, expansion, highest, quotient_degree, common_degree}
use Rattle.polynomial_laws.specs.Degree.{degree_zero, degree_most}
use Rattle.polynomial_laws.specs.Division.{quot_small, quotient_degree_lem}
use Rattle.fraction_laws.specs.Expansion.{expansion_zero, expansion_more}
use Rattle.fraction_laws.specs.Euclid.{PartialQuotients, expansion_euclid, euclid_expansion}

-- ---- one quotient at a time

pub quotient_degree_zero : (p : ℕ) → quotient_degree p 0 ≡ 0
unfolding quotient_degree highest
quotient_degree_zero p = rw expansion_zero

pub common_degree_zero : (p : ℕ) → common_degree p 0 ≡ degree p
unfolding common_degree
common_degree_zero p = rw expansion_zero

module _ (p q : ℕ) (nonzero : 0 < q) where
  pub quotient_degree_more : quotient_degree p q ≡ max (degree (quot p q)) (quotient_degree q (rem p q))
  unfolding quotient_degree highest found
  quotient_degree_more = rw (expansion_more p q nonzero)

  pub common_degree_more : common_degree p q ≡ common_degree q (rem p q)
  unfolding common_degree found
  common_degree_more = rw (expansion_more p q nonzero)

  -- THE DEGREE OF A QUOTIENT: by how much p's degree is above q's.
  pub quotient_drop : degree (quot p q) ≡ degree p - degree q
  quotient_drop = go (dec_le (2 ^ degree q) p)
    where
      low : (a : ℕ) → a < 2 ^ degree q → degree a ≤ degree q
      low zero h = omega (arith, degree_zero)
      low (suc a) h = omega (arith, degree_most (suc a) (degree q) (omega arith) h)

      go : Dec (2 ^ degree q ≤ p) → degree (quot p q) ≡ degree p - degree q
      go (yes l) = omega (arith, quotient_degree_lem q nonzero p l)
      go (no l) =
          let h : p < 2 ^ degree q = omega arith in
          omega (arith, ap degree (quot_small q nonzero p h), degree_zero, low p h)

-- ---- in words

-- k is the largest degree among the partial quotients of q/p, as Euclid's algorithm has them: some quotient has it, and none a larger one.
pub record LargestDegree (p q k : ℕ) : Type 0 where
  pub quotients : List ℕ
  pub euclid : PartialQuotients p q quotients
  pub quotient : ℕ
  pub among : Memᴰ quotient quotients
  pub has : degree quotient ≡ k
  pub most : (a : ℕ) → Memᴰ a quotients → degree a ≤ k

highest_most : (l : List ℕ) (a : ℕ) → Memᴰ a l → degree a ≤ highest l
unfolding highest
highest_most [] a i = elim i [ ]
highest_most (x ∷ l) a (Memᴰ.head e) = omega (arith, ap degree e)
highest_most (x ∷ l) a (Memᴰ.tail i) = omega (arith, highest_most l a i)

highest_has : (x : ℕ) (l : List ℕ) → (a : ℕ) × Memᴰ a (x ∷ l) × (degree a ≡ highest (x ∷ l))
unfolding highest
highest_has x [] = (x, Memᴰ.head refl, omega arith)
highest_has x (y ∷ l) = go (dec_le (highest (y ∷ l)) (degree x)) (highest_has y l)
  where
    go : Dec (highest (y ∷ l) ≤ degree x) → (a : ℕ) × Memᴰ a (y ∷ l) × (degree a ≡ highest (y ∷ l))
        → (a : ℕ) × Memᴰ a (x ∷ y ∷ l) × (degree a ≡ highest (x ∷ y ∷ l))
    go (yes h) rest = (x, Memᴰ.head refl, omega arith)
    go (no h) rest = (rest.0, Memᴰ.tail rest.1, omega (arith, rest.2))

-- Where q is not 0 there is a quotient, so K is such a degree, and no other number is.
module _ (p q : ℕ) (nonzero : 0 < q) where
  pub quotient_degree_largest : LargestDegree p q (quotient_degree p q)
  unfolding quotient_degree found
  quotient_degree_largest =
      let whole = expansion_more p q nonzero in
      let first = highest_has (quot p q) (expansion q (rem p q)).quotients in
      record {
        quotients = (expansion p q).quotients;
        euclid = expansion_euclid p q;
        quotient = first.0;
        among = rw whole first.1;
        has = rw whole first.2;
        most = highest_most (expansion p q).quotients;
      }

  pub largest_quotient_degree : (k : ℕ) → LargestDegree p q k → quotient_degree p q ≡ k
  largest_quotient_degree k h =
      let d = quotient_degree_largest in
      let same = euclid_expansion h.euclid ∙ sym (euclid_expansion d.euclid) in
      omega (arith, h.has, d.has, h.most d.quotient (rw same d.among), d.most h.quotient (rw (← same) h.among))
