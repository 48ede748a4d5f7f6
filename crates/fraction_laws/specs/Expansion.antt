-- Euclid's algorithm, step by step: remainders fall, so the number of steps that may be taken does not matter once it is enough, and the expansion of
-- (p, q) is the first quotient before the expansion of (q, rem p q). What each step keeps holds of every pair. Assumes nothing.
use Rattle.std.specs.Prelude.{◌≡◌, refl, [], ℕ, zero, suc, ◌≤◌, ◌<◌}
use Rattle.std.proofs.Common.{sym, ap, arith}
use Rattle.definitions.specs.Polynomial.{degree, quot, rem}
use Rattle.definitions.specs.Generator.{found, expansion_within, expansion}
use Rattle.polynomial_laws.specs.Degree.{degree_is}
use Rattle.polynomial_laws.specs.Division.{rem_lt}

pub rem_less : (p q : ℕ) → 0 < q → rem p q < q
rem_less p q pos = omega (arith, rem_lt q pos p, (degree_is q pos).least)

ended : (n p : ℕ) → expansion_within n p 0 ≡ record { quotients = []; common = p }
unfolding expansion_within
ended zero p = refl
ended (suc n) p = refl

enough : (n k p q : ℕ) → q ≤ n → q ≤ k → expansion_within n p q ≡ expansion_within k p q
unfolding expansion_within
enough zero k p zero h l = sym (ended k p)
enough zero k p (suc q) h l = absurd (omega arith)
enough (suc n) k p zero h l = sym (ended k p)
enough (suc n) zero p (suc q) h l = absurd (omega arith)
enough (suc n) (suc k) p (suc q) h l =
    let less = rem_less p (suc q) (omega arith) in
    ap (found (quot p (suc q))) (enough n k (suc q) (rem p (suc q)) (omega arith) (omega arith))

pub expansion_zero : (p : ℕ) → expansion p 0 ≡ record { quotients = []; common = p }
expansion_zero p = unfold expansion in ended 0 p

pub expansion_more : (p q : ℕ) → 0 < q → expansion p q ≡ found (quot p q) (expansion q (rem p q))
unfolding expansion expansion_within
expansion_more p zero pos = absurd (omega arith)
expansion_more p (suc q) pos =
    let less = rem_less p (suc q) pos in
    ap (found (quot p (suc q))) (enough q (rem p (suc q)) (suc q) (rem p (suc q)) (omega arith) (omega arith))

-- What holds of (p, 0), and of (p, q) where it holds of (q, rem p q), holds of all pairs.
module _ (P : ℕ → ℕ → Type 0) (last : (p : ℕ) → P p 0) (more : (p q : ℕ) → 0 < q → P q (rem p q) → P p q) where
  steps_within : (n p q : ℕ) → q ≤ n → P p q
  steps_within zero p zero h = last p
  steps_within zero p (suc q) h = absurd (omega arith)
  steps_within (suc n) p zero h = last p
  steps_within (suc n) p (suc q) h =
      let pos : 0 < suc q = omega arith in
      let less = rem_less p (suc q) pos in
      more p (suc q) pos (steps_within n (suc q) (rem p (suc q)) (omega arith))

  pub euclid_ind : (p q : ℕ) → P p q
  euclid_ind p q = steps_within q p q (omega arith)
