-- Reduction by comparison: v is reduced by b to the smaller of v and v ⊕ b, and by a list of vectors one after the other, the oldest first.
-- The smaller one is that without the digit at the degree of b, so reduction is additive. It never raises, it takes the rows that its vectors
-- come from to 0, and an additive function that is 0 at these rows does not see it.
-- Assumes nothing.
use Rattle.std.specs.Prelude.{◌≡◌, refl, List, [], ◌∷◌, ℕ, zero, suc, ◌+◌, ◌*◌, ◌/◌, ◌%◌, ◌^◌, ◌≤◌, ◌<◌, min}
use Rattle.std.proofs.Common.{ap, ap₂, ◌∙◌, zero-mul, one-mul, mul-zero, lt_of_not-le, arith}
use Rattle.std.proofs.Math.Decide.{dec_lt}
use Rattle.std.specs.Int.Bits.{xor_add_and}
use Rattle.std.proofs.lemmas.Nat.{and_mask}
use Rattle.std.proofs.Math.Pow.{shr_mono}
use Rattle.definitions.specs.Polynomial.{◌⊕◌, degree}
use Rattle.polynomial_laws.specs.Digits.{Digit, off, on, lowest}
use Rattle.polynomial_laws.specs.Sum.{⊕_def, ⊕_self, ⊕_zero, ⊕_shr, ⊕_swap, lowest_mul}
use Rattle.polynomial_laws.specs.Degree.{degree_is, leading_one}
use Rattle.polynomial_laws.specs.Additive.{Additive}

-- ---- definitions

unfoldable pub reduce_by : ℕ → ℕ → ℕ
reduce_by b v = min v (v ⊕ b)

-- The vectors stand newest first.
unfoldable pub reduce : List ℕ → ℕ → ℕ
reduce [] v = v
reduce (b ∷ bs) v = reduce_by b (reduce bs v)

-- Of rows, newest first, the vectors that reduce: each row reduced by those older than it.
unfoldable pub basis : List ℕ → List ℕ
basis [] = []
basis (r ∷ rs) = reduce (basis rs) r ∷ basis rs

abbrev pub reduced : List ℕ → ℕ → ℕ
reduced rs = reduce (basis rs)

abbrev pub Each : (ℕ → Type 0) → List ℕ → Type 0
Each Q [] = Unit {0}
Each Q (r ∷ rs) = Q r × Each Q rs

pub each_map : (Q R : ℕ → Type 0) → ((r : ℕ) → Q r → R r) → (rs : List ℕ) → Each Q rs → Each R rs
each_map Q R into [] all = tt
each_map Q R into (r ∷ rs) all = (into r all.0, each_map Q R into rs all.1)

pub min_either : (Q : ℕ → Type 0) (a b : ℕ) → Q a → Q b → Q (min a b)
min_either Q a b at_a at_b = go (dec_lt a b)
  where
    go : Dec (a < b) → Q (min a b)
    go (yes l) = let e : min a b ≡ a = omega arith in rw e at_a
    go (no l) = let e : min a b ≡ b = omega arith in rw e at_b

-- ---- one vector
-- adding 1 turns the last digit
⊕-one : (u : ℕ) → (u ⊕ 1) + 2 * (u % 2) ≡ u + 1
⊕-one u = rw ⊕_def (omega (arith, xor_add_and u 1, and_mask u 1))

-- the smaller one is that without the digit at the degree of b
reduce_by_clears : (b v : ℕ) → reduce_by b v ≡ v ⊕ v / 2 ^ degree b % 2 * b
unfolding reduce_by
reduce_by_clears zero v = simp (mul-zero, ⊕_zero) (omega arith)
reduce_by_clears (suc b) v = go (lowest (v / 2 ^ k)) refl
  where
    k : ℕ
    k = degree (suc b)

    shift : (v ⊕ suc b) / 2 ^ k ≡ v / 2 ^ k ⊕ 1
    shift = ⊕_shr v (suc b) k ∙ ap (λ (z : ℕ). v / 2 ^ k ⊕ z) (leading_one (degree_is (suc b) (omega arith)))

    by_shift : (x y : ℕ) → x / 2 ^ k < y / 2 ^ k → x < y
    by_shift x y l = lt_of_not-le λ (n : y ≤ x). omega (arith, shr_mono k n)

    go : {c : ℕ} → Digit c → v / 2 ^ k % 2 ≡ c → min v (v ⊕ suc b) ≡ v ⊕ c * suc b
    go off e = simp (zero-mul, ⊕_zero) (omega (arith, by_shift v (v ⊕ suc b) (omega (arith, shift, ⊕-one (v / 2 ^ k)))))
    go on e = simp one-mul (omega (arith, by_shift (v ⊕ suc b) v (omega (arith, shift, ⊕-one (v / 2 ^ k)))))

reduce_by_additive : (b : ℕ) → Additive (reduce_by b)
reduce_by_additive b u v =
    let k = degree b in
    rw (reduce_by_clears b (u ⊕ v), reduce_by_clears b u, reduce_by_clears b v, ⊕_shr u v k, lowest_mul (u / 2 ^ k) (v / 2 ^ k) b) (⊕_swap u v (u / 2 ^ k % 2 * b) (v / 2 ^ k % 2 * b))

-- ---- a list of vectors
pub reduce_additive : (bs : List ℕ) → Additive (reduce bs)
unfolding reduce
reduce_additive [] u v = refl
reduce_additive (b ∷ bs) u v = ap (reduce_by b) (reduce_additive bs u v) ∙ reduce_by_additive b (reduce bs u) (reduce bs v)

pub reduce_le : (bs : List ℕ) (v : ℕ) → reduce bs v ≤ v
unfolding reduce reduce_by
reduce_le [] v = omega arith
reduce_le (b ∷ bs) v = omega (arith, reduce_le bs v)

-- ---- the vectors of rows
pub reduced_rows : (rs : List ℕ) → Each (λ r. reduced rs r ≡ 0) rs
unfolding basis reduce reduce_by
reduced_rows [] = tt
reduced_rows (r ∷ rs) =
    let b = reduced rs r in
    (omega (arith, ⊕_self b), each_map (λ x. reduced rs x ≡ 0) (λ x. min (reduced rs x) (reduced rs x ⊕ b) ≡ 0) (λ x e. omega arith) rs (reduced_rows rs))

-- the smaller one is v or v ⊕ b, and b is seen as 0
pub reduced_unseen : (g : ℕ → ℕ) → Additive g → (rs : List ℕ) → Each (λ r. g r ≡ 0) rs → (v : ℕ) → g (reduced rs v) ≡ g v
unfolding basis reduce reduce_by
reduced_unseen g sums [] zeros v = refl
reduced_unseen g sums (r ∷ rs) zeros v =
    let b = reduced rs r in
    let w = reduced rs v in
    let same : g w ≡ g v = reduced_unseen g sums rs zeros.1 v in
    let none : g b ≡ 0 = reduced_unseen g sums rs zeros.1 r ∙ zeros.0 in
    min_either (λ x. g x ≡ g v) w (w ⊕ b) same (sums w b ∙ ap₂ ◌⊕◌ same none ∙ ⊕_zero (g v))
