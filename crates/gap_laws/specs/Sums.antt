-- Sums f 1 + .. + f n: of functions that agree, over a table in either order, and without terms of 0 at the end. And a function that takes each of k values
-- at equally many of the numbers below n: k times as many are n. By their recursion.
-- Assumes nothing.
use Rattle.std.specs.Prelude.{◌≡◌, refl, not, ◌&&◌, ℕ, zero, suc, ◌+◌, ◌-◌, ◌*◌, ◌≤◌, ◌<◌, eqb, ltb}
use Rattle.std.proofs.Common.{sym, ap₂, ◌∙◌, suc-mul, zero-mul, arith, ltb-true, lt-ltb, le-ltb, eq-eqb, ne_eqb}
use Rattle.std.proofs.Math.Bool.{and-true, and-false}
use Rattle.std.proofs.Math.Decide.{dec_le, ℕ_discrete}
use Rattle.definitions.specs.Number.{bit, count, sum}
use Rattle.number_laws.specs.Truth.{truth_equal, le_unless}
use Rattle.number_laws.specs.Count.{count_ext, count_all, count_split, count_some}

pub sum_more : (n : ℕ) (f : ℕ → ℕ) → sum (suc n) f ≡ f (suc n) + sum n f
unfolding sum
sum_more n f = refl

pub sum_ext : (n : ℕ) (f g : ℕ → ℕ) → ((i : ℕ) → 1 ≤ i → i ≤ n → f i ≡ g i) → sum n f ≡ sum n g
unfolding sum
sum_ext zero f g same = refl
sum_ext (suc n) f g same = ap₂ ◌+◌ (same (suc n) (omega arith) (omega arith)) (sum_ext n f g (λ i low high. same i low (omega arith)))

-- ---- a table's sum by rows is its sum by columns
sum_add : (n : ℕ) (f g : ℕ → ℕ) → sum n (λ i. f i + g i) ≡ sum n f + sum n g
unfolding sum
sum_add zero f g = refl
sum_add (suc n) f g = omega (arith, sum_add n f g)

sum_zero : (n : ℕ) → sum n (λ i. 0) ≡ 0
unfolding sum
sum_zero zero = refl
sum_zero (suc n) = omega (arith, sum_zero n)

pub sum_exchange : (n k : ℕ) (f : ℕ → ℕ → ℕ) → sum n (λ i. sum k (f i)) ≡ sum k (λ j. sum n (λ i. f i j))
unfolding sum
sum_exchange zero k f = sym (sum_zero k)
sum_exchange (suc n) k f = omega (arith, sum_exchange n k f, sum_add k (f (suc n)) (λ j. sum n (λ i. f i j)))

-- ---- k terms more at the end, and terms of 0
pub sum_shorter : (k n : ℕ) (f : ℕ → ℕ) → sum n f ≤ sum (k + n) f
unfolding sum
sum_shorter zero n f = let e : 0 + n ≡ n = omega arith in rw e (omega arith)
sum_shorter (suc k) n f = let e : suc k + n ≡ suc (k + n) = omega arith in rw e (omega (arith, sum_shorter k n f))

pub sum_cut : (k n : ℕ) (f : ℕ → ℕ) → ((i : ℕ) → n < i → i ≤ k + n → f i ≡ 0) → sum (k + n) f ≡ sum n f
unfolding sum
sum_cut zero n f none = let e : 0 + n ≡ n = omega arith in rw e
sum_cut (suc k) n f none =
    let e : suc k + n ≡ suc (k + n) = omega arith in
    rw e (omega (arith, none (suc (k + n)) (omega arith) (omega arith), sum_cut k n f (λ i low high. none i low (omega arith))))

-- The numbers 1 .. n that are above w.
pub sum_above : (w n : ℕ) → sum n (λ i. bit (ltb w i)) ≡ n - w
unfolding sum
sum_above w zero = omega arith
sum_above w (suc n) = go (dec_le (suc n) w) (sum_above w n)
  where
    go : Dec (suc n ≤ w) → sum n (λ i. bit (ltb w i)) ≡ n - w → bit (ltb w (suc n)) + sum n (λ i. bit (ltb w i)) ≡ suc n - w
    go (yes l) below = rw (le-ltb w (suc n) l) (omega arith)
    go (no l) below = rw (lt-ltb w (suc n) (omega arith)) (omega arith)

-- ---- numbers by the values of a function
-- x is below k + 1 where it is k or below k
below_last : (x k : ℕ) → ((ltb x (suc k) && eqb x k) ≡ eqb x k) × ((ltb x (suc k) && not (eqb x k)) ≡ ltb x k)
below_last x k = go (ℕ_discrete x k)
  where
    go : Dec (x ≡ k) → ((ltb x (suc k) && eqb x k) ≡ eqb x k) × ((ltb x (suc k) && not (eqb x k)) ≡ ltb x k)
    go (yes e) = rw (eq-eqb x k e, lt-ltb x (suc k) (omega arith), le-ltb x k (omega arith)) (refl, refl)
    go (no e) =
        let same : ltb x (suc k) ≡ ltb x k =
        truth_equal _ _ (λ t. lt-ltb x k (omega (arith, ltb-true x (suc k) t)), λ t. lt-ltb x (suc k) (omega (arith, ltb-true x k t))) in
        rw (ne_eqb x k e, same) (and-false (ltb x k), and-true (ltb x k))

count_below : (n k c : ℕ) (f : ℕ → ℕ) → ((b : ℕ) → b < k → count n (λ h. eqb (f h) b) ≡ c) → count n (λ h. ltb (f h) k) ≡ k * c
count_below n zero c f each =
    let none : count n (λ h. ltb (f h) 0) ≤ 0 =
    le_unless (λ some. let w = count_some n (λ h. ltb (f h) 0) some in omega (arith, ltb-true (f w.number) 0 w.passes)) in
    omega (arith, zero-mul c)
count_below n (suc k) c f each =
    let last : count n (λ h. ltb (f h) (suc k) && eqb (f h) k) ≡ c = count_ext n _ _ (λ h l. (below_last (f h) k).0) ∙ each k (omega arith) in
    let rest : count n (λ h. ltb (f h) (suc k) && not (eqb (f h) k)) ≡ k * c =
    count_ext n _ _ (λ h l. (below_last (f h) k).1) ∙ count_below n k c f (λ b l. each b (omega arith)) in
    omega (arith, count_split n (λ h. ltb (f h) (suc k)) (λ h. eqb (f h) k), suc-mul k c)

-- Each of the numbers below n has a value below k, and each value has c of them.
pub equal_values : (n k c : ℕ) (f : ℕ → ℕ) → ((h : ℕ) → f h < k) → ((b : ℕ) → b < k → count n (λ h. eqb (f h) b) ≡ c) → k * c ≡ n
equal_values n k c f small each = sym (count_below n k c f each) ∙ count_all n (λ h. ltb (f h) k) (λ h l. lt-ltb (f h) k (small h))
