-- Products. Multiplication by b is additive and doubles what is doubled, and no other such map takes 1 to b: so a law of products is shown by
-- two maps that agree at 1, and the products make a commutative ring. Degrees add, half by half of the left factor.
-- Assumes nothing.
use Rattle.std.specs.Prelude.{◌≡◌, refl, ℕ, zero, suc, ◌+◌, ◌*◌, ◌/◌, ◌%◌, ◌^◌, ◌≤◌, ◌<◌}
use Rattle.std.proofs.Common.{sym, ap, ◌∙◌, zero-mul, one-mul, zero-add, suc-add, arith, pow_mono}
use Rattle.definitions.specs.Polynomial.{◌⊕◌, degree, prod}
use Rattle.polynomial_laws.specs.Digits.{Digit, off, on, lowest, half_ind, half_double, double_even, digit_mul_le, by_digits_zero, by_digits_half}
use Rattle.polynomial_laws.specs.Sum.{half-⊕, zero-⊕, ⊕_zero, ⊕_swap, ⊕_sums, ⊕_double, halves, lowest_mul}
use Rattle.polynomial_laws.specs.Degree.{HasDegree, degree_is, double_degree, half_degree, add_degree}

-- ---- the product as it is defined
pub zero_prod : (b : ℕ) → prod 0 b ≡ 0
zero_prod b = unfold prod in by_digits_zero 0 (λ c s. 2 * s ⊕ c * b)

pub prod_half : (a b : ℕ) → prod a b ≡ 2 * prod (a / 2) b ⊕ a % 2 * b
prod_half a b = unfold prod in by_digits_half 0 (λ c s. 2 * s ⊕ c * b) (simp (zero-mul, ⊕_zero)) a

pub one_prod : (b : ℕ) → prod 1 b ≡ b
one_prod b = prod_half 1 b ∙ rw (zero_prod, zero-⊕, one-mul)

pub double_prod : (a b : ℕ) → prod (2 * a) b ≡ 2 * prod a b
double_prod a b = prod_half (2 * a) b ∙ rw (half_double, double_even, zero-mul, ⊕_zero)

pub two_prod : (b : ℕ) → prod 2 b ≡ 2 * b
two_prod b = double_prod 1 b ∙ rw one_prod

pub digit_prod : {c : ℕ} → Digit c → (b : ℕ) → prod c b ≡ c * b
digit_prod off b = zero_prod b ∙ sym (zero-mul b)
digit_prod on b = one_prod b ∙ sym (one-mul b)

pub ⊕-prod : (a c b : ℕ) → prod (a ⊕ c) b ≡ prod a b ⊕ prod c b
⊕-prod = half_ind (λ c b. simp (zero-⊕, zero_prod))
    (λ a ih c b.
    rw (prod_half (a ⊕ c) b, half-⊕, ih (c / 2) b, lowest_mul, ⊕_double, prod_half a b, prod_half c b)
    (⊕_swap (2 * prod (a / 2) b) (2 * prod (c / 2) b) (a % 2 * b) (c % 2 * b)))

-- ---- the only map of its kind
module _ (f : ℕ → ℕ) (sum : (a c : ℕ) → f (a ⊕ c) ≡ f a ⊕ f c) (double : (a : ℕ) → f (2 * a) ≡ 2 * f a) where
  at_zero : f 0 ≡ 0
  at_zero = omega (arith, double 0)

  at_digit : {c : ℕ} → Digit c → f c ≡ c * f 1
  at_digit off = at_zero ∙ sym (zero-mul (f 1))
  at_digit on = sym (one-mul (f 1))

  linear_prod : (a : ℕ) → f a ≡ prod a (f 1)
  linear_prod = half_ind (at_zero ∙ sym (zero_prod (f 1)))
      (λ a ih. ap f (sym (halves a)) ∙ rw (sum, double, ih, at_digit (lowest a)) (sym (prod_half a (f 1))))

-- ---- the ring
pub prod_zero : (a : ℕ) → prod a 0 ≡ 0
prod_zero a = sym (linear_prod (λ a. 0) (λ a c. sym (⊕_zero 0)) (λ a. refl) a)

pub prod_one : (a : ℕ) → prod a 1 ≡ a
prod_one a = sym (linear_prod (λ a. a) (λ a c. refl) (λ a. refl) a)

pub prod_double : (a b : ℕ) → prod a (2 * b) ≡ 2 * prod a b
prod_double a b = sym (linear_prod (λ a. 2 * prod a b) (λ a c. simp (⊕-prod, ⊕_double)) (λ a. simp double_prod) a ∙ rw one_prod)

pub prod-⊕ : (a b c : ℕ) → prod a (b ⊕ c) ≡ prod a b ⊕ prod a c
prod-⊕ a b c =
    sym (linear_prod (λ a. prod a b ⊕ prod a c)
    (λ a d. simp ⊕-prod (⊕_swap (prod a b) (prod d b) (prod a c) (prod d c))) (λ a. simp (double_prod, ⊕_double)) a ∙ simp one_prod)

pub prod_assoc : (a b c : ℕ) → prod (prod a b) c ≡ prod a (prod b c)
prod_assoc a b c = linear_prod (λ a. prod (prod a b) c) (λ a d. simp ⊕-prod) (λ a. simp double_prod) a ∙ rw one_prod

pub prod_comm : (a b : ℕ) → prod a b ≡ prod b a
prod_comm a b = sym (linear_prod (prod b) (prod-⊕ b) (prod_double b) a ∙ rw prod_one)

pub prod_left_comm : (a b c : ℕ) → prod a (prod b c) ≡ prod b (prod a c)
prod_left_comm a b c = rw (← prod_assoc a, prod_comm a b, prod_assoc)

-- the square of a sum: both mixed products cancel
pub square-⊕ : (a b : ℕ) → prod (a ⊕ b) (a ⊕ b) ≡ prod a a ⊕ prod b b
square-⊕ a b = rw (⊕-prod, prod-⊕, prod-⊕, prod_comm b a) (simp ⊕_sums)

-- simp by this set decides an equation of products
pub ruleset prod_factors = (prod_assoc, prod_comm, prod_left_comm)

-- ---- degrees
pub product_degree : (m : ℕ) {a b n : ℕ} → HasDegree a m → HasDegree b n → HasDegree (prod a b) (m + n)
product_degree zero {a} {b} {n} h k =
    let one : a ≡ 1 = omega arith in
    rw (one, one_prod, zero-add) k
product_degree (suc m) {a} {b} {n} h k =
    let small : a % 2 * b ≤ b = digit_mul_le (lowest a) b in
    let below : 2 ^ suc n ≤ 2 ^ suc (m + n) = pow_mono (omega arith) in
    rw (prod_half a b, suc-add) (add_degree (double_degree (product_degree m (half_degree h) k)) (omega arith))

pub multiple_small : (q b : ℕ) → 0 < b → prod q b < 2 ^ degree b → q ≡ 0
multiple_small zero b pos h = refl
multiple_small (suc q) b pos h =
    let k = product_degree (degree (suc q)) (degree_is (suc q) (omega arith)) (degree_is b pos) in
    let l : 2 ^ degree b ≤ 2 ^ (degree (suc q) + degree b) = pow_mono (omega arith) in
    absurd (omega arith)
