-- Long division by b ≠ 0. Each step clears the leading coefficient, so the remainder stays below b's leading term and a = quot a b · b + rem a b.
-- A multiple of b below that term is 0, so such a quotient and remainder are the only ones: every other law names a pair that has these two facts.
-- Assumes nothing.
use Rattle.std.specs.Prelude.{◌≡◌, refl, ℕ, zero, suc, ◌+◌, ◌*◌, ◌/◌, ◌%◌, ◌^◌, ◌≤◌, ◌<◌}
use Rattle.std.proofs.Common.{sym, ◌∙◌, subst, zero-mul, one-mul, add-zero, div-lt_iff_lt-mul, arith, pow_pos, pow_mono}
use Rattle.std.proofs.Math.Path.{ap}
use Rattle.std.proofs.Math.Nat.{zero-div}
use Rattle.definitions.specs.Polynomial.{◌⊕◌, degree, prod, Division, clear, bring_down, divide, quot, rem}
use Rattle.polynomial_laws.specs.Digits.{Digit, off, on, digit, half_ind, half_double, double_even, by_digits_zero, by_digits_half}
use Rattle.polynomial_laws.specs.Sum.{⊕_lt, zero-⊕, ⊕_zero, ⊕_assoc, ⊕_cancel_both, ⊕_sums, ⊕_swap, ⊕_injective, ⊕_across, ⊕-equal}
use Rattle.polynomial_laws.specs.Sum.{⊕_double, digit-⊕, halves}
use Rattle.polynomial_laws.specs.Degree.{HasDegree, degree_is, degree_unique, lt_of_shr, one_leads, add_degree, leads_cancel}
use Rattle.polynomial_laws.specs.Product.{zero_prod, one_prod, two_prod, double_prod, digit_prod, ⊕-prod, prod_zero, prod_comm, prod_assoc}
use Rattle.polynomial_laws.specs.Product.{product_degree, multiple_small}

-- ---- one coefficient at a time
divide_zero : (b : ℕ) → divide 0 b ≡ record { quotient = 0; remainder = 0 }
divide_zero b = unfold divide in by_digits_zero (record { quotient = 0; remainder = 0 }) (bring_down (degree b) b)

pub quot_zero : (b : ℕ) → quot 0 b ≡ 0
quot_zero b = unfold quot in ap (λ (d : Division). d.quotient) (divide_zero b)

pub rem_zero : (b : ℕ) → rem 0 b ≡ 0
rem_zero b = unfold rem in ap (λ (d : Division). d.remainder) (divide_zero b)

divide_half : (a b : ℕ) → divide a b ≡ bring_down (degree b) b (a % 2) (divide (a / 2) b)
unfolding divide bring_down clear
divide_half a b =
    by_digits_half (record { quotient = 0; remainder = 0 }) (bring_down (degree b) b) (simp (zero-div, zero-mul, ⊕_zero)) a

-- the remainder with the next coefficient behind it, and what then stands at b's leading term
quot_half : (a b : ℕ) → quot a b ≡ 2 * quot (a / 2) b + (2 * rem (a / 2) b + a % 2) / 2 ^ degree b
unfolding quot rem bring_down
quot_half a b = ap (λ (d : Division). d.quotient) (divide_half a b)

rem_half : (a b : ℕ) → rem a b ≡ (2 * rem (a / 2) b + a % 2) ⊕ (2 * rem (a / 2) b + a % 2) / 2 ^ degree b * b
unfolding rem bring_down clear
rem_half a b = ap (λ (d : Division). d.remainder) (divide_half a b)

pub quot_double : (b a : ℕ) → quot (2 * a) b ≡ 2 * quot a b + 2 * rem a b / 2 ^ degree b
quot_double b a = quot_half (2 * a) b ∙ rw (half_double, double_even, add-zero)

module _ (b : ℕ) (pos : 0 < b) where
  hb : HasDegree b (degree b)
  hb = degree_is b pos

  -- ---- existence
  cleared : {t : ℕ} → Digit t → (r : ℕ) → r / 2 ^ degree b ≡ t → r ⊕ t * b < 2 ^ degree b
  cleared off r e = rw (zero-mul, ⊕_zero) (lt_of_shr (degree b) r e)
  cleared on r e = rw one-mul (leads_cancel (one_leads (degree b) e) hb)

  leading : (r : ℕ) → r < 2 * 2 ^ degree b → Digit (r / 2 ^ degree b)
  leading r h = digit _ ((div-lt_iff_lt-mul (pow_pos (degree b))).1 h)

  pub rem_lt : (a : ℕ) → rem a b < 2 ^ degree b
  rem_lt = half_ind (rw rem_zero (pow_pos (degree b))) (λ a ih. rw rem_half (cleared (leading _ (omega arith)) _ refl))

  pub next_digit : (a c : ℕ) → c < 2 → (2 * rem a b + c) / 2 ^ degree b < 2
  next_digit a c h = (div-lt_iff_lt-mul (pow_pos (degree b))).1 (omega (arith, rem_lt a))

  pub division : (a : ℕ) → prod (quot a b) b ⊕ rem a b ≡ a
  division = half_ind (rw (quot_zero, rem_zero, zero_prod, zero-⊕))
      (λ a ih.
      let q = quot (a / 2) b in
      let r = rem (a / 2) b in
      let t = (2 * r + a % 2) / 2 ^ degree b in
      let h : t < 2 = next_digit (a / 2) (a % 2) (omega arith) in
      rw (quot_half a b, rem_half a b, digit-⊕ q t h, ⊕-prod, double_prod, digit_prod (digit t h) b, ⊕_cancel_both)
      (rw (digit-⊕ r (a % 2) (omega arith), ← ⊕_assoc, ← ⊕_double, ih) (halves a)))

  -- ---- uniqueness
  pub division_unique : (a q r : ℕ) → prod q b ⊕ r ≡ a → r < 2 ^ degree b → (q ≡ quot a b) × (r ≡ rem a b)
  division_unique a q r e h =
      let same : prod q b ⊕ r ≡ prod (quot a b) b ⊕ rem a b = e ∙ sym (division a) in
      let small : prod (q ⊕ quot a b) b < 2 ^ degree b = rw (⊕-prod, ⊕_across _ _ _ _ same) (⊕_lt (degree b) r (rem a b) h (rem_lt a)) in
      let eq : q ≡ quot a b = ⊕-equal q (quot a b) (multiple_small _ b pos small) in
      (eq, ⊕_injective (prod q b) r (rem a b) (same ∙ rw eq))

  module _ (q r : ℕ) (small : r < 2 ^ degree b) where
    pub quot_unique : quot (prod q b ⊕ r) b ≡ q
    quot_unique = sym (division_unique _ q r refl small).0

    pub rem_unique : rem (prod q b ⊕ r) b ≡ r
    rem_unique = sym (division_unique _ q r refl small).1

  -- ---- of what is small, of b's degree, of a sum
  module _ (a : ℕ) (small : a < 2 ^ degree b) where
    pub quot_small : quot a b ≡ 0
    quot_small = sym (division_unique a 0 a (rw (zero_prod, zero-⊕)) small).0

    pub rem_small : rem a b ≡ a
    rem_small = sym (division_unique a 0 a (rw (zero_prod, zero-⊕)) small).1

  pub rem_rem : (a : ℕ) → rem (rem a b) b ≡ rem a b
  rem_rem a = rem_small (rem a b) (rem_lt a)

  pub rem_once : (a : ℕ) → HasDegree a (degree b) → rem a b ≡ a ⊕ b
  rem_once a h = sym (division_unique a 1 (a ⊕ b) (rw one_prod (simp ⊕_sums)) (leads_cancel h hb)).1

  module _ (a c : ℕ) where
    added : (quot a b ⊕ quot c b ≡ quot (a ⊕ c) b) × (rem a b ⊕ rem c b ≡ rem (a ⊕ c) b)
    added =
        division_unique (a ⊕ c) _ _ (rw (⊕-prod, ⊕_swap, division a, division c)) (⊕_lt (degree b) (rem a b) (rem c b) (rem_lt a) (rem_lt c))

    pub quot-⊕ : quot (a ⊕ c) b ≡ quot a b ⊕ quot c b
    quot-⊕ = sym added.0

    pub rem-⊕ : rem (a ⊕ c) b ≡ rem a b ⊕ rem c b
    rem-⊕ = sym added.1

  -- ---- of products: a factor may be reduced first
  pub rem_multiple : (q : ℕ) → rem (prod q b) b ≡ 0
  rem_multiple q = rw ⊕_zero at (rem_unique q 0 (pow_pos (degree b)))

  pub rem_prod_left : (a c : ℕ) → rem (prod (rem a b) c) b ≡ rem (prod a c) b
  rem_prod_left a c =
      let q = quot a b in
      let whole : prod a c ≡ prod (prod q c) b ⊕ prod (rem a b) c =
      ap (λ x. prod x c) (sym (division a)) ∙ rw (⊕-prod, prod_assoc q b c, prod_comm b c, ← prod_assoc q c b) in
      sym (ap (λ x. rem x b) whole ∙ rw (rem-⊕, rem_multiple, zero-⊕))

  module _ (a c : ℕ) where
    pub rem_prod_right : rem (prod a (rem c b)) b ≡ rem (prod a c) b
    rem_prod_right = rw (prod_comm a (rem c b), prod_comm a c) (rem_prod_left c a)

    pub rem_prod : rem (prod (rem a b) (rem c b)) b ≡ rem (prod a c) b
    rem_prod = rem_prod_left a (rem c b) ∙ rem_prod_right

  pub rem_double : (a : ℕ) → rem (2 * a) b ≡ rem (2 * rem a b) b
  rem_double a = rw (← two_prod a, ← two_prod (rem a b)) (sym (rem_prod_right 2 a))

  -- ---- the quotient's degree, for a of b's degree at least
  pub quotient_degree_lem : (a : ℕ) → 2 ^ degree b ≤ a → degree a ≡ degree (quot a b) + degree b
  quotient_degree_lem a large = go (quot a b) (division a)
    where
      go : (q : ℕ) → prod q b ⊕ rem a b ≡ a → degree a ≡ degree q + degree b
      go zero e = absurd (omega (arith, rw (zero_prod, zero-⊕) at e, rem_lt a))
      go (suc q) e =
          let n = degree (suc q) + degree b in
          let l : 2 ^ degree b ≤ 2 ^ n = pow_mono (omega arith) in
          degree_unique a n (subst (λ x. HasDegree x n) e
          (add_degree (product_degree (degree (suc q)) (degree_is (suc q) (omega arith)) hb) (omega (arith, rem_lt a))))

-- where b divides p, the remainder by p keeps the remainder by b
pub rem_of_factor : (b p : ℕ) → 0 < b → 0 < p → rem p b ≡ 0 → (a : ℕ) → rem (rem a p) b ≡ rem a b
rem_of_factor b p pos nonzero factor a =
    let none : rem (prod (quot a p) p) b ≡ 0 = sym (rem_prod_right b pos (quot a p) p) ∙ rw (factor, prod_zero) (rem_zero b) in
    sym (ap (λ x. rem x b) (sym (division p nonzero a)) ∙ rw (rem-⊕ b pos, none, zero-⊕))
