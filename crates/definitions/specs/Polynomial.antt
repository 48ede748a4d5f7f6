-- Binary polynomials, written as numbers: bit i is the coefficient of x^i. Sum, degree, product and long division; all else is said in these.
-- Assumes nothing.
use Rattle.std.specs.Prelude.{◌+◌, ◌*◌, ◌/◌, ◌%◌, ◌^◌}
use Rattle.definitions.specs.Base.{ℕ, zero, suc, bit_xor}

infixl 62 ◌⊕◌
-- The sum, without carries.
unfoldable pub ◌⊕◌ : ℕ → ℕ → ℕ
a ⊕ b = bit_xor a b

-- The degree: how often a can be halved before 1 is left; 0 for a = 0. At most n halvings are tried, and a of them are enough.
unfoldable pub degree_within : ℕ → ℕ → ℕ
degree_within zero a = 0
degree_within (suc n) zero = 0
degree_within (suc n) (suc zero) = 0
degree_within (suc n) (suc (suc a)) = suc (degree_within n (suc (suc a) / 2))

unfoldable pub degree : ℕ → ℕ
degree a = degree_within a a

-- A function of a number by its binary digits, the highest first: z for 0, and g c for one more digit c behind. At most n digits are taken.
module _ {X : Type 0} (z : X) (g : ℕ → X → X) where
  unfoldable pub by_digits_within : ℕ → ℕ → X
  by_digits_within zero a = z
  by_digits_within (suc n) zero = z
  by_digits_within (suc n) (suc a) = g (suc a % 2) (by_digits_within n (suc a / 2))

  unfoldable pub by_digits : ℕ → X
  by_digits a = by_digits_within a a

-- The product, without carries: for each digit c of a, the highest first, what there is is doubled and c times b is added.
unfoldable pub prod : ℕ → ℕ → ℕ
prod a b = by_digits 0 (λ c s. 2 * s ⊕ c * b) a

unfoldable pub power : ℕ → ℕ → ℕ
power q zero = 1
power q (suc j) = prod q (power q j)

pub record Division : Type 0 where
  pub quotient : ℕ
  pub remainder : ℕ

-- r with its coefficient at x^m cleared by b of degree m.
unfoldable pub clear : ℕ → ℕ → ℕ → ℕ
clear m b r = r ⊕ r / 2 ^ m * b

-- One step of long division by b of degree m: the next coefficient c comes down behind the remainder, and what then stands at x^m is the
-- quotient's next coefficient.
unfoldable pub bring_down : ℕ → ℕ → ℕ → Division → Division
bring_down m b c d =
    let r = 2 * d.remainder + c in
    record { quotient = 2 * d.quotient + r / 2 ^ m; remainder = clear m b r }

-- Long division of a by b: the coefficients of a come down one at a time, the highest first.
unfoldable pub divide : ℕ → ℕ → Division
divide a b = by_digits (record { quotient = 0; remainder = 0 }) (bring_down (degree b) b) a

unfoldable pub quot : ℕ → ℕ → ℕ
quot a b = (divide a b).quotient

unfoldable pub rem : ℕ → ℕ → ℕ
rem a b = (divide a b).remainder
