-- Decimal digits one at a time: the last digit stands behind those of a tenth of the number.
-- `decimal_within` is the same for every bound that is large enough, since a tenth is smaller than the number.
-- Assumes nothing.
use Rattle.std.specs.Prelude.{◌≡◌, refl, Bool, true, false, List, [], ◌∷◌, ◌++◌, ℕ, zero, suc, ◌+◌, ◌-◌, ◌/◌, ◌%◌, ◌^◌, ◌≤◌, ◌<◌, ltb, length, set}
use Rattle.std.proofs.Common.{sym, ap, ◌∙◌, pow-suc, arith, length-append, lt-ltb, le-ltb, ltb-true, ltb-false}
use Rattle.std.specs.Fmt.{decimal as std_decimal}
use Rattle.std.proofs.lemmas.Fmt.{decimal_by_steps}
use Rattle.definitions.specs.Number.{over}
use Rattle.definitions.specs.Listing.{digit_zero, decimal, decimal_within}
use Rattle.slice_laws.specs.Over.{over_one, over_last}

-- Two bounds that are large enough.
decimal_bound : (i j n : ℕ) → n < i → n < j → decimal_within i n ≡ decimal_within j n
unfolding decimal_within
decimal_bound zero j n h k = absurd (omega arith)
decimal_bound (suc i) zero n h k = absurd (omega arith)
decimal_bound (suc i) (suc j) n h k = go (ltb n 10) refl (λ (d : 10 ≤ n). decimal_bound i j (n / 10) (omega arith) (omega arith))
  where
    go : (b : Bool) → ltb n 10 ≡ b → (10 ≤ n → decimal_within i (n / 10) ≡ decimal_within j (n / 10)) → decimal_within (suc i) n ≡ decimal_within (suc j) n
    go true e ih = rw (e, decimal_within)
    go false e ih = rw (e, decimal_within, ih (ltb-false n 10 e))

pub decimal_digit : (n : ℕ) → n < 10 → decimal n ≡ (digit_zero + n) ∷ []
unfolding decimal decimal_within
decimal_digit n h = rw (lt-ltb n 10 h, decimal_within)

pub decimal_more : (n : ℕ) → 10 ≤ n → decimal n ≡ decimal (n / 10) ++ (digit_zero + n % 10) ∷ []
unfolding decimal decimal_within
decimal_more n h =
    rw (le-ltb n 10 h, decimal_within)
    (ap (λ (l : List ℕ). l ++ (digit_zero + n % 10) ∷ []) (decimal_bound n (suc (n / 10)) (n / 10) (omega arith) (omega arith)))

-- A number has at least one digit and at most one more than its value.
pub decimal_length_more : (n : ℕ) → 10 ≤ n → length (decimal n) ≡ suc (length (decimal (n / 10)))
decimal_length_more n h = ap length (decimal_more n h) ∙ simp length-append (omega arith)

within_length : (i n : ℕ) → length (decimal_within i n) ≤ i
unfolding decimal_within
within_length zero n = omega arith
within_length (suc i) n = go (ltb n 10) refl (within_length i (n / 10))
  where
    go : (b : Bool) → ltb n 10 ≡ b → length (decimal_within i (n / 10)) ≤ i → length (decimal_within (suc i) n) ≤ suc i
    go true e ih = rw (e, decimal_within) (omega arith)
    go false e ih = rw (e, decimal_within) (simp length-append (omega arith))

pub decimal_short : (n : ℕ) → length (decimal n) ≤ suc n
unfolding decimal
decimal_short n = within_length (suc n) n

pub decimal_some : (n : ℕ) → 1 ≤ length (decimal n)
decimal_some n = go (ltb n 10) refl
  where
    go : (b : Bool) → ltb n 10 ≡ b → 1 ≤ length (decimal n)
    go true e = omega (arith, ap length (decimal_digit n (ltb-true n 10 e)))
    go false e = omega (arith, decimal_length_more n (ltb-false n 10 e))

-- A number below 10^k has at most k digits: a tenth of it has one less.
digits_few : (k n : ℕ) → n < 10 ^ suc k → length (decimal n) ≤ suc k
digits_few zero n h = omega (arith, ap length (decimal_digit n h))
digits_few (suc k) n h = go (ltb n 10) refl (digits_few k (n / 10))
  where
    go : (b : Bool) → ltb n 10 ≡ b → (n / 10 < 10 ^ suc k → length (decimal (n / 10)) ≤ suc k) → length (decimal n) ≤ suc (suc k)
    go true e ih = omega (arith, ap length (decimal_digit n (ltb-true n 10 e)))
    go false e ih =
        let tenfold = pow-suc 10 (suc k) in
        omega (arith, decimal_length_more n (ltb-false n 10 e), ih (omega arith))

pub ten_digits : (n : ℕ) → n < 2 ^ 32 → length (decimal n) ≤ 10
ten_digits n h = digits_few 9 n (omega arith)

-- std prints the same digits.
pub printed : (n : ℕ) → n < 2 ^ 32 → std_decimal n ≡ decimal n
printed n h =
    decimal_by_steps (λ n ds. ds ≡ decimal n)
    (λ n h. sym (decimal_digit n h))
    (λ n ds h e. ap (λ (l : List ℕ). l ++ (digit_zero + n % 10) ∷ []) e ∙ sym (decimal_more n h))
    n (omega arith)

-- The digits of n over what stands at a place, the last digit first.
pub decimal_turn : (at end n : ℕ) (out : List ℕ) → 10 ≤ n → end ≡ at + length (decimal n) → at + length (decimal n) ≤ length out
    → over at (decimal (n / 10)) (set out (end - 1) (digit_zero + n % 10)) ≡ over at (decimal n) out
decimal_turn at end n out h e k =
    let fewer = decimal_length_more n h in
    let place : end - 1 ≡ at + length (decimal (n / 10)) = omega arith in
    rw (place, decimal_more n h) (over_last at (decimal (n / 10)) (digit_zero + n % 10) out (omega arith))

pub decimal_last : (at n : ℕ) (out : List ℕ) → n < 10 → at < length out → set out at (digit_zero + n) ≡ over at (decimal n) out
decimal_last at n out h k = rw (decimal_digit n h) (over_one at (digit_zero + n) out k)
