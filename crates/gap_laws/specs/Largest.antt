-- The largest number from 1 to n that passes a test. Where a number that passes has all smaller ones pass too, it is told by passing while the next one
-- fails; and m/k less it is how many l with k l ≤ m fail, if all that pass are such.
-- Assumes nothing.
use Rattle.std.specs.Prelude.{◌≡◌, refl, Bool, true, false, not, ◌&&◌, ℕ, zero, suc, ◌+◌, ◌-◌, ◌*◌, ◌/◌, ◌≤◌, ◌<◌, leb, ltb}
use Rattle.std.proofs.Common.{sym, ap, ◌∙◌, mul_comm, le-div_iff_mul-le, div-lt_iff_lt-mul, div-le_self, le_antisymm, arith, le-leb, lt-ltb, le-ltb}
use Rattle.std.proofs.Math.Decide.{dec_le}
use Rattle.std.proofs.lemmas.Bool.{lt-leb}
use Rattle.definitions.specs.Number.{bit, largest, sum}
use Rattle.number_laws.specs.Truth.{not_both, le_unless}
use Rattle.number_laws.specs.Largest.{largest_to, largest_passes, largest_least, largest_most}
use Rattle.gap_laws.specs.Sums.{sum_ext, sum_cut, sum_above}

module _ (test : ℕ → Bool) where
  -- ---- a test that smaller numbers pass too, from n down to 1
  abbrev pub Falling : ℕ → Type 0
  Falling n = (i : ℕ) → 1 ≤ i → i < n → test (suc i) ≡ true → test i ≡ true

  module _ (n : ℕ) (falls : Falling n) where
    falls_to : (i j : ℕ) → 1 ≤ i → i ≤ j → j ≤ n → test j ≡ true → test i ≡ true
    falls_to i zero low below fits t = absurd (omega arith)
    falls_to i (suc j) low below fits t = go (dec_le i j) (falls_to i j low)
      where
        go : Dec (i ≤ j) → (i ≤ j → j ≤ n → test j ≡ true → test i ≡ true) → test i ≡ true
        go (yes l) rest = rest l (omega arith) (falls j (omega arith) (omega arith) t)
        go (no l) rest = let same : i ≡ suc j = omega arith in rw same t

    pub largest_found : (w : ℕ) → 1 ≤ w → w ≤ n → test w ≡ true → (w < n → test (suc w) ≡ true → ⊥) → w ≡ largest n test
    largest_found w low fits t fails =
        let top = largest n test in
        let to = largest_to test n in
        le_antisymm (largest_least test n w low fits t)
        (le_unless (λ over. fails (omega arith) (falls_to (suc w) top (omega arith) (omega arith) to (largest_passes test n (omega arith)))))

    fails_above : (i : ℕ) → 1 ≤ i → i ≤ n → not (test i) ≡ ltb (largest n test) i
    fails_above i low fits = go (test i) refl
      where
        top : ℕ
        top = largest n test

        go : (b : Bool) → test i ≡ b → not b ≡ ltb top i
        go true t = sym (le-ltb top i (largest_least test n i low fits t))
        go false f =
            sym (lt-ltb top i (le_unless (λ over. not_both (falls_to i top low (omega arith) (largest_to test n) (largest_passes test n (omega arith))) f)))

-- ---- how many l have k l ≤ m and fail
module _ (m k : ℕ) (test : ℕ → Bool) (some : 0 < k) (fits : (l : ℕ) → test l ≡ true → k * l ≤ m) where
  pub largest_fits : largest m test ≤ m / k
  largest_fits = largest_most test m (m / k) (λ l t. (le-div_iff_mul-le some).1 (rw (mul_comm k l) at (fits l t)))

  pub gap_sum_lem : Falling test m → m / k - largest m test ≡ sum m (λ l. bit (leb (k * l) m && not (test l)))
  gap_sum_lem falls =
      sym (sum_above (largest m test) (m / k))
      ∙ sum_ext (m / k) _ _ (λ l low high. ap bit (inside l low high))
      ∙ sym (rw whole at (sum_cut (m - m / k) (m / k) failing (λ l low high. ap bit (outside l low))))
    where
      failing : ℕ → ℕ
      failing l = bit (leb (k * l) m && not (test l))

      whole : m - m / k + m / k ≡ m
      whole = omega (arith, div-le_self m k)

      inside : (l : ℕ) → 1 ≤ l → l ≤ m / k → ltb (largest m test) l ≡ (leb (k * l) m && not (test l))
      inside l low high =
          rw (le-leb (k * l) m (rw (mul_comm k l) ((le-div_iff_mul-le some).0 high))) (sym (fails_above test m falls l low (omega (arith, div-le_self m k))))

      outside : (l : ℕ) → m / k < l → (leb (k * l) m && not (test l)) ≡ false
      outside l low = rw (lt-leb (k * l) m (rw (mul_comm k l) ((div-lt_iff_lt-mul some).0 low)))
