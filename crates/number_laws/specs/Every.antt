-- `every n test` says that each number below n passes: read out, put together, and taken one number at a time, the last first or one more. Tests
-- that agree pass alike; the numbers below a product are asked row by row.
-- Assumes nothing.
use Rattle.std.specs.Prelude.{◌≡◌, refl, Bool, true, false, ℕ, zero, suc, ◌+◌, ◌-◌, ◌*◌, ◌/◌, ◌%◌, ◌<◌, ◌≤◌}
use Rattle.std.proofs.Common.{sym, ap, ◌∙◌, mod-lt, div-add-mod', div-lt_iff_lt-mul, add-one, arith}
use Rattle.std.proofs.Math.Bool.{and-eq-true_iff}
use Rattle.std.proofs.Math.Decide.{ℕ_discrete}
use Rattle.std.proofs.Math.Arith.{digits_lt}
use Rattle.definitions.specs.Number.{every}
use Rattle.number_laws.specs.Truth.{truth_equal, truth_false, not_both}

pub every_out : (n : ℕ) (test : ℕ → Bool) → every n test ≡ true → (i : ℕ) → i < n → test i ≡ true
unfolding every
every_out zero test t i l = absurd (omega arith)
every_out (suc n) test t i l =
    let (here, rest) = (and-eq-true_iff (test n) (every n test)).0 t in
    at here (every_out n test rest i) (ℕ_discrete i n)
  where
    at : test n ≡ true → (i < n → test i ≡ true) → Dec (i ≡ n) → test i ≡ true
    at here below (yes e) = rw e here
    at here below (no e) = below (omega arith)

pub every_in : (n : ℕ) (test : ℕ → Bool) → ((i : ℕ) → i < n → test i ≡ true) → every n test ≡ true
unfolding every
every_in zero test h = refl
every_in (suc n) test h =
    (and-eq-true_iff (test n) (every n test)).1 (h n (omega arith), every_in n test (λ i l. h i (omega arith)))

pub every_none : (n : ℕ) (test : ℕ → Bool) → n ≤ 0 → every n test ≡ true
unfolding every
every_none zero test l = refl
every_none (suc n) test l = absurd (omega arith)

pub every_on : (n : ℕ) (test : ℕ → Bool) → 0 < n → test (n - 1) ≡ true → every n test ≡ every (n - 1) test
unfolding every
every_on zero test l e = absurd (omega arith)
every_on (suc n) test l e = let d : suc n - 1 ≡ n = omega arith in let f : test n ≡ true = rw d at e in rw (d, f)

pub every_stop : (n : ℕ) (test : ℕ → Bool) → 0 < n → test (n - 1) ≡ false → every n test ≡ false
unfolding every
every_stop zero test l e = absurd (omega arith)
every_stop (suc n) test l e = let d : suc n - 1 ≡ n = omega arith in let f : test n ≡ false = rw d at e in rw f

-- ---- one number more, and one that fails
pub every_more : (n : ℕ) (test : ℕ → Bool) → every n test ≡ true → test n ≡ true → every (n + 1) test ≡ true
unfolding every
every_more n test before here = rw (add-one, here, before)

pub every_fails : (n : ℕ) (test : ℕ → Bool) (i : ℕ) → i < n → test i ≡ false → every n test ≡ false
every_fails n test i l fail = truth_false _ (λ t. not_both (every_out n test t i l) fail)

-- ---- tests that agree
pub every_ext : (n : ℕ) (test other : ℕ → Bool) → ((i : ℕ) → i < n → test i ≡ other i) → every n test ≡ every n other
unfolding every
every_ext zero test other same = refl
every_ext (suc n) test other same = rw (same n (omega arith), every_ext n test other (λ i l. same i (omega arith)))

-- ---- row by row
pub every_rows : (m n : ℕ) (test : ℕ → Bool) → 0 < n → every m (λ r. every n (λ c. test (r * n + c))) ≡ every (m * n) test
every_rows m n test pos = truth_equal _ _ (out, back)
  where
    out : every m (λ r. every n (λ c. test (r * n + c))) ≡ true → every (m * n) test ≡ true
    out t = every_in (m * n) test (λ i l.
        let row = every_out m (λ r. every n (λ c. test (r * n + c))) t (i / n) ((div-lt_iff_lt-mul pos).1 l) in
        ap test (sym (div-add-mod' i n)) ∙ every_out n (λ c. test (i / n * n + c)) row (i % n) (mod-lt i pos))

    back : every (m * n) test ≡ true → every m (λ r. every n (λ c. test (r * n + c))) ≡ true
    back t = every_in m _ (λ r l. every_in n _ (λ c k. every_out (m * n) test t (r * n + c) (digits_lt l k)))
