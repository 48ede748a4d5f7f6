-- `every n test` is what `all` answers over a range of n numbers: the list of these, tested from the first on. Assumes nothing.
use Rattle.std.specs.Prelude.{◌≡◌, refl, Bool, ◌&&◌, ℕ, zero, suc, ◌+◌}
use Rattle.std.specs.List.{list_all, range_with_len}
use Rattle.std.proofs.Common.{sym, ap, ◌∙◌, arith}
use Rattle.definitions.specs.Number.{every}
use Rattle.number_laws.specs.Every.{every_ext}
use Rattle.number_laws.specs.Truth.{by_test}

-- the first number taken off
pub every_first : (n : ℕ) (test : ℕ → Bool) → every (suc n) test ≡ (test 0 && every n (λ k. test (suc k)))
unfolding every
every_first zero test = refl
every_first (suc n) test =
    rw (every_first n test) (by_test (test 0) (λ t. rw t) (λ f. rw f (by_test (test (suc n)) (λ t. rw t) (λ g. rw g))))

pub every_from : (n a : ℕ) (test : ℕ → Bool) → list_all test (range_with_len a n) ≡ every n (λ k. test (a + k))
unfolding every
every_from zero a test = refl
every_from (suc n) a test =
    let rest = every_from n (a + 1) test ∙ every_ext n _ (λ k. test (a + suc k)) (λ k l. ap test (omega arith)) in
    let first = every_first n (λ k. test (a + k)) in
    let here : a + 0 ≡ a = omega arith in
    rw rest (rw here at (sym first))

pub every_range : (n : ℕ) (test : ℕ → Bool) → list_all test (range_with_len 0 n) ≡ every n test
every_range n test = every_from n 0 test ∙ every_ext n _ test (λ i l. ap test (omega arith))
