-- Some of free rows are free, over as many powers of x or fewer: the vectors of all the rows take each of the some to 0, so that what they leave of
-- a row is at most what the vectors of the some leave.
-- Assumes nothing.
use Rattle.std.specs.Prelude.{◌≡◌, List, [], ◌∷◌, ◌++◌, ℕ, ◌≤◌}
use Rattle.std.proofs.Common.{arith, pow_mono}
use Rattle.net_laws.specs.Reduction.{reduced, Each, basis, reduce_additive, reduce_le, reduced_rows, reduced_unseen}
use Rattle.net_laws.specs.Cell.{Free}

-- The rows `some` stand in `all`, in the same order.
pub data Within : List ℕ → List ℕ → Type 0 where
  at_end : Within [] []
  kept : {r : ℕ} {some all : List ℕ} → Within some all → Within (r ∷ some) (r ∷ all)
  left_out : {r : ℕ} {some all : List ℕ} → Within some all → Within some (r ∷ all)

pub within_same : (front : List ℕ) {some all : List ℕ} → Within some all → Within (front ++ some) (front ++ all)
within_same [] w = w
within_same (r ∷ front) w = kept (within_same front w)

within_each : (Q : ℕ → Type 0) {some all : List ℕ} → Within some all → Each Q all → Each Q some
within_each Q at_end each = tt
within_each Q (kept w) each = (each.0, within_each Q w each.1)
within_each Q (left_out w) each = within_each Q w each.1

reduced_fewer : {some all : List ℕ} → Within some all → (v : ℕ) → reduced all v ≤ reduced some v
reduced_fewer {some} {all} w v =
    omega (
      arith,
      reduced_unseen (reduced all) (reduce_additive (basis all)) some (within_each (λ r. reduced all r ≡ 0) w (reduced_rows all)) v,
      reduce_le (basis all) (reduced some v),
    )

pub free_within : {some all : List ℕ} → Within some all → (c d : ℕ) → c ≤ d → Free d all → Free c some
unfolding Free
free_within at_end c d l free = tt
free_within (kept {r} w) c d l free = (omega (arith, pow_mono l, free.0, reduced_fewer w r), free_within w c d l free.1)
free_within (left_out w) c d l free = free_within w c d l free.1
