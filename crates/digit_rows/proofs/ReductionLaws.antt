-- One vector more that reduces. Assumes nothing.
use Rattle.std.proofs.Common.{◌≡◌, refl, List, ℕ, ◌+◌, min, bit_xor, get_or, add-one}
use Rattle.polynomial_laws.specs.Sum.{⊕_def}
use Rattle.net_laws.specs.Reduction.{reduce, reduce_by}
use Rattle.digit_rows.specs.Basis.{newest}

pub reduce_start : (b : List ℕ) (r : ℕ) → r ≡ reduce (newest b 0) r
unfolding reduce newest
reduce_start b r = refl

pub reduce_more : (b : List ℕ) (i r v w : ℕ) → v ≡ reduce (newest b i) r → w ≡ min v (bit_xor v (get_or b i 0)) → w ≡ reduce (newest b (i + 1)) r
unfolding reduce reduce_by newest
reduce_more b i r v w before lower = rw (add-one i, ← before, ⊕_def v (get_or b i 0)) lower
