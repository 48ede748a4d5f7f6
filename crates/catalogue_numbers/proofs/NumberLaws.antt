-- A number written over a buffer, the last byte first: what one turn does, and where no byte is left. Assumes nothing.
use Rattle.std.proofs.Common.{◌≡◌, List, ℕ, zero, suc, ◌+◌, ◌-◌, ◌/◌, ◌%◌, ◌≤◌, ◌<◌, length, set, arith}
use Rattle.definitions.specs.Number.{over}
use Rattle.definitions.specs.Writing.{bytes_of}
use Rattle.slice_laws.specs.Over.{over_nothing, over_last}
use Rattle.catalogue_laws.specs.Bytes.{bytes_length}

module _ (at rest : ℕ) (file : List ℕ) where
  last_stored : (left : ℕ) → at + suc left ≤ length file
      → over at (bytes_of left (rest / 256)) (set file (at + left) (rest % 256)) ≡ over at (bytes_of (suc left) rest) file
  unfolding bytes_of
  last_stored left h =
      let l = bytes_length left (rest / 256) in
      rw l at (over_last at (bytes_of left (rest / 256)) (rest % 256) file (omega arith))

  pub number_turn : (left : ℕ) → 0 < left → at + left ≤ length file
      → over at (bytes_of (left - 1) (rest / 256)) (set file (at + (left - 1)) (rest % 256)) ≡ over at (bytes_of left rest) file
  number_turn zero some h = absurd (omega arith)
  number_turn (suc left) some h =
      let fewer : suc left - 1 ≡ left = omega arith in
      rw fewer (last_stored left h)

  pub number_end : (left : ℕ) → left ≤ 0 → over at (bytes_of left rest) file ≡ file
  unfolding bytes_of
  number_end zero h = over_nothing at file
  number_end (suc left) h = absurd (omega arith)
