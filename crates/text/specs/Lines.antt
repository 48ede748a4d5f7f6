-- Lines of words and numbers: their lengths, and that their parts, written one behind the other, are the whole line.
-- Assumes nothing.
use Rattle.std.specs.Prelude.{◌≡◌, refl, List, [], ◌∷◌, ◌++◌, ℕ, ◌+◌, ◌≤◌, ◌<◌, length, set}
use Rattle.std.proofs.Common.{append_assoc, arith, length-append}
use Rattle.definitions.specs.Listing.{decimal, newline}
use Rattle.definitions.specs.Number.{over}
use Rattle.slice_laws.specs.Over.{over_one, length_over, over_then}

-- The words of one line are at most so long together, which keeps the sums of lengths from wrapping.
abbrev pub most_letters : ℕ
most_letters = 32

-- A word, a number and a newline.
abbrev pub short_line : List ℕ → ℕ → List ℕ
short_line word n = word ++ decimal n ++ newline ∷ []

-- Two words with their numbers, and an ending.
abbrev pub long_line : List ℕ → ℕ → List ℕ → ℕ → List ℕ → List ℕ
long_line word n other k ending = word ++ decimal n ++ other ++ decimal k ++ ending

module _ (word : List ℕ) (n : ℕ) where
  pub line_length : length (short_line word n) ≡ length word + length (decimal n) + 1
  line_length = simp length-append

  pub line_counted : {d : ℕ} → d ≡ length (decimal n) → length word + d + 1 ≡ length (short_line word n)
  line_counted e = omega (arith, line_length)

  pub line_end : (at : ℕ) (out : List ℕ) {place : ℕ} {mid : List ℕ} → at + length (short_line word n) ≤ length out
      → place ≡ at + length (word ++ decimal n) → mid ≡ over at (word ++ decimal n) out
      → (place < length mid) × (place + 1 ≡ at + length (short_line word n)) × (set mid place newline ≡ over at (short_line word n) out)
  line_end at out {place} {mid} h e k =
      let field = length-append word (decimal n) in
      let whole = line_length in
      let inside : place < length mid = rw (k, length_over at (word ++ decimal n) out (omega arith)) (omega arith) in
      (inside, omega arith, (over_then at (word ++ decimal n) (newline ∷ []) out (omega arith) e k refl (over_one place newline mid inside)).1)

module _ (word : List ℕ) (n : ℕ) (other : List ℕ) (k : ℕ) (ending : List ℕ) where
  pub long_length : length (long_line word n other k ending) ≡ length word + length (decimal n) + length other + length (decimal k) + length ending
  long_length = simp length-append

  pub long_counted : {d e : ℕ} → d ≡ length (decimal n) → e ≡ length (decimal k)
      → length word + d + length other + e + length ending ≡ length (long_line word n other k ending)
  long_counted p q = omega (arith, long_length)

  module _ (at : ℕ) (out : List ℕ) (room : at + length (long_line word n other k ending) ≤ length out) {first : ℕ} {mid : List ℕ}
      (e : first ≡ at + length (word ++ decimal n)) (f : mid ≡ over at (word ++ decimal n) out) where
    pub second_room : first + length other + length (decimal k) ≤ length mid
    second_room =
        let whole = long_length in
        let field = length-append word (decimal n) in
        rw (f, length_over at (word ++ decimal n) out (omega arith)) (omega arith)

    -- The first part is written, and now the second.
    module _ {second : ℕ} {late : List ℕ} (e' : second ≡ first + length (other ++ decimal k)) (f' : late ≡ over first (other ++ decimal k) mid) where
      abbrev fields : List ℕ
      fields = word ++ decimal n ++ (other ++ decimal k)

      fields_length : length fields ≡ length word + length (decimal n) + length other + length (decimal k)
      fields_length = simp length-append (omega arith)

      both : (second ≡ at + length fields) × (late ≡ over at fields out)
      both =
          let whole = long_length in
          let one = length-append word (decimal n) in
          let two = length-append other (decimal k) in
          over_then at (word ++ decimal n) (other ++ decimal k) out (omega arith) e f e' f'

      pub ending_room : second + length ending ≤ length late
      ending_room =
          let whole = long_length in
          let parts = fields_length in
          let place = both.0 in
          rw (both.1, length_over at fields out (omega arith)) (omega arith)

      pub long_end : {r : ℕ} {exit : List ℕ} → r ≡ second + length ending → exit ≡ over second ending late
          → (r ≡ at + length (long_line word n other k ending)) × (exit ≡ over at (long_line word n other k ending) out)
      long_end u v =
          let whole = long_length in
          let parts = fields_length in
          rw (append_assoc (word ++ decimal n) other (decimal k)) (over_then at fields ending out (omega arith) both.0 both.1 u v)
