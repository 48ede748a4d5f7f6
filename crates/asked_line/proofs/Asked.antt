-- What is asked: the numbers of the line, and the defaults behind them; a line of more than four is read as one that has none.
-- By cases on the numbers, which stand over the front of the defaults.
-- Assumes nothing.
use Rattle.std.specs.Prelude.{Some, None}
use mathlib.Core.Path.{◌≡◌, refl}
use mathlib.Core.Bool.{Bool, true, false}
use mathlib.Core.List.{List, [], ◌∷◌}
use Prim.Native.Nat.{ℕ, ◌≤◌}
use native.Mathlib.Omega.{arith}
use lib.Dec.{leb}
use lib.ListN.{length, get_or}
use borrow.Author.Tests.{lt-leb, leb-true}
use Rattle.definitions.specs.Number.{over}
use Rattle.definitions.specs.Listing.{default_top, default_size, default_floor, line_numbers, numbers_within, asked, read_line}

-- The most numbers of a line: degree, top dimension, page size and floor.
abbrev pub most_numbers : ℕ
most_numbers = 4

read_within : (s : List ℕ) → read_line s ≡ asked (numbers_within most_numbers s)
unfolding read_line numbers_within asked
read_within s = go (line_numbers s) refl
  where
    go : (l : List ℕ) → line_numbers s ≡ l → read_line s ≡ asked (numbers_within most_numbers s)
    go [] e = rw (e, numbers_within, e)
    go (a ∷ []) e = rw (e, numbers_within, e)
    go (a ∷ b ∷ []) e = rw (e, numbers_within, e)
    go (a ∷ b ∷ c ∷ []) e = rw (e, numbers_within, e)
    go (a ∷ b ∷ c ∷ d ∷ []) e = rw (e, numbers_within, e)
    go (a ∷ b ∷ c ∷ d ∷ n ∷ l) e = rw (e, numbers_within, lt-leb (length (a ∷ b ∷ c ∷ d ∷ n ∷ l)) most_numbers (omega arith))

within_few : (s : List ℕ) → length (numbers_within most_numbers s) ≤ most_numbers
unfolding numbers_within
within_few s = go (leb (length (line_numbers s)) most_numbers) refl
  where
    go : (t : Bool) → leb (length (line_numbers s)) most_numbers ≡ t → length (numbers_within most_numbers s) ≤ most_numbers
    go true e = rw (e, numbers_within) (leb-true (length (line_numbers s)) most_numbers e)
    go false e = rw (e, numbers_within) (omega arith)

-- The numbers that are read take the place of the first defaults.
abbrev defaults : List ℕ
defaults = 0 ∷ default_top ∷ default_size ∷ default_floor ∷ []

module _ (s : List ℕ) {r : ℕ} (count : r ≡ length (numbers_within most_numbers s)) where
  pub asked_none : r ≡ 0 → None ≡ read_line s
  unfolding asked
  asked_none z = rw (read_within s) (go (numbers_within most_numbers s) count)
    where
      go : (l : List ℕ) → r ≡ length l → None ≡ asked l
      go [] e = refl
      go (m ∷ l) e = absurd (omega arith)

  pub asked_some : {exit : List ℕ} → exit ≡ over 0 (numbers_within most_numbers s) defaults → (r ≡ 0 → ⊥)
      → Some (record { degree = get_or exit 0 0; top = get_or exit 1 0; size = get_or exit 2 0; floor = get_or exit 3 0 }) ≡ read_line s
  unfolding over asked
  asked_some {exit} stored some = rw (read_within s) (go (numbers_within most_numbers s) count (within_few s) stored)
    where
      go : (l : List ℕ) → r ≡ length l → length l ≤ most_numbers → exit ≡ over 0 l defaults
          → Some (record { degree = get_or exit 0 0; top = get_or exit 1 0; size = get_or exit 2 0; floor = get_or exit 3 0 }) ≡ asked l
      go [] e f h = absurd (some e)
      go (m ∷ []) e f h = rw h
      go (m ∷ top ∷ []) e f h = rw h
      go (m ∷ top ∷ size ∷ []) e f h = rw h
      go (m ∷ top ∷ size ∷ floor ∷ []) e f h = rw h
      go (m ∷ top ∷ size ∷ floor ∷ n ∷ l) e f h = absurd (omega arith)
