-- What stands behind a row of the list: the line of its page, where the row is the page's last or the list's last. Assumes nothing.
use Rattle.std.specs.Prelude.{◌≡◌, refl, Bool, true, false, ◌||◌, not, List, [], ℕ, ◌+◌, ◌-◌, ◌/◌, ◌%◌, ◌^◌, ◌≤◌, ◌<◌, eqb}
use Rattle.std.proofs.Common.{mod-lt, arith, eq-eqb, ne_eqb}
use Rattle.definitions.specs.Listing.{page_text}

-- As many rows as 32 bits count, with one more for the number of the last page.
abbrev pub most_rows : ℕ
most_rows = 2 ^ 32 - 1

-- What stands behind a row that `done` rows stand before: the line of its page, where the page or the list ends with it.
unfoldable pub due_text : ℕ → ℕ → Bool → List ℕ
due_text size done further =
    elim (not further || eqb (done % size + 1) size) [ true ↦ page_text (done / size + 1) (done % size + 1) further | false ↦ [] ]

pub due_true : (size done : ℕ) (further : Bool) → (not further || eqb (done % size + 1) size) ≡ true
    → due_text size done further ≡ page_text (done / size + 1) (done % size + 1) further
unfolding due_text
due_true size done further e = rw (e, due_text)

pub due_false : (size done : ℕ) (further : Bool) → (not further || eqb (done % size + 1) size) ≡ false → due_text size done further ≡ []
unfolding due_text
due_false size done further e = rw (e, due_text)

-- The test that a program makes: within a page nothing stands behind a row, and at its end or the list's end its line does.
module _ (size done : ℕ) (h : 1 ≤ size) where
  pub due_within : done % size + 1 < size → due_text size done true ≡ []
  due_within l = due_false size done true (ne_eqb (done % size + 1) size (λ e. omega arith))

  pub due_at_end : due_text size done false ≡ page_text (done / size + 1) (done % size + 1) false
  due_at_end = due_true size done false refl

  pub due_at_full : size ≤ done % size + 1 → due_text size done true ≡ page_text (done / size + 1) (done % size + 1) true
  due_at_full l = due_true size done true (eq-eqb (done % size + 1) size (omega (arith, mod-lt done h)))
