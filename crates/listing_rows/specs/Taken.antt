-- The next rows of a list, at most so many, over the front of a slice; they are read back from it. Assumes nothing.
use Rattle.std.specs.Prelude.{◌≡◌, List, ℕ, min, length, take, drop}
use Rattle.std.proofs.Common.{sym, ◌∙◌, length-take}
use Rattle.definitions.specs.Number.{join, over}
use Rattle.definitions.specs.Ranking.{row_width}
use Rattle.page_laws.specs.Members.{take_within}
use Rattle.page_laws.specs.Rows.{Wide, rows_of, rows_back}
use Rattle.cursor.specs.Left.{left, passed, OnList}
use Rattle.cursor.specs.Turns.{left_wide}
use Rattle.cursor.specs.declared.reading.Cursor.{Cursor}
use Rattle.cursor.specs.declared.reading.Portion.{Portion}
use Rattle.paged_rows.specs.Printed.{some}

-- The next rows handed out, at most so many, over the front of the slice s that is t now.
pub record HandedWithin (c : Cursor) (most : ℕ) (s : List ℕ) (r : Portion) (t : List ℕ) : Type 0 where
  pub count : r.rows ≡ min most (length (left c))
  pub written : t ≡ over 0 (join (take most (left c))) s
  pub next : r.next ≡ passed c (take most (left c))
  pub more : r.more ≡ some (drop most (left c))

module _ (c : Cursor) (most : ℕ) (on : OnList c) where
  pub those_wide : Wide (row_width c.list) (take most (left c))
  those_wide x i = left_wide c on x (take_within most (left c) x i)

  -- The rows are read back from the slice.
  pub within_back : {s t : List ℕ} {r : Portion} → HandedWithin c most s r t → rows_of (row_width c.list) r.rows t ≡ take most (left c)
  within_back {s} {t} {r} h =
      let number : r.rows ≡ length (take most (left c)) = h.count ∙ sym (length-take most (left c)) in
      rw (number, h.written) (rows_back (row_width c.list) (take most (left c)) s those_wide)
