-- How long the printed lines are: a number of 32 bits has at most ten digits, so 147 bytes hold a row of ten numbers and the line of its page,
-- and any other line. Assumes nothing.
use Rattle.std.specs.Prelude.{◌≡◌, refl, Bool, true, false, cond, not, ◌||◌, List, [], ◌∷◌, ◌++◌, ℕ, suc, ◌+◌, ◌*◌, ◌/◌, ◌%◌, ◌^◌, ◌≤◌, ◌<◌, eqb, get_or}
use Rattle.std.proofs.Math.Path.{ap}
use Rattle.std.proofs.Common.{◌∙◌, div-le_self, arith, length-append}
use Rattle.std.proofs.Math.Nat.{mod-le}
use Rattle.std.proofs.Math.ListN.{length}
use Rattle.definitions.specs.Number.{numbers}
use Rattle.definitions.specs.Ranking.{longest_row}
use Rattle.definitions.specs.Listing.{decimal, header_text, row_text, page_text, total_text, refused_text, newline, letters}
use Rattle.decimal_text.specs.Decimal.{ten_digits}
use Rattle.text.specs.Lines.{line_length, long_length}
use Rattle.row_text.specs.Rows.{row_bytes, row_none, row_some}
use Rattle.page_line.specs.Texts.{page_line_lem}
use Rattle.page_line.specs.Due.{most_rows, due_text, due_true, due_false}
use Rattle.list_lines.specs.Texts.{header_line, total_line, refused_length, refused_short}
use Rattle.paged_rows.specs.Printed.{step_text}

-- The most bytes of a row and of the line of its page.
abbrev pub step_room : ℕ
step_room = 147

-- ---- a row and the line of its page

row_bytes_lem : (r : List ℕ) → ((i : ℕ) → get_or r i 0 < 2 ^ 32) → row_bytes r ≤ 11 * length r
unfolding row_bytes
row_bytes_lem [] h = omega arith
row_bytes_lem (n ∷ r) h = omega (arith, ten_digits n (h 0), row_bytes_lem r (λ (i : ℕ). h (suc i)))

row_room_lem : (r : List ℕ) → length r ≤ longest_row → ((i : ℕ) → get_or r i 0 < 2 ^ 32) → length (row_text r) ≤ 110
row_room_lem [] l h = omega (arith, row_none [] refl)
row_room_lem (n ∷ r) l h = omega (arith, row_some (n ∷ r) (λ e. omega arith), row_bytes_lem (n ∷ r) h)

ending_short : (further : Bool) → length (cond further (letters " more") (letters " end") ++ newline ∷ []) ≤ 6
unfolding numbers
ending_short true = omega arith
ending_short false = omega arith

page_length : (number rows : ℕ) (further : Bool) → length (page_text number rows further)
    ≡ 5 + length (decimal number) + 6 + length (decimal rows) + length (cond further (letters " more") (letters " end") ++ newline ∷ [])
unfolding numbers
page_length number rows further =
    let ending = cond further (letters " more") (letters " end") ++ newline ∷ [] in
    ap length (page_line_lem number rows further) ∙ long_length (letters "page ") number (letters " rows ") rows ending

page_room : (number rows : ℕ) (further : Bool) → number < 2 ^ 32 → rows < 2 ^ 32 → length (page_text number rows further) ≤ 37
page_room number rows further h k =
    omega (arith, page_length number rows further, ten_digits number h, ten_digits rows k, ending_short further)

-- The line of a page, behind fewer rows than 32 bits count.
module _ (size done : ℕ) (h : done < most_rows) where
  due_room : (further : Bool) → length (due_text size done further) ≤ 37
  due_room further = go (not further || eqb (done % size + 1) size) refl
    where
      go : (b : Bool) → (not further || eqb (done % size + 1) size) ≡ b → length (due_text size done further) ≤ 37
      go true e =
          let page = div-le_self done size in
          let row = mod-le done size in
          rw (due_true size done further e) (page_room (done / size + 1) (done % size + 1) further (omega arith) (omega arith))
      go false e = rw (due_false size done further e) (omega arith)

  pub step_room_lem : (further : Bool) (row : List ℕ) → length row ≤ longest_row → ((i : ℕ) → get_or row i 0 < 2 ^ 32)
      → length (step_text size done further row) ≤ step_room
  step_room_lem further row l k =
      rw (length-append (row_text row) (due_text size done further)) (omega (arith, row_room_lem row l k, due_room further))

pub row_some_text : (row : List ℕ) → 1 ≤ length (row_text row)
unfolding row_bytes
row_some_text [] = omega (arith, row_none [] refl)
row_some_text (n ∷ r) = omega (arith, row_some (n ∷ r) (λ e. omega arith))

-- ---- the other lines: each is a text, and fits

pub empty_page : (1 ≤ length (page_text 1 0 false)) × (length (page_text 1 0 false) ≤ step_room)
empty_page = (omega (arith, page_length 1 0 false), omega (arith, page_room 1 0 false (omega arith) (omega arith)))

module _ (n : ℕ) where
  total_length : length (total_text n) ≡ 6 + length (decimal n) + 1
  unfolding numbers
  total_length = ap length (total_line n) ∙ line_length (letters "total ") n

  pub refused_some : 1 ≤ length (refused_text n)
  refused_some = omega (arith, refused_length n)

  pub total_some : 1 ≤ length (total_text n)
  total_some = omega (arith, total_length)

  pub refused_room_lem : n < most_rows → length (refused_text n) ≤ step_room
  refused_room_lem h = omega (arith, refused_short n (omega arith))

  pub total_room : n < most_rows → length (total_text n) ≤ step_room
  total_room h = omega (arith, total_length, ten_digits n (omega arith))

module _ (m top : ℕ) where
  header_length : length (header_text m top) ≡ 7 + length (decimal m) + 5 + length (decimal top) + 1
  unfolding numbers
  header_length = ap length (header_line m top) ∙ long_length (letters "degree ") m (letters " top ") top (newline ∷ [])

  pub header_some : 1 ≤ length (header_text m top)
  header_some = omega (arith, header_length)

  pub header_room : m < 2 ^ 32 → top < 2 ^ 32 → length (header_text m top) ≤ step_room
  header_room h k = omega (arith, header_length, ten_digits m h, ten_digits top k)
