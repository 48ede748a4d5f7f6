-- The number of an entry that says T and the kind of its rows: both come back from it for every lawful T, and every number is that of what it says.
-- By cases on the kind, and on whether the number reaches the mark. Assumes nothing.
use Rattle.std.specs.Prelude.{◌≡◌, Bool, true, false, ℕ, ◌+◌, ◌-◌, ◌<◌, ◌≤◌}
use Rattle.std.proofs.Common.{◌∙◌, arith, le-leb}
use Rattle.std.proofs.Math.Decide.{dec_le}
use Rattle.std.proofs.lemmas.Bool.{lt-leb}
use Rattle.definitions.specs.Catalogue.{gaps_mark, marked_top, gaps_of, top_of}
use Rattle.number_laws.specs.Bounds.{LawfulTop}

module _ (n : ℕ) where
  pub gaps_marked : gaps_mark ≤ n → gaps_of n ≡ true
  gaps_marked h = le-leb gaps_mark n h

  pub gaps_plain : n < gaps_mark → gaps_of n ≡ false
  gaps_plain h = lt-leb gaps_mark n h

  pub top_marked : gaps_mark ≤ n → top_of n ≡ n - gaps_mark
  top_marked h = rw (gaps_marked h)

  pub top_plain : n < gaps_mark → top_of n ≡ n
  top_plain h = rw (gaps_plain h)

  -- Every number is that of what it says.
  pub marked_back : marked_top (top_of n) (gaps_of n) ≡ n
  marked_back = go (dec_le gaps_mark n)
    where
      go : Dec (gaps_mark ≤ n) → marked_top (top_of n) (gaps_of n) ≡ n
      go (yes h) = rw (gaps_marked h) (omega arith)
      go (no h) = rw (gaps_plain (omega arith))

pub gaps_back : (top : ℕ) (gaps : Bool) → LawfulTop top → gaps_of (marked_top top gaps) ≡ gaps
gaps_back top true h = gaps_marked (top + gaps_mark) (omega arith)
gaps_back top false h = gaps_plain top (omega (arith, h.high))

pub top_back : (top : ℕ) (gaps : Bool) → LawfulTop top → top_of (marked_top top gaps) ≡ top
top_back top true h = top_marked (top + gaps_mark) (omega arith) ∙ omega arith
top_back top false h = top_plain top (omega (arith, h.high))

-- A lawful T with its kind fits a byte.
pub marked_small : (top : ℕ) (gaps : Bool) → LawfulTop top → marked_top top gaps < 256
marked_small top true h = omega (arith, h.high)
marked_small top false h = omega (arith, h.high)
