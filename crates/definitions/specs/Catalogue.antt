-- The catalogue: its form, opening it, looking a degree up, reading a body row by row. Assumes nothing.
use Rattle.std.specs.Prelude.{◌&&◌, ◌∷◌, ◌+◌, ◌-◌, ◌*◌, ◌%◌, ◌^◌}
use Rattle.definitions.specs.Base.{Bool, true, false, cond, not, List, [], ℕ, zero, suc, eqb, leb, ltb}
use Rattle.definitions.specs.Base.{length, take, drop, get_or, Refusal, WrongDegree, IllFormedCatalogue, DegreeMissing}
use Rattle.definitions.specs.Base.{Lookup, Row, Result, Ok, Err, Option, Some, None}
use Rattle.definitions.specs.Number.{bit, every}
use Rattle.definitions.specs.Answers.{refusal_number, Situation, situation, unless}
use Rattle.definitions.specs.Generator.{least_degree, largest_degree, lawful_degree}
use Rattle.definitions.specs.Ranking.{least_top, lawful_top}

-- ---- numbers in a file, big-endian

abbrev pub byte_at : List ℕ → ℕ → ℕ
byte_at s i = get_or s i 0

-- The number in the w bytes at i.
unfoldable pub number_at : ℕ → List ℕ → ℕ → ℕ
number_at zero s i = 0
number_at (suc w) s i = number_at w s i * 256 + byte_at s (i + w)

-- ---- sizes, in bytes

-- p without its leading term, q or σ in a row of a degree.
unfoldable pub number_size : ℕ → ℕ
number_size m = 2

-- The row count in an entry of a degree.
unfoldable pub count_size : ℕ → ℕ
count_size m = 2

-- The offset in an entry.
abbrev pub offset_size : ℕ
offset_size = 4

-- An entry of a degree: the degree and T with the kind in one byte each, the row count, the offset.
unfoldable pub entry_size : ℕ → ℕ
entry_size m = 2 + count_size m + offset_size

-- p without its leading term, q and σ together: t(3) lies behind them in a row.
abbrev pub numbers_size : ℕ → ℕ
numbers_size m = 3 * number_size m

-- t(3) .. t(T), in one byte each.
abbrev pub values_size : ℕ → ℕ
values_size top = suc top - least_top

-- A row: these three, then t(3) .. t(T), then Δ in one byte where the rows have it.
unfoldable pub row_size : ℕ → ℕ → Bool → ℕ
row_size m top gaps = numbers_size m + values_size top + bit gaps

-- ---- the kind of a body

-- An entry has one number for T and for the kind of its rows: T where they have no Δ, and T + 16 where they have it.
abbrev pub gaps_mark : ℕ
gaps_mark = 16

abbrev pub marked_top : ℕ → Bool → ℕ
marked_top top gaps = cond gaps (top + gaps_mark) top

-- What such a number says.
abbrev pub gaps_of : ℕ → Bool
gaps_of n = leb gaps_mark n

abbrev pub top_of : ℕ → ℕ
top_of n = cond (gaps_of n) (n - gaps_mark) n

-- ---- the form

-- There are at most as many entries as lawful degrees: n is 0 to 15.
abbrev pub most_entries : ℕ
most_entries = suc largest_degree - least_degree

-- The first entry lies behind the first byte.
abbrev pub first_entry : ℕ
first_entry = 1

pub record Entry : Type 0 where
  pub degree : ℕ
  pub top : ℕ
  pub gaps : Bool
  pub rows : ℕ
  pub offset : ℕ

-- The entry at a place.
unfoldable pub entry_at : List ℕ → ℕ → Entry
entry_at s i =
    let m : ℕ = byte_at s i in
    let n : ℕ = byte_at s (i + 1) in
    record {
      degree = m;
      top = top_of n;
      gaps = gaps_of n;
      rows = number_at (count_size m) s (i + 2);
      offset = number_at offset_size s (i + 2 + count_size m);
    }

-- The place behind the entry at a place.
abbrev pub behind_entry : List ℕ → ℕ → ℕ
behind_entry s i = i + entry_size (byte_at s i)

-- The place behind the k entries from place i on: each is as long as its degree makes it.
unfoldable pub behind_entries : List ℕ → ℕ → ℕ → ℕ
behind_entries s zero i = i
behind_entries s (suc k) i = behind_entries s k (behind_entry s i)

-- The contents end, and the first body lies, behind the n entries.
abbrev pub contents_end : List ℕ → ℕ
contents_end s = behind_entries s (byte_at s 0) first_entry

abbrev pub body_size : Entry → ℕ
body_size e = e.rows * row_size e.degree e.top e.gaps

-- The row at a place: p's low part, q and σ are below 2^m and each t is at most m. Of Δ nothing is asked.
unfoldable pub row_form : ℕ → ℕ → List ℕ → ℕ → Bool
row_form m top s at =
    let w : ℕ = number_size m in
    every 3 (λ (k : ℕ). ltb (number_at w s (at + k * w)) (2 ^ m)) && every (values_size top) (λ (k : ℕ). leb (byte_at s (at + numbers_size m + k)) m)

-- The entry's degree and T are lawful, its degree is above the last one, its body lies at `at` within the file, and each row is of the form.
unfoldable pub entry_form : List ℕ → Entry → ℕ → ℕ → Bool
entry_form s e last at =
    lawful_degree e.degree
    && (ltb last e.degree
    && (lawful_top e.top
    && (eqb e.offset at
    && (leb (at + body_size e) (length s) && every e.rows (λ (k : ℕ). row_form e.degree e.top s (at + k * row_size e.degree e.top e.gaps))))))

-- The k entries from place i on, behind the degree `last`: each body directly behind the one before, from `at`, and the last ends the file.
unfoldable pub entries_form : List ℕ → ℕ → ℕ → ℕ → ℕ → Bool
entries_form s zero i last at = eqb at (length s)
entries_form s (suc k) i last at =
    entry_form s (entry_at s i) last at && entries_form s k (behind_entry s i) (entry_at s i).degree (at + body_size (entry_at s i))

unfoldable pub catalogue_form : List ℕ → Bool
catalogue_form s =
    leb 1 (length s)
    && (leb (byte_at s 0) most_entries
    && (leb (contents_end s) (length s) && entries_form s (byte_at s 0) first_entry 0 (contents_end s)))

-- ---- open and look up

-- Opening: 9; else the number of entries.
unfoldable pub opening : List ℕ → Result ℕ Refusal
opening s = unless (situation (not (catalogue_form s)) IllFormedCatalogue ∷ []) Err (Ok (byte_at s 0))

-- The place of the degree's entry among the k from place i on; 0, where no entry lies, where it is missing.
unfoldable pub entry_from : List ℕ → ℕ → ℕ → ℕ → ℕ
entry_from s zero i m = 0
entry_from s (suc k) i m = elim (eqb (byte_at s i) m) [ true ↦ i | false ↦ entry_from s k (behind_entry s i) m ]

unfoldable pub entry_of : List ℕ → ℕ → ℕ
entry_of s m = entry_from s (byte_at s 0) first_entry m

-- A lookup: 1, 9, 10.
unfoldable pub looking : List ℕ → ℕ → List Situation
looking s m =
    situation (not (lawful_degree m)) WrongDegree
    ∷ situation (not (catalogue_form s)) IllFormedCatalogue
    ∷ situation (eqb (entry_of s m) 0) DegreeMissing
    ∷ []

-- T, whether the rows have Δ, and the row count.
unfoldable pub lookup_numbers : List ℕ → ℕ → Result Lookup Refusal
lookup_numbers s m = let e : Entry = entry_at s (entry_of s m) in unless (looking s m) Err (Ok (record { top = e.top; gaps = e.gaps; rows = e.rows }))

-- The body, a part of the file; empty where the lookup is refused.
unfoldable pub lookup_part : List ℕ → ℕ → List ℕ
lookup_part s m =
    unless (looking s m) (λ (n : Refusal). []) (take (body_size (entry_at s (entry_of s m))) (drop (entry_at s (entry_of s m)).offset s))

-- A reader that is opened with a degree has the part that a lookup gives. Its number: that of the lookup's refusal; 0 where there is none.
unfoldable pub reader_refusal : List ℕ → ℕ → ℕ
reader_refusal s m = unless (looking s m) refusal_number 0

-- Its top dimension; 0 where the lookup is refused.
unfoldable pub reader_top : List ℕ → ℕ → ℕ
reader_top s m = unless (looking s m) (λ (n : Refusal). 0) (entry_at s (entry_of s m)).top

-- Whether its rows have Δ; not so where the lookup is refused.
unfoldable pub reader_gaps : List ℕ → ℕ → Bool
reader_gaps s m = unless (looking s m) (λ (n : Refusal). false) (entry_at s (entry_of s m)).gaps

-- ---- read row by row

-- Degree and T are in range, and the place is the start of a whole row of the body.
unfoldable pub at_row : ℕ → ℕ → Bool → List ℕ → ℕ → Bool
at_row m top gaps body place =
    lawful_degree m && (lawful_top top && (eqb (place % row_size m top gaps) 0 && leb (place + row_size m top gaps) (length body)))

-- t(s) of the row at a place; 0 above the top dimension.
abbrev pub t_at : ℕ → ℕ → List ℕ → ℕ → ℕ → ℕ
t_at m top body place s = cond (leb s top) (byte_at body (place + numbers_size m + (s - least_top))) 0

-- Δ of the row at a place, behind the t-values; 0 where the rows have none.
abbrev pub delta_at : ℕ → ℕ → Bool → List ℕ → ℕ → ℕ
delta_at m top gaps body place = cond gaps (byte_at body (place + numbers_size m + values_size top)) 0

unfoldable pub row_at : ℕ → ℕ → Bool → List ℕ → ℕ → Row
row_at m top gaps body place =
    let w : ℕ = number_size m in
    let t : ℕ → ℕ = t_at m top body place in
    record {
      p = 2 ^ m + number_at w body place;
      q = number_at w body (place + w);
      step = number_at w body (place + 2 * w);
      t3 = t 3;
      t4 = t 4;
      t5 = t 5;
      t6 = t 6;
      t7 = t 7;
      t8 = t 8;
      delta = delta_at m top gaps body place;
    }

-- The next row, p with its leading term, or the end.
unfoldable pub next_row : ℕ → ℕ → Bool → List ℕ → ℕ → Option Row
next_row m top gaps body place = cond (at_row m top gaps body place) (Some (row_at m top gaps body place)) None

-- The place behind the next row; at the end it stays.
unfoldable pub next_place : ℕ → ℕ → Bool → List ℕ → ℕ → ℕ
next_place m top gaps body place = cond (at_row m top gaps body place) (place + row_size m top gaps) place
