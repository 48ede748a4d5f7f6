-- The listing program: the line that it reads and the text that it prints, as bytes. Assumes nothing.
use Rattle.std.specs.Prelude.{◌&&◌, ◌∷◌, ◌++◌, ◌+◌, ◌-◌, ◌*◌, ◌/◌, ◌%◌}
use Rattle.definitions.specs.Base.{String, len, char_at, code, Bool, true, false, cond, List, [], map, ℕ, zero, suc}
use Rattle.definitions.specs.Base.{eqb, leb, ltb, length, take, drop, replicate, Refusal, Selection, Start, Option, Some, None, Asked}
use Rattle.definitions.specs.Number.{numbers, all, join}
use Rattle.definitions.specs.Answers.{refusal_number, unless}
use Rattle.definitions.specs.Ranking.{row_width, ranked}
use Rattle.definitions.specs.Calls.{page_request, paging}

-- ---- the line

abbrev pub newline : ℕ
newline = 10

abbrev pub space : ℕ
space = 32

-- The digits 0 and 9 as bytes, and the most digits of a number that is read.
abbrev pub digit_zero : ℕ
digit_zero = 48

abbrev pub digit_nine : ℕ
digit_nine = 57

abbrev pub most_digits : ℕ
most_digits = 9

-- What is asked where the line does not say it, T and the floor as in document 02, and the largest page size.
abbrev pub default_top : ℕ
default_top = 8

abbrev pub default_size : ℕ
default_size = 50

abbrev pub default_floor : ℕ
default_floor = 32

abbrev pub largest_size : ℕ
largest_size = 1000

-- The line ends at a newline or at the end of the input; what follows is not read.
unfoldable pub line_of : List ℕ → List ℕ
line_of [] = []
line_of (b ∷ s) = elim (eqb b newline) [ true ↦ [] | false ↦ b ∷ line_of s ]

-- A byte put in front of the first word.
abbrev pub extend : ℕ → List (List ℕ) → List (List ℕ)
extend b [] = (b ∷ []) ∷ []
extend b (w ∷ ws) = (b ∷ w) ∷ ws

-- The words between single spaces: one more than there are spaces.
unfoldable pub words_of : List ℕ → List (List ℕ)
words_of [] = [] ∷ []
words_of (b ∷ s) = elim (eqb b space) [ true ↦ [] ∷ words_of s | false ↦ extend b (words_of s) ]

abbrev pub is_digit : ℕ → Bool
is_digit b = leb digit_zero b && leb b digit_nine

-- A word is a number where it has 1 to 9 bytes, each a decimal digit.
unfoldable pub is_number : List ℕ → Bool
is_number w = leb 1 (length w) && (leb (length w) most_digits && all is_digit w)

-- The number with the digits w behind those of n.
unfoldable pub decimal_from : ℕ → List ℕ → ℕ
decimal_from n [] = n
decimal_from n (b ∷ w) = decimal_from (n * 10 + (b - digit_zero)) w

-- The numbers of a line; none where it cannot be read.
unfoldable pub line_numbers : List ℕ → List ℕ
line_numbers s = elim (all is_number (words_of (line_of s))) [ true ↦ map (decimal_from 0) (words_of (line_of s)) | false ↦ [] ]

-- The same of a line that has at most k; none where it has more.
unfoldable pub numbers_within : ℕ → List ℕ → List ℕ
numbers_within k s = elim (leb (length (line_numbers s)) k) [ true ↦ line_numbers s | false ↦ [] ]

-- Degree, T, page size and floor, or the first of these.
unfoldable pub asked : List ℕ → Option Asked
asked [] = None
asked (m ∷ []) = Some (record { degree = m; top = default_top; size = default_size; floor = default_floor })
asked (m ∷ top ∷ []) = Some (record { degree = m; top = top; size = default_size; floor = default_floor })
asked (m ∷ top ∷ size ∷ []) = Some (record { degree = m; top = top; size = size; floor = default_floor })
asked (m ∷ top ∷ size ∷ floor ∷ []) = Some (record { degree = m; top = top; size = size; floor = floor })
asked (m ∷ top ∷ size ∷ floor ∷ n ∷ l) = None

unfoldable pub read_line : List ℕ → Option Asked
read_line s = asked (line_numbers s)

-- The refusal that belongs to programs alone: of a line that cannot be read, and of a page size above the largest.
abbrev pub unreadable : ℕ
unreadable = 0

-- What a line holds, as the documents' numbers: degree, T, page size and floor, or the number of that refusal.
abbrev pub line_values : Option Asked → List ℕ
line_values (Some a) = a.degree ∷ a.top ∷ a.size ∷ a.floor ∷ []
line_values None = unreadable ∷ []

-- ---- the text

-- The bytes of a text of plain letters.
abbrev pub letters : String → List ℕ
letters text = map (λ (i : ℕ). code (char_at text i)) (numbers 0 (len text))

-- The decimal digits of n, at most as many as `within`; n + 1 are enough.
unfoldable pub decimal_within : ℕ → ℕ → List ℕ
decimal_within zero n = []
decimal_within (suc within) n = elim (ltb n 10) [ true ↦ (digit_zero + n) ∷ [] | false ↦ decimal_within within (n / 10) ++ ((digit_zero + n % 10) ∷ []) ]

unfoldable pub decimal : ℕ → List ℕ
decimal n = decimal_within (suc n) n

unfoldable pub header_text : ℕ → ℕ → List ℕ
header_text m top = letters "degree " ++ decimal m ++ letters " top " ++ decimal top ++ newline ∷ []

-- The numbers of a row, single spaces between.
unfoldable pub row_text : List ℕ → List ℕ
row_text [] = newline ∷ []
row_text (n ∷ []) = decimal n ++ newline ∷ []
row_text (n ∷ k ∷ r) = decimal n ++ space ∷ row_text (k ∷ r)

-- A page's number, its rows, and whether more follow.
unfoldable pub page_text : ℕ → ℕ → Bool → List ℕ
page_text number rows further =
    letters "page " ++ decimal number ++ letters " rows " ++ decimal rows ++ cond further (letters " more") (letters " end") ++ newline ∷ []

unfoldable pub total_text : ℕ → List ℕ
total_text rows = letters "total " ++ decimal rows ++ newline ∷ []

unfoldable pub refused_text : ℕ → List ℕ
refused_text number = letters "refused " ++ decimal number ++ newline ∷ []

-- The pages of `size` rows from page `number` on, at most `within` of them; one more than there are rows is enough.
unfoldable pub pages_text : ℕ → ℕ → ℕ → List (List ℕ) → List ℕ
pages_text zero number size rows = []
pages_text (suc within) number size rows =
    join (map row_text (take size rows))
    ++ elim (ltb size (length rows)) [
      | true ↦ page_text number size true ++ pages_text within (suc number) size (drop size rows)
      | false ↦ page_text number (length rows) false
    ]

unfoldable pub list_text : Selection → ℕ → List ℕ
list_text l size =
    let rows : List (List ℕ) = ranked l in
    header_text l.degree l.top ++ pages_text (suc (length rows)) 1 size rows ++ total_text (length rows)

-- The printed text: an unreadable line or a page size above 1000 first, then the refusals of a page that holds `size` rows, then the list.
unfoldable pub answer_text : Option Asked → List ℕ
answer_text None = refused_text unreadable
answer_text (Some a) =
    let l : Selection = record { degree = a.degree; top = a.top; floor = a.floor; gaps = false } in
    elim (ltb largest_size a.size) [
      | true ↦ refused_text unreadable
      | false ↦ unless (paging (page_request l Start) (replicate (a.size * row_width l) 0)) (λ (n : Refusal). refused_text (refusal_number n)) (list_text l a.size)
    ]

unfoldable pub listing : List ℕ → List ℕ
listing s = answer_text (read_line s)
