-- Writing a catalogue: the bytes of a file that holds given lists, which `Catalogue.antt` reads; the file that entries ask for; what the call answers
-- and leaves in the lent buffer; and the program that writes a file. Assumes nothing.
use Rattle.std.specs.Prelude.{◌&&◌, ◌∷◌, ◌++◌, ◌+◌, ◌-◌, ◌*◌, ◌/◌, ◌%◌, ◌^◌}
use Rattle.definitions.specs.Base.{Bool, true, false, not, List, [], map, ℕ, zero, suc, ltb, length, drop}
use Rattle.definitions.specs.Base.{get_or, Selection, Refusal, WrongDegree, WrongDimension, WrongFloor, NotAscending, FileTooLong, Result, Ok, Err}
use Rattle.definitions.specs.Number.{all, join, over}
use Rattle.definitions.specs.Answers.{refusal_number, Situation, situation, unless}
use Rattle.definitions.specs.Generator.{lawful_degree, lawful_floor}
use Rattle.definitions.specs.Ranking.{lawful_top, ranks_from, ranked}
use Rattle.definitions.specs.Catalogue.{number_size, count_size, offset_size, entry_size, first_entry, most_entries, marked_top, gaps_of, top_of}
use Rattle.definitions.specs.Listing.{numbers_within, refused_text, unreadable}

-- ---- the bytes of a file

-- A number in w bytes, big-endian.
unfoldable pub bytes_of : ℕ → ℕ → List ℕ
bytes_of zero n = []
bytes_of (suc w) n = bytes_of w (n / 256) ++ (n % 256 ∷ [])

-- The ranked rows, or any others, of a degree; `gaps` says whether they have Δ.
pub record Listed : Type 0 where
  pub degree : ℕ
  pub top : ℕ
  pub gaps : Bool
  pub rows : List (List ℕ)

-- In a row's numbers: p, q and σ, before those that rank it.
abbrev pub p_of : List ℕ → ℕ
p_of r = get_or r 0 0

abbrev pub q_of : List ℕ → ℕ
q_of r = get_or r 1 0

abbrev pub step_of : List ℕ → ℕ
step_of r = get_or r 2 0

-- A row: p without its leading term, q and σ, then t(3) .. t(T), and Δ where the row has it, in one byte each.
unfoldable pub row_bytes : ℕ → List ℕ → List ℕ
row_bytes m r =
    let w : ℕ = number_size m in
    bytes_of w (p_of r - 2 ^ m) ++ bytes_of w (q_of r) ++ bytes_of w (step_of r) ++ drop ranks_from r

unfoldable pub body_bytes : Listed → List ℕ
body_bytes l = join (map (row_bytes l.degree) l.rows)

-- An entry: the degree, T with the kind, the row count, the place of the body.
unfoldable pub entry_bytes : Listed → ℕ → List ℕ
entry_bytes l offset = l.degree ∷ marked_top l.top l.gaps ∷ bytes_of (count_size l.degree) (length l.rows) ++ bytes_of offset_size offset

-- The entries, the first body lying at `at`.
unfoldable pub contents_bytes : List Listed → ℕ → List ℕ
contents_bytes [] at = []
contents_bytes (l ∷ ls) at = entry_bytes l at ++ contents_bytes ls (at + length (body_bytes l))

-- The place behind the entries of the lists, the first entry lying at i.
unfoldable pub behind_lists : List Listed → ℕ → ℕ
behind_lists [] i = i
behind_lists (l ∷ ls) i = behind_lists ls (i + entry_size l.degree)

-- How many entries there are, the entries, the bodies.
unfoldable pub catalogue_bytes : List Listed → List ℕ
catalogue_bytes ls = length ls ∷ contents_bytes ls (behind_lists ls first_entry) ++ join (map body_bytes ls)

-- ---- the file that is asked for

-- The entries of a lent slice, each at the floor of the file: degree, T, degree, T, .., with T + 16 for T where the rows are to have Δ. For a last T
-- that is missing stands 0, which is no lawful T.
unfoldable pub entries_of : ℕ → List ℕ → List Selection
entries_of floor [] = []
entries_of floor (m ∷ []) = record { degree = m; top = 0; floor = floor; gaps = false } ∷ []
entries_of floor (m ∷ n ∷ e) = record { degree = m; top = top_of n; floor = floor; gaps = gaps_of n } ∷ entries_of floor e

-- What the file holds for an entry: the ranked list.
unfoldable pub ranked_list : Selection → Listed
ranked_list l = record { degree = l.degree; top = l.top; gaps = l.gaps; rows = ranked l }

unfoldable pub ranked_file : List Selection → List ℕ
ranked_file ls = catalogue_bytes (map ranked_list ls)

-- Each degree is lawful, and each T.
unfoldable pub lawful_degrees : List Selection → Bool
lawful_degrees ls = all (λ (l : Selection). lawful_degree l.degree) ls

unfoldable pub lawful_tops : List Selection → Bool
lawful_tops ls = all (λ (l : Selection). lawful_top l.top) ls

-- Each degree is above the one before it.
unfoldable pub ascending : List Selection → Bool
ascending [] = true
ascending (l ∷ []) = true
ascending (l ∷ k ∷ ls) = ltb l.degree k.degree && ascending (k ∷ ls)

-- ---- the call

-- The situations that concern the entries and their floor: 1, 2, 12, 13.
unfoldable pub entering : ℕ → List Selection → List Situation
entering floor ls =
    situation (not (lawful_degrees ls)) WrongDegree
    ∷ situation (not (lawful_tops ls)) WrongDimension
    ∷ situation (not (lawful_floor floor)) WrongFloor
    ∷ situation (not (ascending ls)) NotAscending
    ∷ []

-- Writing: these, then 14 where the file is longer than the buffer.
unfoldable pub writing : ℕ → List ℕ → List ℕ → List Situation
writing floor e s =
    entering floor (entries_of floor e) ++ situation (ltb (length s) (length (ranked_file (entries_of floor e)))) FileTooLong ∷ []

-- The length of the file.
unfoldable pub file_answer : ℕ → List ℕ → List ℕ → Result ℕ Refusal
file_answer floor e s = unless (writing floor e s) Err (Ok (length (ranked_file (entries_of floor e))))

-- The file over the front of the buffer; the bytes behind it stay.
unfoldable pub file_buffer : ℕ → List ℕ → List ℕ → List ℕ
file_buffer floor e s = unless (writing floor e s) (λ (n : Refusal). s) (over 0 (ranked_file (entries_of floor e)) s)

-- ---- the program

-- The numbers of a line that asks for a file: the floor, then at most a degree and T for each lawful degree; none where the line cannot be read or
-- has more.
abbrev pub file_numbers : List ℕ → List ℕ
file_numbers s = numbers_within (suc (2 * most_entries)) s

-- What is written for such numbers to standard output: the file, or nothing,
unfoldable pub file_output : List ℕ → List ℕ
file_output [] = []
file_output (floor ∷ e) = unless (entering floor (entries_of floor e)) (λ (n : Refusal). []) (ranked_file (entries_of floor e))

-- and to standard error: nothing, or the line of a refusal.
unfoldable pub file_errors : List ℕ → List ℕ
file_errors [] = refused_text unreadable
file_errors (floor ∷ e) = unless (entering floor (entries_of floor e)) (λ (n : Refusal). refused_text (refusal_number n)) []
