-- Document 01's catalogue of 41 bytes, computed: it is what the encoder makes of the ranked list of degree 3 and T = 4, it is well-formed,
-- and a reader hands out its four rows and then the end. The same list with Δ takes 45 bytes. Assumes nothing.
use Rattle.std.specs.Prelude.{◌≡◌, refl, Bool, true, false, List, [], ◌∷◌, map, ℕ, Ok}
use Rattle.definitions.specs.Ranking.{ranked}
use Rattle.definitions.proofs.Examples.{no_floor, calls, list_three}
use Rattle.definitions.specs.Answers.{unless, next_row_values}
use Rattle.definitions.specs.Catalogue.{number_at, number_size, count_size, entry_size, row_size, entry_at, behind_entries, row_form, entry_form, entries_form}
use Rattle.definitions.specs.Catalogue.{catalogue_form, opening, entry_from, entry_of, looking, lookup_numbers, lookup_part, reader_top, at_row, row_at, next_row}
use Rattle.definitions.specs.Catalogue.{reader_gaps, next_place}
use Rattle.definitions.specs.Writing.{Listed, bytes_of, row_bytes, body_bytes, entry_bytes, contents_bytes, behind_lists, catalogue_bytes}
use Rattle.catalogue_laws.specs.Reader.{hands_out}

unfoldable pub printed : List ℕ
printed =
    1
    ∷ 3 ∷ 4 ∷ 0 ∷ 4 ∷ 0 ∷ 0 ∷ 0 ∷ 9
    ∷ 0 ∷ 3 ∷ 0 ∷ 4 ∷ 0 ∷ 2 ∷ 1 ∷ 1
    ∷ 0 ∷ 3 ∷ 0 ∷ 7 ∷ 0 ∷ 5 ∷ 1 ∷ 1
    ∷ 0 ∷ 5 ∷ 0 ∷ 5 ∷ 0 ∷ 3 ∷ 1 ∷ 1
    ∷ 0 ∷ 5 ∷ 0 ∷ 7 ∷ 0 ∷ 4 ∷ 1 ∷ 1
    ∷ []

-- To unfold this is to unfold all sizes.
sizes : ℕ
unfolding number_size count_size entry_size row_size
sizes = 0

-- To unfold this is to unfold what a file's form is defined by, so that it computes.
form : ℕ
unfolding calls sizes number_at entry_at behind_entries row_form entry_form entries_form catalogue_form unless looking entry_from entry_of
form = 0

pub printed_form : catalogue_form printed ≡ true
unfolding printed form
printed_form = refl

pub printed_opens : opening printed ≡ Ok 1
unfolding printed form opening
printed_opens = refl

pub printed_numbers : lookup_numbers printed 3 ≡ Ok (record { top = 4; gaps = false; rows = 4 })
unfolding printed form lookup_numbers
printed_numbers = refl

-- p, q and the step, with t(3) and t(4).
abbrev row : ℕ → ℕ → ℕ → List ℕ
row p q step = 0 ∷ p ∷ q ∷ step ∷ 1 ∷ 1 ∷ 0 ∷ 0 ∷ 0 ∷ 0 ∷ 0 ∷ []

pub printed_rows : map next_row_values (hands_out 5 3 (reader_top printed 3) (reader_gaps printed 3) (lookup_part printed 3) 0)
    ≡ row 11 4 2 ∷ row 11 7 5 ∷ row 13 5 3 ∷ row 13 7 4 ∷ (0 ∷ []) ∷ []
unfolding printed form hands_out reader_top reader_gaps lookup_part at_row row_at next_row next_place
printed_rows = refl

-- The ranked list of degree 3 and T = 4.
abbrev list : Bool → Listed
list gaps = record { degree = 3; top = 4; gaps = gaps; rows = ranked (record { degree = 3; top = 4; floor = no_floor; gaps = gaps }) }

pub printed_bytes : catalogue_bytes (list false ∷ []) ≡ printed
unfolding printed form bytes_of row_bytes body_bytes entry_bytes contents_bytes behind_lists catalogue_bytes
printed_bytes = rw list_three

-- ---- the same list with Δ, which is 0 in each of its rows

unfoldable pub with_gaps : List ℕ
with_gaps =
    1
    ∷ 3 ∷ 20 ∷ 0 ∷ 4 ∷ 0 ∷ 0 ∷ 0 ∷ 9
    ∷ 0 ∷ 3 ∷ 0 ∷ 4 ∷ 0 ∷ 2 ∷ 1 ∷ 1 ∷ 0
    ∷ 0 ∷ 3 ∷ 0 ∷ 7 ∷ 0 ∷ 5 ∷ 1 ∷ 1 ∷ 0
    ∷ 0 ∷ 5 ∷ 0 ∷ 5 ∷ 0 ∷ 3 ∷ 1 ∷ 1 ∷ 0
    ∷ 0 ∷ 5 ∷ 0 ∷ 7 ∷ 0 ∷ 4 ∷ 1 ∷ 1 ∷ 0
    ∷ []

pub gaps_form : catalogue_form with_gaps ≡ true
unfolding with_gaps form
gaps_form = refl

pub gaps_numbers : lookup_numbers with_gaps 3 ≡ Ok (record { top = 4; gaps = true; rows = 4 })
unfolding with_gaps form lookup_numbers
gaps_numbers = refl

list_gaps : (list true).rows
    ≡ (11 ∷ 4 ∷ 2 ∷ 1 ∷ 1 ∷ 0 ∷ []) ∷ (11 ∷ 7 ∷ 5 ∷ 1 ∷ 1 ∷ 0 ∷ []) ∷ (13 ∷ 5 ∷ 3 ∷ 1 ∷ 1 ∷ 0 ∷ []) ∷ (13 ∷ 7 ∷ 4 ∷ 1 ∷ 1 ∷ 0 ∷ []) ∷ []
unfolding ranked calls
list_gaps = refl

pub gaps_bytes : catalogue_bytes (list true ∷ []) ≡ with_gaps
unfolding with_gaps form bytes_of row_bytes body_bytes entry_bytes contents_bytes behind_lists catalogue_bytes
gaps_bytes = rw list_gaps

-- A row's last byte is Δ, whatever it is.
pub last_byte : map next_row_values (hands_out 2 3 4 true (0 ∷ 3 ∷ 0 ∷ 4 ∷ 0 ∷ 2 ∷ 1 ∷ 1 ∷ 255 ∷ []) 0)
    ≡ (0 ∷ 11 ∷ 4 ∷ 2 ∷ 1 ∷ 1 ∷ 0 ∷ 0 ∷ 0 ∷ 0 ∷ 255 ∷ []) ∷ (0 ∷ []) ∷ []
unfolding form hands_out at_row row_at next_row next_place
last_byte = refl
