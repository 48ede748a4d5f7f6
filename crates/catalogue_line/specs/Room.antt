-- Both outputs fit their buffers, whatever the line. No file is longer than `longest_file`, and a refusal of the entries or their floor has one of the
-- numbers 1, 2, 12 and 13. Assumes nothing.
use Rattle.std.specs.Prelude.{List, [], ◌∷◌, ℕ, ◌^◌, ◌≤◌, ◌<◌, length}
use Rattle.std.proofs.Common.{arith}
use Rattle.definitions.specs.Answers.{Situation, refusal_number}
use Rattle.definitions.specs.Listing.{unreadable}
use Rattle.definitions.specs.Writing.{entries_of, ranked_file, entering, file_output, file_errors}
use Rattle.definitions.specs.declared.Selection.{Selection}
use Rattle.definitions.specs.declared.Refusal.{Refusal}
use Rattle.answer_laws.specs.Unless.{Decides, here, later, Outcome, is_refused, is_given, outcome, unless_refused, unless_given}
use Rattle.list_lines.specs.Texts.{refused_room, refused_short}
use Rattle.writing_laws.specs.RankedFile.{entering_lawful}
use Rattle.writing_laws.specs.Longest.{longest_file, file_longest}
use Rattle.catalogue_line.specs.Written.{tests, said, output_is, errors_are}

-- What holds of each situation's refusal holds of the one that decides.
abbrev Each : (Refusal → Type 0) → List Situation → Type 0
Each P [] = Unit {0}
Each P (s ∷ l) = P s.refusal × Each P l

decides_each : (P : Refusal → Type 0) {r : Refusal} {l : List Situation} → Each P l → Decides r l → P r
decides_each P e (here t) = e.0
decides_each P e (later f d) = decides_each P e.1 d

abbrev Short : Refusal → Type 0
Short r = refusal_number r < 2 ^ 32

entering_each : (floor : ℕ) (ls : List Selection) → Each Short (entering floor ls)
unfolding entering
entering_each floor ls = (omega arith, (omega arith, (omega arith, (omega arith, tt))))

entering_number : {r : Refusal} (floor : ℕ) (ls : List Selection) → Decides r (entering floor ls) → refusal_number r < 2 ^ 32
entering_number floor ls d = decides_each Short (entering_each floor ls) d

pub output_fits : (n : List ℕ) → length (file_output n) ≤ longest_file
unfolding file_output
output_fits [] = omega arith
output_fits (floor ∷ e) = go (outcome (tests floor e))
  where
    go : Outcome (tests floor e) → length (file_output (floor ∷ e)) ≤ longest_file
    go (is_refused d) = rw (output_is floor e, unless_refused (λ (r : Refusal). []) (ranked_file (entries_of floor e)) d) (omega arith)
    go (is_given n) =
        rw (output_is floor e, unless_given (λ (r : Refusal). []) (ranked_file (entries_of floor e)) n)
        (file_longest (entries_of floor e) (entering_lawful floor (entries_of floor e) n))

pub errors_fit : (n : List ℕ) → length (file_errors n) ≤ refused_room
unfolding file_errors
errors_fit [] = refused_short unreadable (omega arith)
errors_fit (floor ∷ e) = go (outcome (tests floor e))
  where
    go : Outcome (tests floor e) → length (file_errors (floor ∷ e)) ≤ refused_room
    go (is_refused {r = r} d) =
        rw (errors_are floor e, unless_refused said [] d) (refused_short (refusal_number r) (entering_number floor (entries_of floor e) d))
    go (is_given n) = rw (errors_are floor e, unless_given said [] n) (omega arith)
