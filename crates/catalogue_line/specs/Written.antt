-- What the program writes for the numbers of a line, the floor and then the entries, by what the call that writes a catalogue answers. The buffer holds
-- any file, so refusal 14 cannot come (`writing-entering`): entries that pass the tests before it are lawful, and no file of such is longer
-- (`Longest`). The situations that are left are those by which both outputs are defined. Assumes nothing.
use Rattle.std.specs.Prelude.{◌≡◌, true, not, ℕ, ◌-◌, ◌≤◌, ◌<◌, get_or, take, drop, ltb, Ok, Err}
use Rattle.std.proofs.Math.Path.{refl, sym, ap}
use Rattle.std.proofs.Common.{◌∙◌, arith, take_all, le-ltb}
use mathlib.Core.List.{List, [], ◌∷◌}
use Rattle.std.proofs.Math.ListN.{length}
use Rattle.definitions.specs.Number.{all, over}
use Rattle.definitions.specs.Answers.{unless, refusal_number, Situation, situation}
use Rattle.definitions.specs.Generator.{lawful_floor}
use Rattle.definitions.specs.Listing.{refused_text, unreadable}
use Rattle.definitions.specs.Writing.{entries_of, ranked_file, entering, writing, file_answer, file_buffer}
use Rattle.definitions.specs.Writing.{lawful_degrees, lawful_tops, ascending, file_output, file_errors}
use Rattle.definitions.specs.declared.Refusal.{Refusal}
use Rattle.definitions.specs.declared.Refusal.TheVariants.{FileTooLong}
use Rattle.answer_laws.specs.Unless.{passes, at_end, Outcome, is_refused, is_given, outcome, unless_refused, unless_given}
use Rattle.answer_laws.specs.Unless.{unless_passes, unless_append, told_given, told_refused}
use Rattle.slice_laws.specs.Over.{over_nothing}
use Rattle.writing_laws.specs.RankedFile.{entering_lawful, file_none}
use Rattle.writing_laws.specs.Longest.{longest_file, file_longest}
use Rattle.catalogue_line.specs.declared.Output.{Output}

-- ---- the tests of the entries and of their floor decide

-- The situations that concern these.
abbrev pub tests : ℕ → List ℕ → List Situation
tests floor e = entering floor (entries_of floor e)

module _ (floor : ℕ) (e s : List ℕ) (room : longest_file ≤ length s) {A : Type 0} (refuse : Refusal → A) (value : A) where
  -- The one behind them.
  abbrev too_long : Situation
  too_long = situation (ltb (length s) (length (ranked_file (entries_of floor e)))) FileTooLong

  writing_entering : unless (writing floor e s) refuse value ≡ unless (tests floor e) refuse value
  unfolding writing unless
  writing_entering = unless_append refuse value (tests floor e) (too_long ∷ []) ∙ go (outcome (tests floor e))
    where
      go : Outcome (tests floor e) → unless (tests floor e) refuse (unless (too_long ∷ []) refuse value) ≡ unless (tests floor e) refuse value
      go (is_refused d) = unless_refused refuse (unless (too_long ∷ []) refuse value) d ∙ sym (unless_refused refuse value d)
      go (is_given n) =
          let ls = entries_of floor e in
          let fits : length (ranked_file ls) ≤ length s = omega (arith, file_longest ls (entering_lawful floor ls n)) in
          ap (unless (tests floor e) refuse) (unless_passes refuse value too_long [] (le-ltb (length s) (length (ranked_file ls)) fits))

-- ---- what is written

-- The lengths of both outputs, and both buffers behind the call.
abbrev pub Outputs : List ℕ → List ℕ → List ℕ → Output → List ℕ → List ℕ → Type 0
Outputs n file text r file' text' =
    (r.file ≡ length (file_output n)) × ((r.text ≡ length (file_errors n)) × ((file' ≡ over 0 (file_output n) file) × (text' ≡ over 0 (file_errors n) text)))

-- Both outputs known, with what is left in the buffers.
outputs_are : (n file text a b : List ℕ) {r : Output} {file' text' : List ℕ} → file_output n ≡ a → file_errors n ≡ b
    → r ≡ record { file = length a; text = length b } → file' ≡ over 0 a file → text' ≡ over 0 b text → Outputs n file text r file' text'
outputs_are n file text a b f g x y z = rw (f, g, x, y, z) (refl, (refl, (refl, refl)))

-- A line without numbers.
pub outputs_none : (file text : List ℕ) {r : Output} {text' : List ℕ} → r ≡ record { file = 0; text = length (refused_text unreadable) }
    → text' ≡ over 0 (refused_text unreadable) text → Outputs [] file text r file text'
unfolding file_output file_errors
outputs_none file text x z = outputs_are [] file text [] (refused_text unreadable) refl refl x (sym (over_nothing 0 file)) z

-- A line with numbers: the first is the floor, and all behind it are entries.
pub outputs_some : (n file text : List ℕ) {r : Output} {file' text' : List ℕ} → 0 < length n
    → Outputs (get_or n 0 0 ∷ take (length n - 1) (drop 1 n)) file text r file' text' → Outputs n file text r file' text'
outputs_some [] file text h x = absurd (omega arith)
outputs_some (floor ∷ e) file text h x = rw (take_all (length (floor ∷ e) - 1) e (omega arith)) at x

-- Its outputs go by the tests.
abbrev pub said : Refusal → List ℕ
said n = refused_text (refusal_number n)

module _ (floor : ℕ) (e : List ℕ) where
  abbrev whole : List ℕ
  whole = ranked_file (entries_of floor e)

  pub output_is : file_output (floor ∷ e) ≡ unless (tests floor e) (λ (n : Refusal). []) whole
  unfolding file_output
  output_is = refl

  pub errors_are : file_errors (floor ∷ e) ≡ unless (tests floor e) said []
  unfolding file_errors
  errors_are = refl

  module _ (file text : List ℕ) (room : longest_file ≤ length file) where
    answer_is : file_answer floor e file ≡ unless (tests floor e) Err (Ok (length whole))
    unfolding file_answer
    answer_is = writing_entering floor e file room Err (Ok (length whole))

    buffer_is : file_buffer floor e file ≡ unless (tests floor e) (λ (n : Refusal). file) (over 0 whole file)
    unfolding file_buffer
    buffer_is = writing_entering floor e file room (λ (n : Refusal). file) (over 0 whole file)

    -- A file is given: it is written, and nothing is said.
    pub outputs_file : {n : ℕ} {file' : List ℕ} → file_answer floor e file ≡ Ok n → file' ≡ file_buffer floor e file
        → Outputs (floor ∷ e) file text (record { file = n; text = 0 }) file' text
    outputs_file {n} a b =
        let t = told_given (tests floor e) (sym answer_is ∙ a) (λ r d. let z : ◌≡◌ {A = ℕ} 0 1 = cc in omega arith) in
        let same = t.1 in
        let long : length whole ≡ n = cc in
        outputs_are (floor ∷ e) file text whole []
        (output_is ∙ unless_given (λ (r : Refusal). []) whole t.0)
        (errors_are ∙ unless_given said [] t.0)
        (ap (λ (k : ℕ). record { file = k; text = 0 }) (sym long))
        (b ∙ buffer_is ∙ unless_given (λ (r : Refusal). file) (over 0 whole file) t.0)
        (sym (over_nothing 0 text))

    -- A refusal: nothing is written, and its line is said.
    pub outputs_refused : {n : Refusal} {r : Output} {file' text' : List ℕ} → file_answer floor e file ≡ Err n → file' ≡ file_buffer floor e file
        → r ≡ record { file = 0; text = length (said n) } → text' ≡ over 0 (said n) text → Outputs (floor ∷ e) file text r file' text'
    outputs_refused {n} a b x z =
        let t = told_refused (tests floor e) (sym answer_is ∙ a) (λ d. let z : ◌≡◌ {A = ℕ} 0 1 = cc in omega arith) in
        let same = t.2 in
        let is : t.0 ≡ n = cc in
        outputs_are (floor ∷ e) file text [] (said n)
        (output_is ∙ unless_refused (λ (r : Refusal). []) whole t.1)
        (errors_are ∙ unless_refused said [] t.1 ∙ ap said is)
        x
        (b ∙ buffer_is ∙ unless_refused (λ (r : Refusal). file) (over 0 whole file) t.1 ∙ sym (over_nothing 0 file))
        z

-- A lawful floor without entries gives the file of the single byte 0.
pub output_floor_alone : (floor : ℕ) → lawful_floor floor ≡ true → file_output (floor ∷ []) ≡ 0 ∷ []
unfolding entries_of entering lawful_degrees lawful_tops ascending all
output_floor_alone floor h =
    output_is floor []
    ∙ unless_given (λ (n : Refusal). []) (ranked_file []) (passes refl (passes refl (passes (ap not h) (passes refl at_end))))
    ∙ file_none
