-- What writing answers and what it leaves in the buffer, by its situations in their order: degrees, T, the floor, the order of degrees, the file's
-- length. Assumes nothing.
use Rattle.std.specs.Prelude.{Result, Ok, Err}
use mathlib.Core.Path.{◌≡◌, ap}
use mathlib.Core.Bool.{true, false, not}
use mathlib.Core.List.{List}
use Prim.Native.Nat.{ℕ, ◌<◌, ◌≤◌}
use lib.ListN.{length}
use borrow.Author.Tests.{lt-ltb, le-ltb}
use Rattle.definitions.specs.declared.Selection.{Selection}
use Rattle.definitions.specs.Number.{over}
use Rattle.definitions.specs.Generator.{lawful_floor}
use Rattle.definitions.specs.Writing.{entries_of, ranked_file, lawful_degrees, lawful_tops, ascending, entering, writing, file_answer, file_buffer}
use Rattle.definitions.specs.declared.Refusal.{Refusal}
use Rattle.definitions.specs.declared.Refusal.TheVariants.{WrongDegree, WrongDimension, WrongFloor, NotAscending, FileTooLong}
use Rattle.answer_laws.specs.Unless.{Decides, here, later, NoneApplies, passes, at_end}
use Rattle.answer_laws.specs.Together.{answered_refused, answered_given}
use Rattle.answer_laws.specs.Lent.{answers_file}

-- The answer a, and the buffer t afterwards, as the definitions have them.
abbrev pub Answered : ℕ → List ℕ → List ℕ → Result ℕ Refusal → List ℕ → Type 0
Answered floor e s a t = (a ≡ file_answer floor e s) × (t ≡ file_buffer floor e s)

module _ (floor : ℕ) (e s : List ℕ) where
  abbrev asked : List Selection
  asked = entries_of floor e

  -- ---- refused
  no_file : {r : Refusal} → Decides r (writing floor e s) → Answered floor e s (Err r) s
  no_file d = answers_file floor e s (answered_refused d)

  pub wrong_degrees : lawful_degrees asked ≡ false → Answered floor e s (Err WrongDegree) s
  wrong_degrees h = no_file (unfold writing entering in here (ap not h))

  module _ (degrees : lawful_degrees asked ≡ true) where
    pub wrong_tops : lawful_tops asked ≡ false → Answered floor e s (Err WrongDimension) s
    wrong_tops h = no_file (unfold writing entering in later (ap not degrees) (here (ap not h)))

    module _ (tops : lawful_tops asked ≡ true) where
      pub wrong_floor : lawful_floor floor ≡ false → Answered floor e s (Err WrongFloor) s
      wrong_floor h = no_file (unfold writing entering in later (ap not degrees) (later (ap not tops) (here (ap not h))))

      module _ (in_range : lawful_floor floor ≡ true) where
        pub not_ascending : ascending asked ≡ false → Answered floor e s (Err NotAscending) s
        not_ascending h =
            no_file (unfold writing entering in later (ap not degrees) (later (ap not tops) (later (ap not in_range) (here (ap not h)))))

        module _ (order : ascending asked ≡ true) where
          pub too_long_lem : {n : ℕ} → n ≡ length (ranked_file asked) → length s < n → Answered floor e s (Err FileTooLong) s
          too_long_lem c h =
              no_file (unfold writing entering in later (ap not degrees) (later (ap not tops) (later (ap not in_range)
              (later (ap not order) (here (rw c at (lt-ltb _ _ h)))))))

          -- ---- or written
          none_applies : length (ranked_file asked) ≤ length s → NoneApplies (writing floor e s)
          none_applies h =
              unfold writing entering in passes (ap not degrees) (passes (ap not tops) (passes (ap not in_range) (passes (ap not order)
              (passes (le-ltb _ _ h) at_end))))

          pub written : {n : ℕ} {t : List ℕ} → n ≡ length (ranked_file asked) → n ≤ length s → t ≡ over 0 (ranked_file asked) s
              → Answered floor e s (Ok n) t
          written c h w = rw (w, c) (answers_file floor e s (answered_given (none_applies (rw c at h))))
