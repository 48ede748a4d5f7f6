-- What points answers and what it leaves in the slice, by its situations in their order: the degree, the floor, the pair, the first index. Assumes nothing.
use Rattle.std.specs.Prelude.{Result, Ok, Err}
use mathlib.Core.Path.{◌≡◌, ap}
use mathlib.Core.Bool.{true, false, not}
use mathlib.Core.List.{List}
use Prim.Native.Nat.{ℕ, ◌+◌, ◌-◌, ◌^◌, ◌<◌, ◌≤◌, min}
use native.Mathlib.Omega.{arith}
use lib.ListN.{length}
use borrow.Author.Tests.{lt-ltb, le-ltb}
use Rattle.definitions.specs.Number.{over}
use Rattle.definitions.specs.Calls.{judging, pointing, word_count, points_answer, points_slice}
use Rattle.definitions.specs.Generator.{lawful_degree, lawful_floor, period}
use Rattle.definitions.specs.Points.{words}
use Rattle.definitions.specs.declared.Refusal.{Refusal}
use Rattle.definitions.specs.declared.Refusal.TheVariants.{WrongDegree, WrongFloor, BeyondPeriod}
use Rattle.answer_laws.specs.Unless.{Decides, here, later, decides_front, decides_behind, NoneApplies, passes, at_end, none_append}
use Rattle.answer_laws.specs.Together.{answered_refused, answered_given}
use Rattle.answer_laws.specs.Lent.{answers_points}
use Rattle.verdicts.specs.Verdicts.{pair_verdict}
use Rattle.verdicts.specs.Refusals.{verdict_decides, verdict_passes}

-- From first up to the last index 2^m - 2.
pub words_left : (m first lead : ℕ) (s : List ℕ) → lead ≡ 2 ^ m → 2 ≤ lead → first ≤ lead - 2
    → min (length s) (lead - 2 - first + 1) ≡ word_count m first s
words_left m first lead s e two l =
    let k : lead - 2 - first + 1 ≡ period m - first = omega arith in
    ap (min (length s)) k

-- The answer a, and the slice s' afterwards, as the definitions have them.
abbrev pub Answered : ℕ → ℕ → ℕ → ℕ → ℕ → List ℕ → Result ℕ Refusal → List ℕ → Type 0
Answered m floor p q first s a s' = (a ≡ points_answer m floor p q first s) × (s' ≡ points_slice m floor p q first s)

module _ (m floor p q first : ℕ) (s : List ℕ) where
  -- ---- refused
  not_written : {r : Refusal} → Decides r (pointing m floor p q first) → Answered m floor p q first s (Err r) s
  not_written d = answers_points m floor p q first s (answered_refused d)

  pub wrong_degree : lawful_degree m ≡ false → Answered m floor p q first s (Err WrongDegree) s
  wrong_degree h = not_written (unfold pointing judging in here (ap not h))

  module _ (h : lawful_degree m ≡ true) where
    pub wrong_floor : lawful_floor floor ≡ false → Answered m floor p q first s (Err WrongFloor) s
    wrong_floor f = not_written (unfold pointing judging in later (ap not h) (here (ap not f)))

    module _ (f : lawful_floor floor ≡ true) where
      pub answered_pair : {r : Refusal} → pair_verdict m floor p q ≡ Err r → Answered m floor p q first s (Err r) s
      answered_pair e =
          not_written (unfold pointing judging in later (ap not h) (later (ap not f) (decides_front _ (verdict_decides m floor p q e))))

      pub answered_beyond : pair_verdict m floor p q ≡ Ok tt → period m - 1 < first → Answered m floor p q first s (Err BeyondPeriod) s
      answered_beyond e l =
          not_written (unfold pointing judging in later (ap not h) (later (ap not f)
          (decides_behind (verdict_passes m floor p q e) (here (lt-ltb _ _ l)))))

      -- ---- or written
      none_applies : pair_verdict m floor p q ≡ Ok tt → first ≤ period m - 1 → NoneApplies (pointing m floor p q first)
      none_applies e l =
          unfold pointing judging in passes (ap not h) (passes (ap not f) (none_append (verdict_passes m floor p q e) (passes (le-ltb _ _ l) at_end)))

      pub answered_written : {count : ℕ} {s' : List ℕ} → pair_verdict m floor p q ≡ Ok tt → first ≤ period m - 1
          → count ≡ word_count m first s → s' ≡ over 0 (words p q first count) s → Answered m floor p q first s (Ok count) s'
      answered_written e l c w = rw (w, c) (answers_points m floor p q first s (answered_given (none_applies e l)))
