-- The words of an accepted pair's full period: no word comes twice; and calls for points one after the other, each from where the last ended, with
-- any slices, bring them all: before the end no call is refused, and one with a slice that is not empty brings a word; at the end the words joined
-- are the full period, and any further call is refused 8. By what was read so far, call by call. Assumes nothing.
use Rattle.std.proofs.Math.Path.{◌≡◌, refl}
use Rattle.std.proofs.Common.{◌∙◌, subst, zero-add, arith, take_at, lt-ltb, le-ltb}
use Rattle.std.specs.Prelude.{◌↔◌, ℕ, zero, suc, ◌+◌, ◌-◌, ◌≤◌, ◌<◌, min, length, Ok, Err}
use mathlib.Core.List.{List, [], ◌∷◌, ◌++◌, Nodup}
use Rattle.std.proofs.Math.Decide.{dec_lt}
use Rattle.std.proofs.Math.ListN.{take, length-append}
use Rattle.definitions.specs.Number.{join}
use Rattle.definitions.specs.Answers.{points_values}
use Rattle.definitions.specs.Generator.{period}
use Rattle.definitions.specs.Points.{words}
use Rattle.definitions.specs.Calls.{pointing, word_count, points_answer, points_slice}
use Rattle.definitions.specs.declared.Refusal.TheVariants.{BeyondPeriod}
use Rattle.answer_laws.specs.Unless.{passes, at_end, none_append, here, decides_behind, unless_given, unless_refused}
use Rattle.answer_laws.specs.Lent.{points_given}
use Rattle.order_laws.specs.Words.{length_words, words_append, words_once}
use Rattle.page_laws.specs.Rows.{join_last}
use Rattle.answers.specs.Values.{value}
use Rattle.slice_laws.specs.Over.{over_front}
use Rattle.demands.specs.Demand2.{Conditions, judging_passes, is_accepted}

-- ---- pieces

-- The pieces received, each its words.
abbrev pub Pieces : Type 0
Pieces = List (List ℕ)

-- A way to ask for points of one pair: `call first s refusal count left` says that a call from the index, with a slice that held s, has answered
-- these numbers (the refusal's or 0, how many words) and has left `left` in the slice.
abbrev pub PointsCall : Type 1
PointsCall = ℕ → List ℕ → ℕ → ℕ → List ℕ → Type 0

-- Reading in progress: the pieces ps were received, and the next call is from the index, behind the words received. Each call brought its own slice,
-- which is not empty.
pub data Read (call : PointsCall) : ℕ → Pieces → Type 0 where
  begun : Read call 0 []
  piece : {i n : ℕ} {ps : Pieces} {s left : List ℕ} → Read call i ps → 0 < length s → call i s 0 n left → Read call (i + n) (ps ++ take n left ∷ [])

-- THE DEMAND, of such calls for a pair.
pub record ReadsPeriod (m p q : ℕ) (call : PointsCall) : Type 0 where
  -- Before the end no call is refused, and as many words come as fit and are left; an empty slice gets none, and the index stays.
  pub answered : {i : ℕ} {ps : Pieces} → Read call i ps → i < period m → (s left : List ℕ) (refusal n : ℕ) → call i s refusal n left
      → (refusal ≡ 0) × (n ≡ min (length s) (period m - i))
  -- Each piece has a word, and there are no more words than the period has, so the reading ends.
  pub ends : {i : ℕ} {ps : Pieces} → Read call i ps → (length ps ≤ i) × (i ≤ period m)
  -- The words received so far are the first of the period,
  pub front : {i : ℕ} {ps : Pieces} → Read call i ps → join ps ≡ words p q 0 i
  -- and at the end they are the full period.
  pub whole : {ps : Pieces} → Read call (period m) ps → join ps ≡ words p q 0 (period m)
  -- There, and only there, a call is refused, with 8, whatever slice it brings.
  pub refused : {i : ℕ} {ps : Pieces} → Read call i ps → (s left : List ℕ) (refusal n : ℕ) → call i s refusal n left
      → (refusal ≡ 8) ↔ (i ≡ period m)

-- One call more from an index: with a slice that is not empty, and it has returned.
pub record NextPoints (call : PointsCall) (i : ℕ) : Type 0 where
  pub lent : List ℕ
  pub some : 0 < length lent
  pub refusal : ℕ
  pub count : ℕ
  pub left : List ℕ
  pub returned : call i lent refusal count left

-- IT ENDS: whoever makes one call more wherever a reading has come to, each after what came before, comes to the end of the period.
module _ (m p q : ℕ) (call : PointsCall) (reads : ReadsPeriod m p q call) (next : (i : ℕ) (ps : Pieces) → Read call i ps → NextPoints call i) where
  abbrev Finished : Type 0
  Finished = (pieces : Pieces) × Read call (period m) pieces

  finished : {i : ℕ} {ps : Pieces} → Read call i ps → period m ≤ i → Finished
  finished {i} {ps} r h =
      let e : i ≡ period m = omega (arith, (reads.ends r).1) in
      (ps, subst (λ k. Read call k ps) e r)

  read_on : (k i : ℕ) (ps : Pieces) → Read call i ps → period m ≤ i + k → Finished
  read_on zero i ps r h = finished r (omega arith)
  read_on (suc k) i ps r h = go (dec_lt i (period m)) (next i ps r) (λ j taken w l. read_on k j (ps ++ taken ∷ []) w l)
    where
      go : Dec (i < period m) → NextPoints call i → ((j : ℕ) (taken : List ℕ) → Read call j (ps ++ taken ∷ []) → period m ≤ j + k → Finished) → Finished
      go (yes inside) c on =
          let told = reads.answered r inside c.lent c.left c.refusal c.count c.returned in
          on (i + c.count) _ (piece r c.some (rw told.0 at c.returned)) (omega (arith, c.some, told.1))
      go (no outside) c on = finished r (omega arith)

  pub reading_ends : (pieces : Pieces) × Read call (period m) pieces
  reading_ends = read_on (period m) 0 [] begun (omega arith)

-- A call as the definitions have it.
pub record DefinedPoints (m floor p q first : ℕ) (s : List ℕ) (refusal count : ℕ) (left : List ℕ) : Type 0 where
  pub refusal_is : refusal ≡ value (points_values (points_answer m floor p q first s)) 0
  pub count_is : count ≡ value (points_values (points_answer m floor p q first s)) 2
  pub slice_is : left ≡ points_slice m floor p q first s

-- Calls are faithful if each is as the definitions have it.
abbrev pub FaithfulPoints : ℕ → ℕ → ℕ → ℕ → PointsCall → Type 0
FaithfulPoints m floor p q call = (first : ℕ) (s : List ℕ) (refusal count : ℕ) (left : List ℕ) → call first s refusal count left
    → DefinedPoints m floor p q first s refusal count left

-- What was read so far.
record SoFar (m p q i : ℕ) (ps : Pieces) : Type 0 where
  few : length ps ≤ i
  most : i ≤ period m
  front : join ps ≡ words p q 0 i

module _ (m floor p q σ : ℕ) (c : Conditions m floor p q σ) where
  -- NO WORD COMES TWICE.
  pub words_distinct : Nodup (words p q 0 (period m))
  words_distinct =
      let w = c.is_well_formed in
      let low : 1 ≤ m = omega (arith, c.lawful.low) in
      words_once m p q low (omega (arith, c.lawful.high)) w.degree_p w.nonzero w.smaller (is_accepted m floor p q σ c)

  -- ---- one call

  -- Within the period,
  module _ (i : ℕ) (inside : i < period m) (s : List ℕ) where
    points_inside : points_answer m floor p q i s ≡ Ok (word_count m i s)
    unfolding points_answer pointing
    points_inside = unless_given Err _ (none_append (judging_passes m floor p q σ c) (passes (le-ltb (period m - 1) i (omega arith)) at_end))

    words_taken : take (word_count m i s) (points_slice m floor p q i s) ≡ words p q i (word_count m i s)
    words_taken =
        rw ((points_given m floor p q i s points_inside).2, over_front)
        (take_at (words p q i (word_count m i s)) _ (word_count m i s) (length_words p q i (word_count m i s)))

  -- and at its end.
  points_behind : (s : List ℕ) → points_answer m floor p q (period m) s ≡ Err BeyondPeriod
  unfolding points_answer pointing
  points_behind s =
      let some : 0 < period m = omega (arith, c.is_step.below) in
      unless_refused Err _ (decides_behind (judging_passes m floor p q σ c) (here (lt-ltb (period m - 1) (period m) (omega arith))))

  -- ---- call by call

  module _ {call : PointsCall} (f : FaithfulPoints m floor p q call) where
    told : {i : ℕ} → i < period m → (s left : List ℕ) (x n : ℕ) → call i s x n left → (x ≡ 0) × (n ≡ word_count m i s)
    told {i} inside s left x n a =
        let d = f i s x n left a in
        (rw (points_inside i inside s) at d.refusal_is, rw (points_inside i inside s) at d.count_is)

    told_behind : {i : ℕ} → i ≡ period m → (s left : List ℕ) (x n : ℕ) → call i s x n left → x ≡ 8
    told_behind {i} e s left x n a =
        let d = f i s x n left a in
        rw (e, points_behind s) at d.refusal_is

    -- An index that was come to is inside, or at the end.
    so_far : {i : ℕ} {ps : Pieces} → Read call i ps → SoFar m p q i ps
    unfolding words
    so_far begun = record { few = omega arith; most = omega arith; front = refl }
    so_far (piece {i = i} {n = n} {ps = ps} {s = s} {left = left} r some a) = go (so_far r) (dec_lt i (period m))
      where
        go : SoFar m p q i ps → Dec (i < period m) → SoFar m p q (i + n) (ps ++ take n left ∷ [])
        go h (yes inside) =
            let count = (told inside s left 0 n a).1 in
            let received : take n left ≡ words p q i n = rw (count, (f i s 0 n left a).slice_is) (words_taken i inside s) in
            record {
              few = simp length-append (omega (arith, h.few));
              most = omega (arith, h.most);
              front = join_last ps (take n left) ∙ rw (h.front, received, words_append) (rw zero-add);
            }
        go h (no outside) =
            let z : ◌≡◌ {A = ℕ} 0 8 = told_behind (omega (arith, h.most)) s left 0 n a in
            absurd (omega arith)

    pub faithful_period : ReadsPeriod m p q call
    faithful_period = record {
      answered = λ r inside s left x n a. told inside s left x n a;
      ends = λ r. let h = so_far r in (h.few, h.most);
      front = λ r. (so_far r).front;
      whole = λ r. (so_far r).front;
      refused = λ r s left x n a. (λ e. behind (so_far r).most s left x n a e, λ e. told_behind e s left x n a);
    }
      where
        behind : {i : ℕ} → i ≤ period m → (s left : List ℕ) (x n : ℕ) → call i s x n left → x ≡ 8 → i ≡ period m
        behind {i} most s left x n a e = go (dec_lt i (period m))
          where
            go : Dec (i < period m) → i ≡ period m
            go (yes inside) = absurd (omega (arith, (told inside s left x n a).0))
            go (no outside) = omega arith

  -- READ BY THE DEFINITIONS.
  pub definition_reads_period : ReadsPeriod m p q (DefinedPoints m floor p q)
  definition_reads_period = faithful_period (λ first s x n left d. d)

  -- Such a call always returns: with any slices that are not empty, each chosen after what came before, there is such a reading to the end.
  pub definition_reading_ends : (choose : ℕ → Pieces → List ℕ) → ((i : ℕ) (ps : Pieces) → 0 < length (choose i ps))
      → (pieces : Pieces) × Read (DefinedPoints m floor p q) (period m) pieces
  definition_reading_ends choose some = reading_ends m p q (DefinedPoints m floor p q) definition_reads_period (λ i ps r. record {
    lent = choose i ps;
    some = some i ps;
    refusal = _;
    count = _;
    left = _;
    returned = record { refusal_is = refl; count_is = refl; slice_is = refl };
  })
