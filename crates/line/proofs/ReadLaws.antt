-- One word of a line and the numbers behind it: what is answered and what the slice holds, each way through `read_line`.
-- A number is stored before the others, which stand in the slice already.
-- Assumes nothing.
use Rattle.std.proofs.Common.{◌≡◌, refl, sym, ap, ◌∙◌, Option, Some, None, List, [], ◌∷◌, ◌++◌, ℕ, suc, ◌+◌, ◌-◌, ◌≤◌, ◌<◌, length, take, drop, add-one, arith, append-nil, drop_of_length-le, take_all, length-drop}
use Rattle.std.proofs.Math.ListN.{set}
use Rattle.std.specs.Option.{unwrap_or}
use borrow.Rule.Slice.PartMut.{put_mid}
use Rattle.definitions.specs.Number.{over}
use Rattle.definitions.specs.Listing.{space, words_of}
use Rattle.slice_laws.specs.Over.{over_front, over_nothing}
use Rattle.line.specs.Part.{up_to, up_to_take, up_to_short}
use Rattle.line.specs.Word.{word_of}
use Rattle.line.specs.Numbers.{count_of, before_others, numbers_of, numbers_none, numbers_last, numbers_more}

-- What is behind a place, as a slice has it.
pub behind : (k : ℕ) (s : List ℕ) → take (length s - k) (drop k s) ≡ drop k s
behind k s = take_all (length s - k) (drop k s) (omega (arith, length-drop k s))

-- The numbers l are read: their count is answered, and they stand in the slice.
abbrev pub Read : List ℕ → List ℕ → Option ℕ → List ℕ → Type 0
Read out l r exit = (r ≡ count_of l) × (exit ≡ over 0 l out)

pub none_read : (out : List ℕ) {l : List ℕ} → l ≡ [] → Read out l None out
none_read out e = rw e (refl, sym (over_nothing 0 out))

pub count_length : {n : ℕ} (l : List ℕ) → Some n ≡ count_of l → n ≡ length l
count_length [] e = cc
count_length (k ∷ l) e = cc

pub count_or_none : (l : List ℕ) → unwrap_or (count_of l) 0 ≡ length l
count_or_none [] = refl
count_or_none (k ∷ l) = refl

-- The others are written behind the first place.
rest_put : (x : ℕ) (t mid : List ℕ) → put_mid 1 (length (x ∷ t) - 1) (x ∷ t) mid ≡ x ∷ mid
rest_put x t mid = ap (λ (l : List ℕ). x ∷ (mid ++ l)) (drop_of_length-le t (omega arith)) ∙ ap (λ (l : List ℕ). x ∷ l) (append-nil mid)

put_over : (x : ℕ) (t o : List ℕ) {mid : List ℕ} → mid ≡ over 0 o (take (length (x ∷ t) - 1) (drop 1 (x ∷ t)))
    → put_mid 1 (length (x ∷ t) - 1) (x ∷ t) mid ≡ x ∷ over 0 o t
put_over x t o {mid} f = rest_put x t mid ∙ ap (λ (l : List ℕ). x ∷ l) (f ∙ ap (over 0 o) (behind 1 (x ∷ t)))

one_over : (x v : ℕ) (t o : List ℕ) → v ∷ over 0 o t ≡ over 0 (v ∷ o) (x ∷ t)
one_over x v t o = rw (over_front o t, over_front (v ∷ o) (x ∷ t))

pub one_read : (out : List ℕ) {l : List ℕ} {v : ℕ} → 0 < length out → l ≡ v ∷ [] → Read out l (Some 1) (set out 0 v)
one_read [] h e = absurd (omega arith)
one_read (x ∷ t) {l} {v} h e = rw e (refl, ap (λ (l : List ℕ). v ∷ l) (sym (over_nothing 0 t)) ∙ one_over x v t [])

pub others_none : (out : List ℕ) {l mid : List ℕ} (v : ℕ) (o : List ℕ) → 0 < length out → l ≡ before_others v o
    → Read (take (length out - 1) (drop 1 out)) o None mid → Read out l None (put_mid 1 (length out - 1) out mid)
unfolding before_others
others_none [] v o h e read = absurd (omega arith)
others_none (x ∷ t) v [] h e read =
    rw e (refl, put_over x t [] read.1 ∙ ap (λ (l : List ℕ). x ∷ l) (over_nothing 0 t) ∙ sym (over_nothing 0 (x ∷ t)))
others_none (x ∷ t) v (k ∷ o) h e read = let f = read.0 in cc

pub others_read : (out : List ℕ) {l mid : List ℕ} (v : ℕ) (o : List ℕ) {n : ℕ} → 0 < length out → l ≡ before_others v o
    → Read (take (length out - 1) (drop 1 out)) o (Some n) mid → Read out l (Some (n + 1)) (set (put_mid 1 (length out - 1) out mid) 0 v)
unfolding before_others
others_read [] v o h e read = absurd (omega arith)
others_read (x ∷ t) v [] h e read = let f = read.0 in cc
others_read (x ∷ t) v (k ∷ o) {n} h e read =
    let count : n ≡ length (k ∷ o) = count_length (k ∷ o) read.0 in
    rw (e, count, add-one (length (k ∷ o))) (refl, ap (λ (l : List ℕ). set l 0 v) (put_over x t (k ∷ o) read.1) ∙ one_over x v t (k ∷ o))

-- The numbers of a line by its first word, with a slice that has room for one.
module _ (line out : List ℕ) {end : ℕ} (e : end ≡ length (up_to space line)) (some : 0 < length out) {r : Option ℕ} (w : r ≡ word_of (take end line)) where
  wanted : length out ≡ suc (length out - 1)
  wanted = omega arith

  word_at : r ≡ word_of (up_to space line)
  word_at = w ∙ rw (e, up_to_take space line)

  pub word_none : r ≡ None → numbers_of (length out) (words_of line) ≡ []
  word_none f = rw wanted (numbers_none (length out - 1) line (sym word_at ∙ f))

  pub word_last : {v : ℕ} → r ≡ Some v → length line ≤ end → numbers_of (length out) (words_of line) ≡ v ∷ []
  word_last f last = rw wanted (numbers_last (length out - 1) line (sym word_at ∙ f) (omega (arith, up_to_short space line)))

  pub word_more : {v : ℕ} → r ≡ Some v → end < length line
      → numbers_of (length out) (words_of line)
      ≡ before_others v (numbers_of (length (take (length out - 1) (drop 1 out))) (words_of (take (length line - (end + 1)) (drop (end + 1) line))))
  word_more f more =
      ap (λ (k : ℕ). numbers_of k (words_of line)) wanted
      ∙ rw (behind 1 out, length-drop 1 out, behind (end + 1) line, e, add-one (length (up_to space line)))
      (numbers_more (length out - 1) line (sym word_at ∙ f) (omega arith))
