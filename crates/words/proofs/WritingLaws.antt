-- Words written over the front of a slice, one behind the other. Assumes nothing.
use mathlib.Core.Path.{◌≡◌, refl, sym, ap, ◌∙◌}
use mathlib.Core.List.{List, [], ◌∷◌, ◌++◌, append-nil}
use Prim.Native.Nat.{ℕ, suc, ◌+◌, ◌≤◌, ◌<◌}
use native.Mathlib.Nat.{add-zero, zero-add}
use native.Mathlib.Numerals.{add-one}
use native.Mathlib.Omega.{arith}
use lib.ListN.{length, set, drop_of_length-le, take, drop}
use lib.Seq.{length-take-le}
use Rattle.definitions.specs.Number.{over}
use Rattle.definitions.specs.Polynomial.{prod, rem}
use Rattle.definitions.specs.Points.{leading, state, word_digits, word, words}
use Rattle.slice_laws.specs.Over.{over_front, over_nothing, over_behind}
use Rattle.order_laws.specs.State.{state_suc}
use Rattle.order_laws.specs.Words.{length_words, words_append}

word_def : (p q i : ℕ) → word p q i ≡ leading p word_digits (state p q i)
unfolding word
word_def p q i = refl

words_none : (p q i : ℕ) → words p q i 0 ≡ []
unfolding words
words_none p q i = refl

-- One more word, behind the others.
words_more : (p q i n : ℕ) → words p q i (suc n) ≡ words p q i n ++ word p q (i + n) ∷ []
unfolding words
words_more p q i n = ap (words p q i) (sym (add-one n)) ∙ words_append p q i n 1

written_more : (p q first i : ℕ) (s : List ℕ) → i < length s
    → set (over 0 (words p q first i) s) i (word p q (first + i)) ≡ over 0 (words p q first (i + 1)) s
written_more p q first i s h =
    let e : 0 + length (words p q first i) ≡ i = zero-add _ ∙ length_words p q first i in
    rw (add-one, words_more) (rw e at (over_behind 0 (words p q first i) (word p q (first + i)) s (rw e h)))

-- Words written over the front of a slice: what stands behind them stays.
pub front_written : (p q first count : ℕ) (s : List ℕ) → count ≤ length s
    → words p q first (length (take count s)) ++ drop count s ≡ over 0 (words p q first count) s
front_written p q first count s h =
    rw (length-take-le count s h, over_front (words p q first count) s, length_words p q first count)

-- Where the writer is: i words are written, behind them all is as it was, and y is the next state.
pub record Writing (p q first : ℕ) (s out : List ℕ) (y i : ℕ) : Type 0 where
  pub at : y ≡ state p q (first + i)
  pub written : out ≡ over 0 (words p q first i) s

module _ {p q first : ℕ} {s : List ℕ} where
  pub writing_start : {y : ℕ} → y ≡ state p q first → Writing p q first s s y 0
  writing_start e = record { at = rw add-zero e; written = sym (rw words_none (over_nothing 0 s)) }

  module _ {out : List ℕ} {y i : ℕ} (h : Writing p q first s out y i) where
    pub writing_more : {w next : ℕ} → i < length s → w ≡ leading p word_digits y → next ≡ rem (prod q y) p
        → Writing p q first s (set out i w) next (i + 1)
    writing_more {w} room e n = record {
      at = n ∙ ap (λ (x : ℕ). rem (prod q x) p) h.at ∙ sym (state_suc p q (first + i)) ∙ ap (state p q) (omega arith);
      written =
          ap (set out i) (e ∙ ap (leading p word_digits) h.at ∙ sym (word_def p q (first + i)))
          ∙ rw h.written (written_more p q first i s room);
    }

    pub writing_done : i ≡ length s → out ≡ words p q first (length s)
    writing_done all =
        let whole : over 0 (words p q first (length s)) s ≡ words p q first (length s) =
        over_front _ s ∙ rw (length_words p q first (length s), drop_of_length-le s {i = length s} (omega arith), append-nil) in
        (rw all at h.written) ∙ whole
