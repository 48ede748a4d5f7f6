-- A line that is longer than k numbers with their spaces has no k numbers, so it may be cut there before it is read.
-- A line is as long as its words and the spaces between them, and a word that is a number has at most nine bytes.
-- Assumes nothing.
use Rattle.std.specs.Prelude.{◌≡◌, refl, Bool, true, false, ◌&&◌, List, [], ◌∷◌, ℕ, zero, suc, ◌+◌, ◌*◌, ◌≤◌, eqb, leb, length, take}
use Rattle.std.proofs.Common.{sym, ap, ◌∙◌, arith, length-take, take_all, leb-true, leb-false}
use Rattle.std.proofs.Math.Bool.{and-eq-true_iff}
use Rattle.definitions.specs.Number.{all}
use Rattle.definitions.specs.Listing.{space, newline, most_digits, line_of, words_of, is_digit, is_number, numbers_within}
use Rattle.line.specs.Part.{up_to}
use Rattle.line.specs.Word.{other_words, words_first}
use Rattle.line.specs.Numbers.{numbers_of, numbers_not, numbers_over, numbers_within_lem}

-- The words and a byte behind each.
word_bytes : List (List ℕ) → ℕ
word_bytes [] = 0
word_bytes (w ∷ ws) = suc (length w) + word_bytes ws

words_length : (l : List ℕ) → word_bytes (words_of l) ≡ suc (length l)
unfolding word_bytes words_of
words_length [] = refl
words_length (b ∷ s) = go (eqb b space) refl (words_length s)
  where
    go : (t : Bool) → eqb b space ≡ t → word_bytes (words_of s) ≡ suc (length s) → word_bytes (words_of (b ∷ s)) ≡ suc (suc (length s))
    go true e ih = rw (e, words_of) (omega arith)
    go false e ih =
        let first : suc (length (up_to space s)) + word_bytes (other_words s) ≡ suc (length s) = rw (words_first s) at ih in
        rw (e, words_of, words_first s) (omega arith)

number_short : (w : List ℕ) → is_number w ≡ true → length w ≤ most_digits
unfolding is_number
number_short w e =
    let rest = ((and-eq-true_iff (leb 1 (length w)) (leb (length w) most_digits && all is_digit w)).0 e).1 in
    leb-true (length w) most_digits ((and-eq-true_iff (leb (length w) most_digits) (all is_digit w)).0 rest).0

-- The most bytes of a number and the space behind it.
abbrev pub number_bytes : ℕ
number_bytes = suc most_digits

numbers_short : (ws : List (List ℕ)) → all is_number ws ≡ true → word_bytes ws ≤ length ws * number_bytes
unfolding all word_bytes
numbers_short [] e = omega arith
numbers_short (w ∷ ws) e =
    let both = (and-eq-true_iff (is_number w) (all is_number ws)).0 e in
    omega (arith, number_short w both.0, numbers_short ws both.1)

long_none : (k : ℕ) (l : List ℕ) → k * number_bytes ≤ length l → numbers_of k (words_of l) ≡ []
long_none k l h = go (all is_number (words_of l)) refl
  where
    go : (t : Bool) → all is_number (words_of l) ≡ t → numbers_of k (words_of l) ≡ []
    go true e = numbers_over k (words_of l) e (omega (arith, numbers_short (words_of l) e, words_length l))
    go false e = numbers_not k (words_of l) e

-- The beginning of a line has no newline.
line_more : (b : ℕ) (s : List ℕ) → eqb b newline ≡ false → line_of (b ∷ s) ≡ b ∷ line_of s
unfolding line_of
line_more b s e = rw (e, line_of)

line_take : (n : ℕ) (s : List ℕ) → line_of (take n (line_of s)) ≡ take n (line_of s)
unfolding line_of
line_take zero s = refl
line_take (suc n) [] = refl
line_take (suc n) (b ∷ s) = go (eqb b newline) refl (line_take n s)
  where
    go : (t : Bool) → eqb b newline ≡ t → line_of (take n (line_of s)) ≡ take n (line_of s)
        → line_of (take (suc n) (line_of (b ∷ s))) ≡ take (suc n) (line_of (b ∷ s))
    go true e ih = rw (e, line_of)
    go false e ih =
        ap (λ (l : List ℕ). line_of (take (suc n) l)) (line_more b s e)
        ∙ line_more b (take n (line_of s)) e
        ∙ ap (λ (l : List ℕ). b ∷ l) ih
        ∙ sym (ap (λ (l : List ℕ). take (suc n) l) (line_more b s e))

-- A line that is cut there or later is read as it is.
pub line_cut : (k n : ℕ) (s : List ℕ) → k * number_bytes ≤ n → numbers_within k (take n (line_of s)) ≡ numbers_within k s
line_cut k n s h = rw (← numbers_within_lem k (take n (line_of s)), ← numbers_within_lem k s, line_take n s) (go (leb (length (line_of s)) n) refl)
  where
    go : (t : Bool) → leb (length (line_of s)) n ≡ t → numbers_of k (words_of (take n (line_of s))) ≡ numbers_of k (words_of (line_of s))
    go true e = ap (λ (l : List ℕ). numbers_of k (words_of l)) (take_all n (line_of s) (leb-true (length (line_of s)) n e))
    go false e =
        let long = leb-false (length (line_of s)) n e in
        long_none k (take n (line_of s)) (rw (length-take n (line_of s)) (omega arith)) ∙ sym (long_none k (line_of s) (omega arith))
