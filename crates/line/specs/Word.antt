-- The words of a line one after the other, and the digits of a word one after the other: a line begins with the part up to its first space,
-- and a word is settled by its next byte.
-- Assumes nothing.
use Rattle.std.specs.Prelude.{◌≡◌, refl, Option, Some, None, Bool, true, false, List, [], ◌∷◌, ℕ, suc, ◌+◌, ◌-◌, ◌*◌, ◌^◌, ◌≤◌, ◌<◌, eqb, length, drop, get_or}
use Rattle.std.proofs.Math.Path.{sym}
use Rattle.std.proofs.Common.{drop-cons, pow-suc, lt_of_lt_of_le, add-one, arith}
use Rattle.std.proofs.Math.Nat.{pow-le-pow_right}
use Rattle.std.proofs.Math.Seq.{slice, slice-cons}
use borrow.Author.Tests.{le-leb, lt-leb}
use Rattle.definitions.specs.Number.{all}
use Rattle.definitions.specs.Listing.{space, words_of, digit_zero, digit_nine, most_digits, is_digit, is_number, decimal_from}
use Rattle.line.specs.Part.{up_to}

-- The words behind the first one.
unfoldable pub other_words : List ℕ → List (List ℕ)
other_words [] = []
other_words (b ∷ s) = elim (eqb b space) [ true ↦ words_of s | false ↦ other_words s ]

pub words_first : (l : List ℕ) → words_of l ≡ up_to space l ∷ other_words l
unfolding words_of up_to other_words
words_first [] = refl
words_first (b ∷ s) = go (eqb b space) refl (words_first s)
  where
    go : (t : Bool) → eqb b space ≡ t → words_of s ≡ up_to space s ∷ other_words s → words_of (b ∷ s) ≡ up_to space (b ∷ s) ∷ other_words (b ∷ s)
    go true e ih = rw (e, words_of, up_to, other_words)
    go false e ih = rw (e, words_of, up_to, other_words, ih)

pub words_last : (l : List ℕ) → length (up_to space l) ≡ length l → other_words l ≡ []
unfolding up_to other_words
words_last [] h = refl
words_last (b ∷ s) h = go (eqb b space) refl h (words_last s)
  where
    go : (t : Bool) → eqb b space ≡ t → length (up_to space (b ∷ s)) ≡ length (b ∷ s)
        → (length (up_to space s) ≡ length s → other_words s ≡ []) → other_words (b ∷ s) ≡ []
    go true e h ih = absurd (let k : 0 ≡ suc (length s) = rw (e, up_to) at h in omega arith)
    go false e h ih = rw (e, other_words) (ih (let k : suc (length (up_to space s)) ≡ suc (length s) = rw (e, up_to) at h in omega arith))

pub words_more : (l : List ℕ) → length (up_to space l) < length l → other_words l ≡ words_of (drop (suc (length (up_to space l))) l)
unfolding up_to other_words
words_more [] h = absurd (omega arith)
words_more (b ∷ s) h = go (eqb b space) refl h (words_more s)
  where
    go : (t : Bool) → eqb b space ≡ t → length (up_to space (b ∷ s)) < length (b ∷ s)
        → (length (up_to space s) < length s → other_words s ≡ words_of (drop (suc (length (up_to space s))) s))
        → other_words (b ∷ s) ≡ words_of (drop (length (up_to space (b ∷ s))) s)
    go true e h ih = rw (e, other_words, up_to)
    go false e h ih = rw (e, other_words, up_to) (ih (let k : suc (length (up_to space s)) < suc (length s) = rw (e, up_to) at h in omega arith))

-- The number that a word is, if it is one.
unfoldable pub word_of : List ℕ → Option ℕ
word_of w = elim (is_number w) [ true ↦ Some (decimal_from 0 w) | false ↦ None ]

pub word_number : (w : List ℕ) (v : ℕ) → word_of w ≡ Some v → (is_number w ≡ true) × (decimal_from 0 w ≡ v)
unfolding word_of
word_number w v e = go (is_number w) refl
  where
    go : (t : Bool) → is_number w ≡ t → (is_number w ≡ true) × (decimal_from 0 w ≡ v)
    go true k = let u : Some (decimal_from 0 w) ≡ Some v = rw (k, word_of) at e in (k, cc)
    go false k = let u : None ≡ Some v = rw (k, word_of) at e in cc

pub word_none : (w : List ℕ) → word_of w ≡ None → is_number w ≡ false
unfolding word_of
word_none w e = go (is_number w) refl
  where
    go : (t : Bool) → is_number w ≡ t → is_number w ≡ false
    go true k = let u : Some (decimal_from 0 w) ≡ None = rw (k, word_of) at e in cc
    go false k = k

-- The number that the digits w make behind those of n, if they are digits.
unfoldable pub digits_from : ℕ → List ℕ → Option ℕ
digits_from n w = elim (all is_digit w) [ true ↦ Some (decimal_from n w) | false ↦ None ]

pub digits_all : (n : ℕ) → digits_from n [] ≡ Some n
unfolding digits_from all decimal_from
digits_all n = refl

module _ (w : List ℕ) where
  pub word_empty : length w ≡ 0 → None ≡ word_of w
  unfolding word_of is_number
  word_empty e = sym (rw (word_of, is_number, e))

  pub word_long : most_digits < length w → None ≡ word_of w
  unfolding word_of is_number
  word_long h = sym (rw (word_of, is_number, le-leb 1 (length w) (omega arith), lt-leb (length w) most_digits h))

  pub word_digits_lem : 1 ≤ length w → length w ≤ most_digits → digits_from 0 w ≡ word_of w
  unfolding digits_from word_of is_number
  word_digits_lem h k = sym (rw (word_of, is_number, le-leb 1 (length w) h, le-leb (length w) most_digits k))

-- The same of the byte at a place of a word.
module _ (w : List ℕ) (i n : ℕ) (h : i < length w) where
  pub digit_other : is_digit (get_or w i 0) ≡ false → digits_from n (drop i w) ≡ None
  unfolding digits_from all
  digit_other e = rw (drop-cons w i 0 h, digits_from, e)

  pub digit_more : is_digit (get_or w i 0) ≡ true
      → digits_from (n * 10 + (get_or w i 0 - digit_zero)) (drop (i + 1) w) ≡ digits_from n (drop i w)
  unfolding digits_from all decimal_from
  digit_more e = rw (add-one i, drop-cons w i 0 h) (sym (rw (digits_from, e)))

module _ (n b : ℕ) (w : List ℕ) where
  digits_low : b < digit_zero → digits_from n (b ∷ w) ≡ None
  unfolding digits_from all
  digits_low h = rw (digits_from, lt-leb digit_zero b h)

  digits_high : digit_zero ≤ b → digit_nine < b → digits_from n (b ∷ w) ≡ None
  unfolding digits_from all
  digits_high k h = rw (digits_from, le-leb digit_zero b k, lt-leb b digit_nine h)

  digits_more : digit_zero ≤ b → b ≤ digit_nine → digits_from (n * 10 + (b - digit_zero)) w ≡ digits_from n (b ∷ w)
  unfolding digits_from all decimal_from
  digits_more k h = sym (rw (digits_from, le-leb digit_zero b k, le-leb b digit_nine h))

-- The same of the byte at a place of a part.
module _ (s : List ℕ) (to i n : ℕ) (h : i < to) (k : to ≤ length s) where
  pub part_low : get_or s i 0 < digit_zero → digits_from n (slice i to s) ≡ None
  part_low b = rw (slice-cons i to s 0 h k) (digits_low n (get_or s i 0) (slice (suc i) to s) b)

  pub part_high : digit_zero ≤ get_or s i 0 → digit_nine < get_or s i 0 → digits_from n (slice i to s) ≡ None
  part_high b d = rw (slice-cons i to s 0 h k) (digits_high n (get_or s i 0) (slice (suc i) to s) b d)

  pub part_more : digit_zero ≤ get_or s i 0 → get_or s i 0 ≤ digit_nine
      → digits_from (n * 10 + (get_or s i 0 - digit_zero)) (slice (i + 1) to s) ≡ digits_from n (slice i to s)
  part_more b d = rw (slice-cons i to s 0 h k, add-one i) (digits_more n (get_or s i 0) (slice (suc i) to s) b d)

-- A number of k digits stays below 10^k, and one that a digit can still follow below 10^8.
pub one_digit_more : (n b k : ℕ) → n < 10 ^ k → b ≤ 9 → n * 10 + b < 10 ^ suc k
one_digit_more n b k h d = rw (pow-suc 10 k) (omega arith)

pub fewer_digits : (n k : ℕ) → n < 10 ^ k → k < most_digits → n < 100000000
fewer_digits n k h d = lt_of_lt_of_le h (pow-le-pow_right {n = 10} (omega arith) (let few : k ≤ 8 = omega arith in few))
