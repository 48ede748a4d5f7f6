-- The numbers of a line word by word: none where a word is no number, or where there are more words than numbers are wanted.
-- By the words: these are the numbers of the line, where it has at most so many.
-- Assumes nothing.
use Rattle.std.specs.Prelude.{◌≡◌, refl, Option, Some, None, Bool, true, false, List, [], ◌∷◌, map, ℕ, zero, suc, ◌+◌, ◌≤◌, ◌<◌, leb, length}
use Rattle.std.proofs.Common.{sym, ap, ◌∙◌, arith, length-drop, drop-drop, le-leb, leb-true, leb-false}
use Rattle.std.proofs.Math.ListN.{drop}
use Rattle.std.proofs.lemmas.List.{length-map}
use Rattle.std.proofs.Math.Seq.{slice}
use Rattle.std.proofs.lemmas.Bool.{lt-leb}
use Rattle.definitions.specs.Number.{all}
use Rattle.definitions.specs.Listing.{space, line_of, words_of, is_number, decimal_from, line_numbers, numbers_within}
use Rattle.line.specs.Part.{up_to, up_to_short, part_up_to}
use Rattle.line.specs.Word.{other_words, words_first, words_last, words_more, word_of, word_number, word_none}

-- A number before the others of its line; none where there are no others.
unfoldable pub before_others : ℕ → List ℕ → List ℕ
before_others n [] = []
before_others n (k ∷ l) = n ∷ k ∷ l

-- The numbers that some words are, at most k.
unfoldable pub numbers_of : ℕ → List (List ℕ) → List ℕ
numbers_of zero ws = []
numbers_of (suc k) [] = []
numbers_of (suc k) (w ∷ []) = elim (is_number w) [ true ↦ decimal_from 0 w ∷ [] | false ↦ [] ]
numbers_of (suc k) (w ∷ x ∷ ws) = elim (is_number w) [ true ↦ before_others (decimal_from 0 w) (numbers_of k (x ∷ ws)) | false ↦ [] ]

-- Those of a line from a place on.
abbrev pub numbers_from : List ℕ → ℕ → ℕ → List ℕ
numbers_from line from k = numbers_of k (words_of (drop from line))

-- How many numbers a line has, where it can be read.
abbrev pub count_of : List ℕ → Option ℕ
count_of [] = None
count_of (n ∷ l) = Some (suc (length l))

-- As the definitions say it: all of them, where they are at most k.
read_all : List (List ℕ) → List ℕ
read_all ws = elim (all is_number ws) [ true ↦ map (decimal_from 0) ws | false ↦ [] ]

at_most : ℕ → List ℕ → List ℕ
at_most k l = elim (leb (length l) k) [ true ↦ l | false ↦ [] ]

at_most_fits : (k : ℕ) (l : List ℕ) → length l ≤ k → at_most k l ≡ l
unfolding at_most
at_most_fits k l h = rw (le-leb (length l) k h, at_most)

at_most_over : (k : ℕ) (l : List ℕ) → k < length l → at_most k l ≡ []
unfolding at_most
at_most_over k l h = rw (lt-leb (length l) k h, at_most)

at_most_none : (l : List ℕ) → at_most 0 l ≡ []
at_most_none [] = at_most_fits 0 [] (omega arith)
at_most_none (n ∷ l) = at_most_over 0 (n ∷ l) (omega arith)

-- One number more in front of some.
before_at_most : (n k v : ℕ) (l : List ℕ) → before_others n (at_most k (v ∷ l)) ≡ at_most (suc k) (n ∷ v ∷ l)
unfolding before_others
before_at_most n k v l = go (leb (length (v ∷ l)) k) refl
  where
    go : (t : Bool) → leb (length (v ∷ l)) k ≡ t → before_others n (at_most k (v ∷ l)) ≡ at_most (suc k) (n ∷ v ∷ l)
    go true e = let h = leb-true (length (v ∷ l)) k e in rw (at_most_fits k (v ∷ l) h, at_most_fits (suc k) (n ∷ v ∷ l) (omega arith))
    go false e = let h = leb-false (length (v ∷ l)) k e in rw (at_most_over k (v ∷ l) h, at_most_over (suc k) (n ∷ v ∷ l) (omega arith))

read_every : (ws : List (List ℕ)) → all is_number ws ≡ true → read_all ws ≡ map (decimal_from 0) ws
unfolding read_all
read_every ws e = rw (e, read_all)

read_none : (ws : List (List ℕ)) → all is_number ws ≡ false → read_all ws ≡ []
unfolding read_all
read_none ws e = rw (e, read_all)

numbers_at_most : (k : ℕ) (ws : List (List ℕ)) → numbers_of k ws ≡ at_most k (read_all ws)
unfolding numbers_of read_all all before_others
numbers_at_most zero ws = sym (at_most_none (read_all ws))
numbers_at_most (suc k) [] = sym (at_most_fits (suc k) [] (omega arith))
numbers_at_most (suc k) (w ∷ []) = go (is_number w) refl
  where
    go : (t : Bool) → is_number w ≡ t → numbers_of (suc k) (w ∷ []) ≡ at_most (suc k) (read_all (w ∷ []))
    go true e = rw (e, numbers_of, read_all) (sym (at_most_fits (suc k) (decimal_from 0 w ∷ []) (omega arith)))
    go false e = rw (e, numbers_of, read_all) (sym (at_most_fits (suc k) [] (omega arith)))
numbers_at_most (suc k) (w ∷ x ∷ ws) = go (is_number w) refl (all is_number (x ∷ ws)) refl (numbers_at_most k (x ∷ ws))
  where
    go : (t : Bool) → is_number w ≡ t → (u : Bool) → all is_number (x ∷ ws) ≡ u → numbers_of k (x ∷ ws) ≡ at_most k (read_all (x ∷ ws))
        → numbers_of (suc k) (w ∷ x ∷ ws) ≡ at_most (suc k) (read_all (w ∷ x ∷ ws))
    go true e true f ih =
        let others : numbers_of k (x ∷ ws) ≡ at_most k (map (decimal_from 0) (x ∷ ws)) = ih ∙ ap (at_most k) (read_every (x ∷ ws) f) in
        rw (e, f, numbers_of, others, read_all) (before_at_most (decimal_from 0 w) k (decimal_from 0 x) (map (decimal_from 0) ws))
    go true e false f ih =
        let others : numbers_of k (x ∷ ws) ≡ [] = ih ∙ rw (read_none (x ∷ ws) f) (at_most_fits k [] (omega arith)) in
        rw (e, f, numbers_of, others, read_all) (sym (at_most_fits (suc k) [] (omega arith)))
    go false e u f ih = rw (e, numbers_of, read_all) (sym (at_most_fits (suc k) [] (omega arith)))

-- A word that is no number, and too many words.
pub numbers_not : (k : ℕ) (ws : List (List ℕ)) → all is_number ws ≡ false → numbers_of k ws ≡ []
numbers_not k ws e = numbers_at_most k ws ∙ rw (read_none ws e) (at_most_fits k [] (omega arith))

pub numbers_over : (k : ℕ) (ws : List (List ℕ)) → all is_number ws ≡ true → k < length ws → numbers_of k ws ≡ []
numbers_over k ws e h =
    numbers_at_most k ws ∙ rw (read_every ws e) (at_most_over k (map (decimal_from 0) ws) (omega (arith, length-map ws (decimal_from 0))))

pub numbers_few : (k : ℕ) (ws : List (List ℕ)) → length (numbers_of k ws) ≤ k
numbers_few k ws = rw (numbers_at_most k ws) (go (leb (length (read_all ws)) k) refl)
  where
    go : (t : Bool) → leb (length (read_all ws)) k ≡ t → length (at_most k (read_all ws)) ≤ k
    go true e = let h = leb-true (length (read_all ws)) k e in rw (at_most_fits k (read_all ws) h) h
    go false e = rw (at_most_over k (read_all ws) (leb-false (length (read_all ws)) k e)) (omega arith)

pub numbers_within_lem : (k : ℕ) (s : List ℕ) → numbers_of k (words_of (line_of s)) ≡ numbers_within k s
unfolding numbers_within line_numbers at_most read_all
numbers_within_lem k s = numbers_at_most k (words_of (line_of s))

-- No number is wanted.
pub numbers_zero : {k : ℕ} (ws : List (List ℕ)) → k ≡ 0 → numbers_of k ws ≡ []
unfolding numbers_of
numbers_zero ws e = rw e

-- The first word is no number.
head_none : (k : ℕ) (w : List ℕ) (ws : List (List ℕ)) → is_number w ≡ false → numbers_of (suc k) (w ∷ ws) ≡ []
unfolding numbers_of
head_none k w [] e = rw (e, numbers_of)
head_none k w (x ∷ ws) e = rw (e, numbers_of)

-- The numbers of what is left of a line, by its first word.
module _ (k : ℕ) (l : List ℕ) where
  pub numbers_none : word_of (up_to space l) ≡ None → numbers_of (suc k) (words_of l) ≡ []
  numbers_none e = rw (words_first l) (head_none k (up_to space l) (other_words l) (word_none (up_to space l) e))

  module _ {v : ℕ} (e : word_of (up_to space l) ≡ Some v) where
    pub numbers_last : length (up_to space l) ≡ length l → numbers_of (suc k) (words_of l) ≡ v ∷ []
    unfolding numbers_of
    numbers_last h =
        let number = word_number (up_to space l) v e in
        rw (words_first l, words_last l h, number.0, numbers_of, number.1)

    pub numbers_more : length (up_to space l) < length l
        → numbers_of (suc k) (words_of l) ≡ before_others v (numbers_of k (words_of (drop (suc (length (up_to space l))) l)))
    unfolding numbers_of
    numbers_more h =
        let number = word_number (up_to space l) v e in
        let others = drop (suc (length (up_to space l))) l in
        rw (words_first l, words_more l h, words_first others, number.0, numbers_of, number.1)

-- The same by the word at a place of the line.
module _ (line : List ℕ) (from : ℕ) (h : from ≤ length line) {end : ℕ} (e : end ≡ from + length (up_to space (drop from line))) where
  pub word_within : (from ≤ end) × (end ≤ length line)
  word_within = (omega arith, omega (arith, up_to_short space (drop from line), length-drop from line))

  -- With k + 1 numbers wanted.
  module _ (k : ℕ) {wanted : ℕ} (some : wanted ≡ suc k) {w : Option ℕ} (r : w ≡ word_of (slice from end line)) where
    word_at : w ≡ word_of (up_to space (drop from line))
    word_at = r ∙ rw e (ap word_of (part_up_to space line from h))

    pub place_none : w ≡ None → numbers_from line from wanted ≡ []
    place_none f = rw some (numbers_none k (drop from line) (sym word_at ∙ f))

    pub place_last : {v : ℕ} → w ≡ Some v → length line ≤ end → numbers_from line from wanted ≡ v ∷ []
    place_last f last =
        let inside = word_within in
        rw some (numbers_last k (drop from line) (sym word_at ∙ f) (rw (length-drop from line) (omega arith)))

    pub place_more : {v : ℕ} → w ≡ Some v → end < length line
        → numbers_from line from wanted ≡ before_others v (numbers_from line (end + 1) k)
    place_more {v} f more =
        let word = length (up_to space (drop from line)) in
        let place : from + suc word ≡ end + 1 = omega arith in
        let rest : drop (suc word) (drop from line) ≡ drop (end + 1) line = drop-drop (suc word) from line ∙ ap (λ (n : ℕ). drop n line) place in
        rw some (numbers_more k (drop from line) (sym word_at ∙ f) (rw (length-drop from line) (omega arith)))
        ∙ ap (λ (s : List ℕ). before_others v (numbers_of k (words_of s))) rest
