-- What `recount` prints for a line: by the numbers that are read over an array of four zeros, and by what the engines answer; no text is longer than
-- `recount_room`. Assumes nothing.
use Rattle.std.specs.Prelude.{◌≡◌, ℕ, ◌*◌, ◌^◌, ◌≤◌, ◌<◌, get_or, take, replicate, Result, Ok, Err}
use Rattle.std.proofs.Math.Path.{refl}
use Rattle.std.proofs.Common.{sym, ap, ap₂, ◌∙◌}
use mathlib.Core.List.{List, [], ◌∷◌}
use native.Mathlib.Omega.{arith}
use Rattle.std.proofs.Math.ListN.{length}
use Rattle.std.proofs.lemmas.Bool.{lt-leb}
use Rattle.definitions.specs.Number.{numbers, over}
use Rattle.definitions.specs.Answers.{refusal_number}
use Rattle.definitions.specs.Net.{t_value}
use Rattle.definitions.specs.Calls.{counting, counted, uniformity}
use Rattle.definitions.specs.Listing.{newline, letters, line_of, line_numbers, numbers_within, refused_text, unreadable}
use Rattle.definitions.specs.Recount.{both_text, pair_text, recount_text, recount}
use Rattle.definitions.proofs.Honest.{t_value_at_most}
use Rattle.definitions.specs.declared.Refusal.{Refusal}
use Rattle.number_laws.specs.Bounds.{counted_degree_is}
use Rattle.answer_laws.specs.Unless.{Decides, here, later, decides_none, NoneApplies, Outcome, is_refused, is_given, outcome}
use Rattle.answer_laws.specs.Given.{same_value}
use Rattle.answer_laws.specs.Unless.{unless_refused, unless_given, refused_exactly}
use Rattle.answer_laws.specs.Measured.{given_counted, counted_uniformity}
use Rattle.line.specs.LongLine.{number_bytes, line_cut}
use Rattle.decimal_text.specs.Decimal.{ten_digits}
use Rattle.text.specs.Lines.{long_length}
use Rattle.list_lines.specs.Texts.{refused_short}
use Rattle.engines_line.specs.BothLine.{both_line}

-- ---- by the numbers of the line

-- How many a line has: degree, p, q and dimension.
abbrev asked : ℕ
asked = 4

recount_within : (s : List ℕ) → recount s ≡ recount_text (numbers_within asked s)
unfolding recount numbers_within recount_text
recount_within s = go (line_numbers s) refl
  where
    go : (l : List ℕ) → line_numbers s ≡ l → recount s ≡ recount_text (numbers_within asked s)
    go [] e = rw (e, numbers_within, e)
    go (m ∷ []) e = rw (e, numbers_within, e)
    go (m ∷ p ∷ []) e = rw (e, numbers_within, e)
    go (m ∷ p ∷ q ∷ []) e = rw (e, numbers_within, e)
    go (m ∷ p ∷ q ∷ d ∷ []) e = rw (e, numbers_within, e)
    go (m ∷ p ∷ q ∷ d ∷ n ∷ l) e = rw (e, numbers_within, lt-leb (length (m ∷ p ∷ q ∷ d ∷ n ∷ l)) asked (omega arith))

-- A line that is cut behind four numbers with their spaces is read as it is.
pub recount_cut : (n : ℕ) (s : List ℕ) → asked * number_bytes ≤ n → recount (take n (line_of s)) ≡ recount s
recount_cut n s long = recount_within (take n (line_of s)) ∙ ap recount_text (line_cut asked n s long) ∙ sym (recount_within s)

module _ (s : List ℕ) {n : ℕ} (count : n ≡ length (numbers_within asked s)) where
  pub recount_unread : (n ≡ asked → ⊥) → recount s ≡ refused_text unreadable
  unfolding recount_text
  recount_unread other = recount_within s ∙ go (numbers_within asked s) count
    where
      go : (l : List ℕ) → n ≡ length l → recount_text l ≡ refused_text unreadable
      go [] e = refl
      go (m ∷ []) e = refl
      go (m ∷ p ∷ []) e = refl
      go (m ∷ p ∷ q ∷ []) e = refl
      go (m ∷ p ∷ q ∷ d ∷ []) e = absurd (other e)
      go (m ∷ p ∷ q ∷ d ∷ k ∷ l) e = refl

  pub recount_read : {exit : List ℕ} → exit ≡ over 0 (numbers_within asked s) (replicate asked 0) → n ≡ asked
      → recount s ≡ pair_text (get_or exit 0 0) (get_or exit 1 0) (get_or exit 2 0) (get_or exit 3 0)
  unfolding recount_text over
  recount_read {exit} stored all = recount_within s ∙ go (numbers_within asked s) count stored
    where
      go : (l : List ℕ) → n ≡ length l → exit ≡ over 0 l (replicate asked 0)
          → recount_text l ≡ pair_text (get_or exit 0 0) (get_or exit 1 0) (get_or exit 2 0) (get_or exit 3 0)
      go [] e h = absurd (omega arith)
      go (m ∷ []) e h = absurd (omega arith)
      go (m ∷ p ∷ []) e h = absurd (omega arith)
      go (m ∷ p ∷ q ∷ []) e h = absurd (omega arith)
      go (m ∷ p ∷ q ∷ d ∷ []) e h = rw h
      go (m ∷ p ∷ q ∷ d ∷ k ∷ l) e h = absurd (omega arith)

-- ---- by the answers

abbrev said : Refusal → List ℕ
said r = refused_text (refusal_number r)

never : {r : Refusal} {n : ℕ} → ◌≡◌ {A = Result ℕ Refusal} (Err r) (Ok n) → ⊥
never e = let z : ◌≡◌ {A = ℕ} 0 1 = cc in omega arith

module _ (m p q s : ℕ) where
  abbrev t : ℕ
  t = t_value m p q s

  -- The counter's refusals are 1, 2 and 3.
  refusal_number_lem : {r : Refusal} → Decides r (counting m p q s) → (0 < refusal_number r) × (refusal_number r < 2 ^ 32)
  unfolding counting
  refusal_number_lem (here a) = (omega arith, omega arith)
  refusal_number_lem (later a (here b)) = (omega arith, omega arith)
  refusal_number_lem (later a (later b (here c))) = (omega arith, omega arith)
  refusal_number_lem (later a (later b (later c d))) = absurd (decides_none d)

  -- Where no situation applies both engines give the t-value.
  refused_count : {r : Refusal} → Decides r (counting m p q s) → counted m p q s ≡ Err r
  unfolding counted
  refused_count d = unless_refused Err (Ok t) d

  given_count : NoneApplies (counting m p q s) → counted m p q s ≡ Ok t
  unfolding counted
  given_count n = unless_given Err (Ok t) n

  given_quick : NoneApplies (counting m p q s) → uniformity m p q s ≡ Ok t
  given_quick n = sym (counted_uniformity m p q s (given_counted m p q s n)) ∙ given_count n

  pub pair_refused : {r : Refusal} → counted m p q s ≡ Err r → pair_text m p q s ≡ refused_text (refusal_number r)
  unfolding pair_text counted
  pair_refused {r} e = unless_refused said (both_text t t) ((refused_exactly Err (Ok t) (counting m p q s) r (λ k. never (sym k)) (λ k i. cc)).0 e)

  -- What the counter gives the quick engine gives too.
  pub quick_given : {count : ℕ} → counted m p q s ≡ Ok count → uniformity m p q s ≡ Ok count
  quick_given {count} e = go (outcome (counting m p q s))
    where
      go : Outcome (counting m p q s) → uniformity m p q s ≡ Ok count
      go (is_refused d) = absurd (never (sym (refused_count d) ∙ e))
      go (is_given n) = given_quick n ∙ sym (given_count n) ∙ e

  pub pair_both : {count quick : ℕ} → counted m p q s ≡ Ok count → uniformity m p q s ≡ Ok quick → pair_text m p q s ≡ both_text quick count
  unfolding pair_text
  pair_both {count} {quick} counts quicks = go (outcome (counting m p q s))
    where
      go : Outcome (counting m p q s) → pair_text m p q s ≡ both_text quick count
      go (is_refused d) = absurd (never (sym (refused_count d) ∙ counts))
      go (is_given n) =
          unless_given said (both_text t t) n ∙ ap₂ both_text (same_value (sym (given_quick n) ∙ quicks)) (same_value (sym (given_count n) ∙ counts))

-- ---- the room

-- The most bytes of the text: two words, two numbers of at most ten digits and a newline.
abbrev pub recount_room : ℕ
recount_room = 34

both_room : (quick count : ℕ) → quick < 2 ^ 32 → count < 2 ^ 32 → length (both_text quick count) ≤ recount_room
unfolding numbers
both_room quick count lq lc =
    rw (both_line quick count)
    (omega (arith, long_length (letters "quick ") quick (letters " count ") count (newline ∷ []), ten_digits quick lq, ten_digits count lc))

pair_room : (m p q s : ℕ) → length (pair_text m p q s) ≤ recount_room
unfolding pair_text
pair_room m p q s = go (outcome (counting m p q s))
  where
    go : Outcome (counting m p q s) → length (pair_text m p q s) ≤ recount_room
    go (is_refused {r = r} d) = rw (unless_refused said (both_text (t_value m p q s) (t_value m p q s)) d) (omega (arith, refused_short (refusal_number r) (refusal_number_lem m p q s d).1))
    go (is_given n) =
        let degree = (counted_degree_is m).0 (given_counted m p q s n) in
        let small : t_value m p q s < 2 ^ 32 = omega (arith, t_value_at_most m p q s, degree.high) in
        rw (unless_given said (both_text (t_value m p q s) (t_value m p q s)) n) (both_room (t_value m p q s) (t_value m p q s) small small)

-- EVERY TEXT FITS.
pub recount_room_lem : (s : List ℕ) → length (recount s) ≤ recount_room
unfolding recount recount_text
recount_room_lem s = go (line_numbers s)
  where
    unread : length (refused_text unreadable) ≤ recount_room
    unread = omega (arith, refused_short unreadable (omega arith))

    go : (l : List ℕ) → length (recount_text l) ≤ recount_room
    go [] = unread
    go (m ∷ []) = unread
    go (m ∷ p ∷ []) = unread
    go (m ∷ p ∷ q ∷ []) = unread
    go (m ∷ p ∷ q ∷ d ∷ []) = pair_room m p q d
    go (m ∷ p ∷ q ∷ d ∷ n ∷ l) = unread
