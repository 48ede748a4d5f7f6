-- The part of a text up to the first such byte, byte by byte; a line is the part up to the first newline, a word the part up to the first space.
-- Assumes nothing.
use Rattle.std.specs.Prelude.{◌≡◌, refl, Bool, true, false, List, [], ◌∷◌, ℕ, suc, ◌+◌, ◌≤◌, ◌<◌, eqb, length, take, drop, get_or}
use Rattle.std.proofs.Common.{sym, ap, ◌∙◌, arith, ltb, ltb-false, drop_of_length-le, drop-cons, drop_at, take-add, length-take-le}
use Rattle.std.proofs.Math.Numerals.{add-one}
use Rattle.std.proofs.Math.Seq.{slice}
use borrow.Author.Tests.{eq-eqb, ne_eqb}
use Rattle.std.specs.List.{position, position_or_len}
use Rattle.std.specs.Option.{unwrap_or}
use Rattle.definitions.specs.Listing.{newline, line_of}

-- What stands before the first such byte.
unfoldable pub up_to : ℕ → List ℕ → List ℕ
up_to b [] = []
up_to b (x ∷ s) = elim (eqb x b) [ true ↦ [] | false ↦ x ∷ up_to b s ]

pub line_up_to : (s : List ℕ) → line_of s ≡ up_to newline s
unfolding line_of up_to
line_up_to [] = refl
line_up_to (b ∷ s) = go (eqb b newline) refl (line_up_to s)
  where
    go : (t : Bool) → eqb b newline ≡ t → line_of s ≡ up_to newline s → line_of (b ∷ s) ≡ up_to newline (b ∷ s)
    go true e ih = rw (e, line_of, up_to)
    go false e ih = rw (e, line_of, up_to, ih)

-- Its length is the place of that byte, or the length of the whole.
pub up_to_length : (b : ℕ) (s : List ℕ) → length (up_to b s) ≡ position_or_len (λ x. eqb x b) s
unfolding up_to
up_to_length b [] = refl
up_to_length b (x ∷ s) = go (eqb x b) refl (up_to_length b s)
  where
    go : (t : Bool) → eqb x b ≡ t → length (up_to b s) ≡ position_or_len (λ x. eqb x b) s → length (up_to b (x ∷ s)) ≡ position_or_len (λ x. eqb x b) (x ∷ s)
    go true e ih = rw (e, up_to)
    go false e ih = rw (e, up_to) (omega arith)

pub up_to_take : (b : ℕ) (s : List ℕ) → take (length (up_to b s)) s ≡ up_to b s
unfolding up_to
up_to_take b [] = refl
up_to_take b (x ∷ s) = go (eqb x b) refl (up_to_take b s)
  where
    go : (t : Bool) → eqb x b ≡ t → take (length (up_to b s)) s ≡ up_to b s → take (length (up_to b (x ∷ s))) (x ∷ s) ≡ up_to b (x ∷ s)
    go true e ih = rw (e, up_to)
    go false e ih = rw (e, up_to) (ap (λ (l : List ℕ). x ∷ l) ih)

pub up_to_short : (b : ℕ) (s : List ℕ) → length (up_to b s) ≤ length s
unfolding up_to
up_to_short b [] = omega arith
up_to_short b (x ∷ s) = go (eqb x b) refl (up_to_short b s)
  where
    go : (t : Bool) → eqb x b ≡ t → length (up_to b s) ≤ length s → length (up_to b (x ∷ s)) ≤ suc (length s)
    go true e ih = rw (e, up_to) (omega arith)
    go false e ih = rw (e, up_to) (omega arith)

pub up_to_place : (b : ℕ) (s : List ℕ) → unwrap_or (position (λ x. eqb x b) s) (length s) ≡ length (up_to b s)
up_to_place b s = go (ltb (position_or_len (λ x. eqb x b) s) (length s)) refl
  where
    go : (t : Bool) → ltb (position_or_len (λ x. eqb x b) s) (length s) ≡ t → unwrap_or (position (λ x. eqb x b) s) (length s) ≡ length (up_to b s)
    go true e = rw e (sym (up_to_length b s))
    go false e = rw e (omega (arith, up_to_length b s, up_to_short b s, ltb-false (position_or_len (λ x. eqb x b) s) (length s) e))

-- The line is the part of the input up to the first newline.
pub line_part : (s : List ℕ) → take (length (up_to newline s)) s ≡ line_of s
line_part s = rw (line_up_to s) (up_to_take newline s)

pub line_part_length : (s : List ℕ) {end : ℕ} → end ≡ 0 + length (up_to newline s) → end ≡ length (take end s)
line_part_length s {end} e = sym (length-take-le end s (omega (arith, up_to_short newline s)))

-- What stands before the first such byte from a place on.
module _ (b : ℕ) (s : List ℕ) (i : ℕ) where
  pub up_to_found : i < length s → get_or s i 0 ≡ b → up_to b (drop i s) ≡ []
  unfolding up_to
  up_to_found h e = rw (drop-cons s i 0 h, eq-eqb (get_or s i 0) b e, up_to)

  pub up_to_more : i < length s → (get_or s i 0 ≡ b → ⊥) → length (up_to b (drop i s)) ≡ suc (length (up_to b (drop (i + 1) s)))
  unfolding up_to
  up_to_more h e = rw (drop-cons s i 0 h, ne_eqb (get_or s i 0) b e, up_to, add-one i)

  pub up_to_end : length s ≤ i → up_to b (drop i s) ≡ []
  unfolding up_to
  up_to_end h = rw (drop_of_length-le s h)

-- The part of a text from a place up to the next such byte.
pub part_up_to : (b : ℕ) (s : List ℕ) (from : ℕ) → from ≤ length s
    → slice from (from + length (up_to b (drop from s))) s ≡ up_to b (drop from s)
part_up_to b s from h =
    rw (take-add from (length (up_to b (drop from s))) s)
    (drop_at (take from s) (take (length (up_to b (drop from s))) (drop from s)) from (length-take-le from s h) ∙ up_to_take b (drop from s))
