-- A text put at a place of a buffer, by cases of the test that it fits: what a writer does behind its test is what is promised. Assumes nothing.
use Rattle.std.specs.Prelude.{◌≡◌, refl, Bool, true, false, List, [], ℕ, ◌+◌, ◌-◌, ◌≤◌, ◌<◌, leb}
use Rattle.std.proofs.Common.{sym, ◌∙◌, add-zero, zero-add, arith, le-leb, leb-true, leb-false}
use Rattle.std.proofs.Math.ListN.{length}
use Rattle.std.proofs.lemmas.Bool.{lt-leb}
use Rattle.definitions.specs.Number.{over}
use Rattle.slice_laws.specs.Over.{over_nothing, length_over}
use Rattle.slice_laws.specs.Place.{placed, behind}

module _ (at : ℕ) (text out : List ℕ) where
  pub placed_fits : at + length text ≤ length out → placed at text out ≡ over at text out
  unfolding placed
  placed_fits h = rw (le-leb (at + length text) (length out) h, placed)

  pub placed_short : length out < at + length text → placed at text out ≡ out
  unfolding placed
  placed_short h = rw (lt-leb (at + length text) (length out) h, placed)

  pub behind_fits : at + length text ≤ length out → behind at text out ≡ at + length text
  unfolding behind
  behind_fits h = rw (le-leb (at + length text) (length out) h, behind)

  pub behind_short : length out < at + length text → behind at text out ≡ at
  unfolding behind
  behind_short h = rw (lt-leb (at + length text) (length out) h, behind)

-- The test that n bytes fit, made without a sum.
pub room_test : (at n size : ℕ) → at ≤ size → leb n (size - at) ≡ leb (at + n) size
room_test at n size h = go (leb n (size - at)) refl
  where
    go : (b : Bool) → leb n (size - at) ≡ b → leb n (size - at) ≡ leb (at + n) size
    go true e = e ∙ sym (le-leb (at + n) size (let k = leb-true n (size - at) e in omega arith))
    go false e = e ∙ sym (lt-leb (at + n) size (let k = leb-false n (size - at) e in omega arith))

module _ (at : ℕ) (text out : List ℕ) where
  pub put : {r : ℕ} {exit : List ℕ} → at + length text ≤ length out → r ≡ at + length text → exit ≡ over at text out
      → (r ≡ behind at text out) × (exit ≡ placed at text out)
  put h e k = (e ∙ sym (behind_fits at text out h), k ∙ sym (placed_fits at text out h))

  pub not_put : length out < at + length text → (at ≡ behind at text out) × (out ≡ placed at text out)
  not_put h = (sym (behind_short at text out h), sym (placed_short at text out h))

-- A text put at the front of a buffer that it fits.
pub put_front : (text out : List ℕ) {r : ℕ} {exit : List ℕ} → length text ≤ length out → r ≡ behind 0 text out → exit ≡ placed 0 text out
    → (r ≡ length text) × (exit ≡ over 0 text out)
put_front text out h e k =
    let room : 0 + length text ≤ length out = omega arith in
    (e ∙ behind_fits 0 text out room ∙ zero-add (length text), k ∙ placed_fits 0 text out room)

-- What a writer does behind the test that its text, whose bytes are counted, fits; and what it leaves where the test fails.
module _ (at : ℕ) (text out : List ℕ) {n : ℕ} (counted : n ≡ length text) {fits : Bool} (tested : fits ≡ leb (at + n) (length out)) where
  pub fits_room : fits ≡ true → at + length text ≤ length out
  fits_room t = let h = leb-true (at + n) (length out) (sym tested ∙ t) in omega arith

  pub fits_put : {r : ℕ} {exit : List ℕ} → fits ≡ true → r ≡ at + length text → exit ≡ over at text out → (r ≡ behind at text out) × (exit ≡ placed at text out)
  fits_put t = put at text out (fits_room t)

  pub fits_not : fits ≡ false → (at ≡ behind at text out) × (out ≡ placed at text out)
  fits_not t = let h = leb-false (at + n) (length out) (sym tested ∙ t) in not_put at text out (omega arith)

pub put_nothing : (at : ℕ) (out : List ℕ) → (at ≡ behind at [] out) × (out ≡ placed at [] out)
put_nothing at out = go (leb (at + 0) (length out)) refl
  where
    go : (b : Bool) → leb (at + 0) (length out) ≡ b → (at ≡ behind at [] out) × (out ≡ placed at [] out)
    go true e = put at [] out (leb-true (at + 0) (length out) e) (sym (add-zero at)) (sym (over_nothing at out))
    go false e = not_put at [] out (leb-false (at + 0) (length out) e)

-- The place behind a text is within the buffer, which stays as long as it was.
pub put_within : (at : ℕ) (text out : List ℕ) {r : ℕ} {exit : List ℕ} → at ≤ length out → r ≡ behind at text out → exit ≡ placed at text out → r ≤ length exit
put_within at text out h e k = rw (e, k) (go (leb (at + length text) (length out)) refl)
  where
    go : (b : Bool) → leb (at + length text) (length out) ≡ b → behind at text out ≤ length (placed at text out)
    go true f =
        let room = leb-true (at + length text) (length out) f in
        rw (behind_fits at text out room, placed_fits at text out room, length_over at text out room) room
    go false f =
        let short = leb-false (at + length text) (length out) f in
        rw (behind_short at text out short, placed_short at text out short) h
