-- The steps of the first n rows of a flat list written: what one row more changes, and that what stands behind them stays. Assumes nothing.
use Rattle.std.specs.Prelude.{◌≡◌, ℕ, zero, suc, ◌+◌, ◌*◌, ◌≤◌, ◌<◌, length, take, get_or}
use Rattle.std.proofs.Common.{sym, ◌∙◌, suc-mul, zero-mul, zero-add, arith, length-drop, length-append, take-append-drop, drop-drop, drop_at, get_or-take}
use Rattle.std.proofs.Math.Path.{ap, ap₂}
use mathlib.Core.List.{List, [], ◌∷◌, ◌++◌, map}
use Rattle.std.proofs.Math.ListN.{drop, set}
use Rattle.std.proofs.Math.Seq.{length-take-le, set-append_left}
use Rattle.definitions.specs.Number.{join, over}
use Rattle.definitions.specs.Generator.{step}
use Rattle.slice_laws.specs.Over.{over_front_append, over_nothing}
use Rattle.page_laws.specs.Rows.{rows_of}
use Rattle.ranking_laws.specs.Steps.{stepped, length_stepped}

-- The first n rows of width w, each with its step, over the front of s.
unfoldable pub written : ℕ → ℕ → ℕ → List ℕ → List ℕ
written m w n s = over 0 (join (map (stepped m) (rows_of w n s))) s

set_append_add : (a b : List ℕ) (k v : ℕ) → set (a ++ b) (length a + k) v ≡ a ++ set b k v
set_append_add [] b k v = rw zero-add
set_append_add (x ∷ a) b k v = let e : suc (length a) + k ≡ suc (length a + k) = omega arith in rw e (ap (λ (r : List ℕ). x ∷ r) (set_append_add a b k v))

module _ (m w : ℕ) where
  pub none_written : (s : List ℕ) → written m w 0 s ≡ s
  unfolding written rows_of
  none_written s = over_nothing 0 s

  size : (s : List ℕ) → w ≤ length s → length (stepped m (take w s)) ≡ w
  size s h = length_stepped m (take w s) ∙ length-take-le w s h

  -- The first row, and those behind it.
  first_written : (n : ℕ) (s : List ℕ) → w ≤ length s → written m w (suc n) s ≡ stepped m (take w s) ++ written m w n (drop w s)
  unfolding written rows_of
  first_written n s h =
      over_front_append (stepped m (take w s)) (join (map (stepped m) (rows_of w n (drop w s)))) s
      ∙ ap (λ (k : ℕ). stepped m (take w s) ++ over 0 (join (map (stepped m) (rows_of w n (drop w s)))) (drop k s)) (size s h)

  pub length_written : (n : ℕ) (s : List ℕ) → n * w ≤ length s → length (written m w n s) ≡ length s
  length_written zero s h = rw (none_written s)
  length_written (suc n) s h =
      let fits : w ≤ length s = omega (arith, suc-mul n w) in
      let others = length_written n (drop w s) (omega (arith, suc-mul n w, length-drop w s)) in
      rw (first_written n s fits, length-append, size s fits, others, length-drop) (omega arith)

  -- The rows behind stay.
  pub behind_stays : (n : ℕ) (s : List ℕ) → n * w ≤ length s → drop (n * w) (written m w n s) ≡ drop (n * w) s
  behind_stays zero s h = rw (none_written s)
  behind_stays (suc n) s h =
      let fits : w ≤ length s = omega (arith, suc-mul n w) in
      let place : suc n * w ≡ w + n * w = omega (arith, suc-mul n w) in
      let others = behind_stays n (drop w s) (omega (arith, suc-mul n w, length-drop w s)) in
      let front = drop_at (stepped m (take w s)) (written m w n (drop w s)) w (size s fits) in
      rw (place, ← drop-drop (n * w) w (written m w (suc n) s), first_written n s fits, front, others) (drop-drop (n * w) w s)

  one_written : (s : List ℕ) → 2 < w → w ≤ length s → {v : ℕ} → v ≡ step m (get_or s 0 0) (get_or s 1 0) → set s 2 v ≡ stepped m (take w s) ++ drop w s
  unfolding stepped
  one_written s h fits {v} e =
      ap (λ (l : List ℕ). set l 2 v) (sym (take-append-drop w s))
      ∙ set-append_left (take w s) (drop w s) 2 v (omega (arith, length-take-le w s fits))
      ∙ ap (λ (x : ℕ). set (take w s) 2 x ++ drop w s)
      (e ∙ ap₂ (step m) (sym (get_or-take w s 0 0 (omega arith))) (sym (get_or-take w s 1 0 (omega arith))))

  -- One row more.
  pub more_written : (n : ℕ) (s : List ℕ) → 2 < w → suc n * w ≤ length s → {v : ℕ} → v ≡ step m (get_or (drop (n * w) s) 0 0) (get_or (drop (n * w) s) 1 0)
      → set (written m w n s) (n * w + 2) v ≡ written m w (suc n) s
  more_written zero s h fits {v} e =
      let room : w ≤ length s = omega (arith, suc-mul 0 w) in
      let none : 0 * w ≡ 0 = zero-mul w in
      rw (none_written s, first_written 0 s room, none_written (drop w s), none, zero-add) (one_written s h room (rw none at e))
  more_written (suc n) s h fits {v} e =
      let a = stepped m (take w s) in
      let room : w ≤ length s = omega (arith, suc-mul (suc n) w, suc-mul n w) in
      let long = size s room in
      let place : suc n * w + 2 ≡ length a + (n * w + 2) = omega (arith, suc-mul n w) in
      let start : suc n * w ≡ w + n * w = omega (arith, suc-mul n w) in
      let others = more_written n (drop w s) h (omega (arith, suc-mul (suc n) w, suc-mul n w, length-drop w s))
      (rw (start, ← drop-drop (n * w) w s) at e) in
      ap₂ (λ (l : List ℕ) (k : ℕ). set l k v) (first_written n s room) place
      ∙ set_append_add a (written m w n (drop w s)) (n * w + 2) v
      ∙ ap (λ (l : List ℕ). a ++ l) others
      ∙ sym (first_written (suc n) s room)
