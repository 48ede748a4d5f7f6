-- Numbers written over a list from a place on, `over` of the definitions: nothing written, one number written, one behind another, the last first.
-- Two parts written one behind the other, in either order, are their concatenation written once: `take` and `drop` meet at the seam.
-- Assumes nothing.
use Rattle.std.specs.Prelude.{◌≡◌, refl, List, [], ◌∷◌, ◌++◌, ℕ, zero, suc, ◌+◌, ◌-◌, ◌≤◌, ◌<◌, leb, length, take, drop, set, get_or}
use Rattle.std.proofs.Common.{sym, ap, ◌∙◌, append_assoc, append-nil, add-zero, zero-add, add_assoc, add-one, arith, length-append, length-take, length-drop, take-append-drop, drop_of_length-le, drop_at, take_at, take-add, take_all, take-take, get_or-take, length-take-le, drop-drop, drop-cons, drop-set-lt, get_or-set_same, lt-length-set, leb-true, leb-false}
use Rattle.std.proofs.Math.ListN.{get_or-append}
use Rattle.std.proofs.lemmas.List.{take-append-le, drop-append-le, take-set-le, set_split, set-append_left}
use Rattle.std.proofs.Math.Seq.{take-set-lt, append_snoc}
use Rattle.definitions.specs.Number.{over}
use Rattle.number_laws.specs.Truth.{by_test}

pub over_def : (at : ℕ) (v s : List ℕ) → over at v s ≡ take at s ++ v ++ drop (at + length v) s
unfolding over
over_def at v s = refl

over_parts : (at : ℕ) (v s : List ℕ) → over at v s ≡ take at s ++ (v ++ drop (at + length v) s)
unfolding over
over_parts at v s = append_assoc (take at s) v (drop (at + length v) s)

-- Over the front.
pub over_front : (v s : List ℕ) → over 0 v s ≡ v ++ drop (length v) s
unfolding over
over_front v s = rw zero-add

-- The first part stands in front of what is written behind it.
pub over_front_append : (a b s : List ℕ) → over 0 (a ++ b) s ≡ a ++ over 0 b (drop (length a) s)
over_front_append a b s = rw (over_front (a ++ b) s, over_front b (drop (length a) s), length-append, drop-drop) (append_assoc a b _)

-- What stands behind the part that is written over.
pub over_part : (v a b : List ℕ) → length v ≤ length a → over 0 v (a ++ b) ≡ over 0 v a ++ b
over_part v a b h = rw (over_front v (a ++ b), over_front v a, drop-append-le (length v) a b h) (sym (append_assoc v (drop (length v) a) b))

-- What stands at the front already.
pub over_same : (k : ℕ) (s : List ℕ) → over 0 (take k s) s ≡ s
over_same k s = by_test (leb k (length s))
    (λ t. let l = length-take-le k s (leb-true k (length s) t) in rw (over_front, l) (take-append-drop k s))
    (λ f. let e = take_all k s (omega (arith, leb-false k (length s) f)) in rw (e, over_front, drop_of_length-le s {i = length s} (omega arith)) (append-nil s))

-- As many numbers or more, over those that were written.
pub over_again : (a b s : List ℕ) → length a ≤ length b → over 0 b (over 0 a s) ≡ over 0 b s
over_again a b s h =
    let k : ℕ = length b - length a in
    let e : length b ≡ length a + k = omega arith in
    let rest = drop (length a) s in
    rw (over_front a s, over_front b (a ++ rest), over_front b s, e, ← drop-drop k (length a) (a ++ rest), drop_at a rest (length a) refl, drop-drop)

pub over_nothing : (at : ℕ) (s : List ℕ) → over at [] s ≡ s
unfolding over
over_nothing at s = simp (add-zero, append-nil) (take-append-drop at s)

pub length_over : (at : ℕ) (v s : List ℕ) → at + length v ≤ length s → length (over at v s) ≡ length s
unfolding over
length_over at v s h = simp (length-append, length-take, length-drop) (omega arith)

-- Two parts, one behind the other.
pub over_append : (at : ℕ) (a b out : List ℕ) → at + length a ≤ length out → over (at + length a) b (over at a out) ≡ over at (a ++ b) out
unfolding over
over_append at a b out h =
    let front : length (take at out ++ a) ≡ at + length a = simp (length-append, length-take) (omega arith) in
    rw (
      take_at (take at out ++ a) (drop (at + length a) out) (at + length a) front,
      ← drop-drop (length b) (at + length a) (take at out ++ a ++ drop (at + length a) out),
      drop_at (take at out ++ a) (drop (at + length a) out) (at + length a) front,
    ) (simp (drop-drop, length-append, append_assoc, add_assoc))

-- The part behind is written first.
pub over_before : (at : ℕ) (a b out : List ℕ) → at + length a ≤ length out → over at a (over (at + length a) b out) ≡ over at (a ++ b) out
over_before at a b out h =
    let front : length (take (at + length a) out) ≡ at + length a = length-take-le (at + length a) out h in
    rw (
      over_parts (at + length a) b out,
      over_def at a,
      take-append-le at (take (at + length a) out) (b ++ drop (at + length a + length b) out) (omega arith),
      take-take at (at + length a) out (omega arith),
      drop_at (take (at + length a) out) (b ++ drop (at + length a + length b) out) (at + length a) front,
      over_parts at (a ++ b) out,
    ) (simp (length-append, append_assoc, add_assoc))

-- What stands between two places, written again with a part behind it or before it.
over_gap_before : (at d : ℕ) (b s : List ℕ) → at + d ≤ length s → over at (take d (drop at s) ++ b) s ≡ over (at + d) b s
over_gap_before at d b s h =
    let e : length (take d (drop at s)) ≡ d = length-take-le d (drop at s) (omega (arith, length-drop at s)) in
    rw (over_parts at (take d (drop at s) ++ b) s, over_parts (at + d) b s, take-add at d s, length-append, e) (simp (append_assoc, add_assoc))

over_gap_behind : (at d : ℕ) (a s : List ℕ) → at + length a + d ≤ length s → over at (a ++ take d (drop (at + length a) s)) s ≡ over at a s
over_gap_behind at d a s h =
    let k : ℕ = at + length a in
    let g = take d (drop k s) in
    let size : length g ≡ d = length-take-le d (drop k s) (omega (arith, length-drop k s)) in
    let end : at + length (a ++ g) ≡ k + d = omega (arith, length-append a g) in
    let behind : g ++ drop (at + length (a ++ g)) s ≡ drop k s = rw (end, ← drop-drop d k s) (take-append-drop d (drop k s)) in
    over_parts at (a ++ g) s
    ∙ ap (λ (l : List ℕ). take at s ++ l) (append_assoc a g _ ∙ ap (λ (l : List ℕ). a ++ l) behind)
    ∙ sym (over_parts at a s)

-- Two parts apart, in either order.
pub over_apart : (i j : ℕ) (a b s : List ℕ) → i + length a ≤ j → j ≤ length s → over i a (over j b s) ≡ over j b (over i a s)
over_apart i j a b s h l =
    let k : ℕ = i + length a in
    let d : ℕ = j - k in
    let g = take d (drop k s) in
    let e : k + d ≡ j = omega arith in
    let size : length g ≡ d = length-take-le d (drop k s) (omega (arith, length-drop k s)) in
    let end : i + length (a ++ g) ≡ j = omega (arith, length-append a g) in
    ap (over i a) (ap (λ (n : ℕ). over n b s) (sym e) ∙ sym (over_gap_before k d b s (omega arith)))
    ∙ over_before i a (g ++ b) s (omega arith)
    ∙ ap (λ (v : List ℕ). over i v s) (sym (append_assoc a g b))
    ∙ sym (over_append i (a ++ g) b s (omega arith))
    ∙ ap (λ (n : ℕ). over n b (over i (a ++ g) s)) end
    ∙ ap (over j b) (over_gap_behind i d a s (omega arith))

-- What stands before the place stays.
pub get_d_over : (at i d : ℕ) (v s : List ℕ) → i < at → at ≤ length s → get_or (over at v s) i d ≡ get_or s i d
get_d_over at i d v s h l =
    rw (over_parts at v s, get_or-append (take at s) (v ++ drop (at + length v) s) d i (omega (arith, length-take-le at s l)), get_or-take at s i d h)

-- A number is stored at the place.
pub over_one : (at b : ℕ) (out : List ℕ) → at < length out → set out at b ≡ over at (b ∷ []) out
unfolding over
over_one at b out h = rw (add-one) (set_split out at b h ∙ sym (append_snoc (take at out) b (drop (suc at) out)))

-- A number is stored behind a part.
pub over_behind : (at : ℕ) (a : List ℕ) (b : ℕ) (out : List ℕ) → at + length a < length out → set (over at a out) (at + length a) b ≡ over at (a ++ b ∷ []) out
over_behind at a b out h =
    over_one (at + length a) b (over at a out) (omega (arith, length_over at a out (omega arith))) ∙ over_append at a (b ∷ []) out (omega arith)

-- The last number is stored before the others.
pub over_last : (at : ℕ) (a : List ℕ) (b : ℕ) (out : List ℕ) → at + length a < length out → over at a (set out (at + length a) b) ≡ over at (a ++ b ∷ []) out
unfolding over
over_last at a b out h =
    let k = at + length a in
    let stored : drop k (set out k b) ≡ b ∷ drop (suc k) out =
    drop-cons (set out k b) k 0 (lt-length-set out k b h) ∙ rw (get_or-set_same out k b 0 h, drop-set-lt (suc k) out k b (omega arith)) in
    let kept : take at (set out k b) ≡ take at out = take-set-le at out k b (omega arith) in
    let end : at + length (a ++ b ∷ []) ≡ suc k = simp length-append (omega arith) in
    rw (kept, stored, end) (simp append_assoc)

pub over_next : (at b : ℕ) (text out : List ℕ) → at < length out → over (suc at) text (set out at b) ≡ over at (b ∷ text) out
over_next at b text out h =
    rw (over_one at b out h, ← add-one at) (over_append at (b ∷ []) text out (omega arith))

-- The first number is stored behind the others.
pub over_store : (at b : ℕ) (text out : List ℕ) → at < length out → set (over (suc at) text out) at b ≡ over at (b ∷ text) out
over_store at b text out h =
    let behind = drop (suc at + length text) out in
    let front : at < length (take (suc at) out) = rw length-take (omega arith) in
    let stored : set (take (suc at) out ++ text ++ behind) at b ≡ set (take (suc at) out) at b ++ text ++ behind =
    set-append_left (take (suc at) out ++ text) behind at b (simp length-append (omega arith))
    ∙ ap (λ (l : List ℕ). l ++ behind) (set-append_left (take (suc at) out) text at b front) in
    rw (
      over_def (suc at) text out,
      stored,
      ← take-set-lt (suc at) out at b (omega arith),
      ← drop-set-lt (suc at + length text) out at b (omega arith),
      ← over_def (suc at) text (set out at b),
    ) (over_next at b text out h)

-- One number of a part, at the place of those that are left.
pub over_turn : (at : ℕ) (word : List ℕ) (i : ℕ) (out : List ℕ) → i < length word → at + i < length out
    → over (at + (i + 1)) (drop (i + 1) word) (set out (at + i) (get_or word i 0)) ≡ over (at + i) (drop i word) out
over_turn at word i out h k =
    rw (← add_assoc at i 1, add-one (at + i), add-one i, drop-cons word i 0 h) (over_next (at + i) (get_or word i 0) (drop (suc i) word) out k)

pub over_end : (at : ℕ) (word : List ℕ) (i : ℕ) (out : List ℕ) → length word ≤ i → out ≡ over (at + i) (drop i word) out
over_end at word i out h = sym (rw (drop_of_length-le word h) (over_nothing (at + i) out))

-- One writer behind another: the second finds room, and together they write both texts.
module _ (at : ℕ) (a b out : List ℕ) where
  pub over_then_room : {place : ℕ} {mid : List ℕ} → place ≡ at + length a → mid ≡ over at a out → at + length a + length b ≤ length out
      → place + length b ≤ length mid
  over_then_room e k h = rw (e, k, length_over at a out (omega arith)) h

  pub over_then : {place r : ℕ} {mid exit : List ℕ} → at + length a + length b ≤ length out → place ≡ at + length a → mid ≡ over at a out
      → r ≡ place + length b → exit ≡ over place b mid → (r ≡ at + length (a ++ b)) × (exit ≡ over at (a ++ b) out)
  over_then h e k u v = (rw length-append (omega arith), v ∙ rw (e, k) (over_append at a b out (omega arith)))
