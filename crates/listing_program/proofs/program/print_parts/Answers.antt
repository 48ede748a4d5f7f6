-- A turn of `listing_program::program::print_parts` writes the next part, and what is left behind it is the rest of the text. Assumes nothing.
use Rattle.std.proofs.Common.{◌≡◌, sym, ap, ◌∙◌, subst, List, ◌++◌, ℕ, ◌<◌, ◌≤◌, arith, Bool, true, false, not, refl, [], append_assoc, append-nil, length, Option, None, Some}
use Rattle.std.specs.Io.KnownBytes.{Appends}
use Rattle.paged_rows.specs.Room.{step_room}
use Rattle.listing_start.specs.Left.{Underway, text_left, row_room}
use Rattle.listing_start.specs.declared.Printing.{Printing}
use Rattle.listing_parts.specs.declared.parts.Part.{Part}
use Rattle.listing_parts.specs.Parts.{next_part, part_text, behind_part, rows_that_fit, to_go, part_left, part_underway, part_falls, nothing_left, rows_that_fit_some, row_room_most, put_part}
use Rattle.listing_program.proofs.program.print_parts.Goals as goal

-- What is written in two steps is written one behind the other.
appends_more : (a b c : Option (List ℕ)) (xs ys : List ℕ) → Appends a b xs → Appends b c ys → Appends a c (xs ++ ys)
appends_more None b c xs ys h k = tt
appends_more (Some us) None c xs ys h k = absurd h
appends_more (Some us) (Some vs) None xs ys h k = absurd k
appends_more (Some us) (Some vs) (Some ws) xs ys h k = rw (k, h, append_assoc)

negated : (b : Bool) → not b ≡ true → b ≡ false
negated true e = sym e
negated false e = refl

affirmed : (b : Bool) → not b ≡ false → b ≡ true
affirmed true e = refl
affirmed false e = sym e

pub write_front-requires : goal.write_front-requires
write_front-requires g c =
    let at = c.loop-at.at in
    let k : ℕ = rows_that_fit at c.loop-at.rows c.loop-at.text in
    omega (arith, (put_part k at c.loop-at.text c.next-part.ensures.value c.next-part.ensures.text_after).0)

-- The part is written behind those before it, and what is left behind it is the rest of the text.
module _ (first at : Printing) (old mid new : Option (List ℕ)) (done bytes : List ℕ) {r : Part} (k : ℕ) (u : Underway at) (e : r ≡ next_part k at)
    (w : Appends old mid done) (whole : done ++ text_left at ≡ text_left first) (same : bytes ≡ part_text k at) (wrote : Appends mid new bytes) where
  next_is : r.next ≡ behind_part k at
  next_is = ap (λ (p : Part). p.next) e

  written : Appends old new (done ++ part_text k at)
  written = appends_more old mid new done (part_text k at) w (subst (λ (l : List ℕ). Appends mid new l) same wrote)

  joined : (done ++ part_text k at) ++ text_left r.next ≡ text_left first
  joined =
      append_assoc done (part_text k at) (text_left r.next)
      ∙ ap (λ (rest : List ℕ). done ++ rest) (ap (λ (p : Printing). part_text k at ++ text_left p) next_is ∙ sym (part_left k at u)) ∙ whole

  pub wrote_all : r.more ≡ false → Appends old new (text_left first)
  wrote_all m =
      let none : text_left r.next ≡ [] = ap text_left next_is ∙ nothing_left (behind_part k at) (sym (ap (λ (p : Part). p.more) e) ∙ m) in
      subst (λ (l : List ℕ). Appends old new l)
      (sym (append-nil (done ++ part_text k at)) ∙ ap (λ (rest : List ℕ). (done ++ part_text k at) ++ rest) (sym none) ∙ joined) written

  pub wrote_part : (Underway r.next) × ((all : List ℕ) × Appends old new all × (all ++ text_left r.next ≡ text_left first))
  wrote_part = (subst Underway (sym next_is) (part_underway k at u), (done ++ part_text k at, written, joined))

pub returns-then-not-part : goal.returns-then-not-part
returns-then-not-part g c =
    let at = c.loop-at.at in
    let k : ℕ = rows_that_fit at c.loop-at.rows c.loop-at.text in
    let w = c.loop-at.invariant.written in
    wrote_all c.args.first c.loop-at.at (g.W.Write.contents c.args.output.now) (g.W.Write.contents c.loop-at.output) (g.W.Write.contents c.write_front.new.stream) w.0 _ k c.loop-at.invariant.underway c.next-part.ensures.value w.1 w.2 (put_part k at c.loop-at.text c.next-part.ensures.value c.next-part.ensures.text_after).1
    c.in_ok-write_front.ensures (negated _ c.if-not-part.true)

pub loop-at-smaller : goal.loop-at-smaller
loop-at-smaller g c =
    let at = c.loop-at.at in
    let k : ℕ = rows_that_fit at c.loop-at.rows c.loop-at.text in
    let u = c.loop-at.invariant.underway in
    let row : row_room c.loop-at.at ≤ length c.loop-at.rows = omega (arith, row_room_most c.loop-at.at u, c.requires.longest_row_in_bounds, c.loop-at.auto.rows) in
    let bytes : step_room ≤ length c.loop-at.text = omega (arith, c.requires.step_room_in_bounds, c.loop-at.auto.text) in
    subst (λ (more : Bool). to_go more c.next-part.result.next < to_go true c.loop-at.at) (affirmed _ c.if-not-part.false)
    (part_falls k at u (rows_that_fit_some at c.loop-at.rows c.loop-at.text row bytes) c.next-part.ensures.value)

pub loop-at-preserved : goal.loop-at-preserved
loop-at-preserved g c =
    let at = c.loop-at.at in
    let k : ℕ = rows_that_fit at c.loop-at.rows c.loop-at.text in
    let w = c.loop-at.invariant.written in
    let all = wrote_part c.args.first c.loop-at.at (g.W.Write.contents c.args.output.now) (g.W.Write.contents c.loop-at.output) (g.W.Write.contents c.write_front.new.stream) w.0 _ k c.loop-at.invariant.underway c.next-part.ensures.value w.1 w.2 (put_part k at c.loop-at.text c.next-part.ensures.value c.next-part.ensures.text_after).1
    c.in_ok-write_front.ensures in
    record { underway = all.0; written = all.1 }
