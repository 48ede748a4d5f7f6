-- What a reader is made of when it is opened with a degree: its number, the place of a part within the file that is the lookup's, its T and its kind.
-- All follow from where the body lies, or from the refusal. Assumes nothing.
use Rattle.std.specs.Prelude.{◌≡◌, false, List, ℕ, ◌+◌, ◌≤◌, length, take, drop, Ok, Err}
use Rattle.std.proofs.Common.{sym, ap, ◌∙◌, arith}
use Rattle.definitions.specs.Answers.{refusal_number}
use Rattle.definitions.specs.Catalogue.{lookup_part, reader_refusal, reader_top, reader_gaps}
use Rattle.definitions.specs.declared.Refusal.{Refusal}
use Rattle.catalogue_seek.specs.Seek.{locating, part_of, refusal_of, top_of, gaps_of, located_part, located_refusal, located_top, located_gaps, located_lawful}
use Rattle.catalogue_seek.specs.declared.BodyPlace.{BodyPlace}
use Rattle.catalogue_opening.specs.declared.OpenedPart.{OpenedPart}

pub record Opened (s : List ℕ) (m : ℕ) (o : OpenedPart) : Type 0 where
  pub refusal_is : o.refusal ≡ reader_refusal s m
  pub within : o.offset + o.size ≤ length s
  pub part_is : take o.size (drop o.offset s) ≡ lookup_part s m
  pub top_is : o.top ≡ reader_top s m
  pub gaps_is : o.gaps ≡ reader_gaps s m

-- The body's place, without a number.
pub opened_found : (s : List ℕ) (m : ℕ) (b : BodyPlace) → locating s m ≡ Ok b
    → (o : OpenedPart) → o.refusal ≡ 0 → o.offset ≡ b.offset → o.size ≡ b.size → o.top ≡ b.top → o.gaps ≡ b.gaps
    → Opened s m o
opened_found s m b e o refusal offset size top gaps = record {
  refusal_is = refusal ∙ sym (ap refusal_of e) ∙ located_refusal s m;
  within = omega (arith, (located_lawful s m b e).within);
  part_is = rw (offset, size) (sym (ap (part_of s) e) ∙ located_part s m);
  top_is = top ∙ sym (ap top_of e) ∙ located_top s m;
  gaps_is = gaps ∙ sym (ap gaps_of e) ∙ located_gaps s m;
}

-- The number, beside a part of no bytes, wherever it is cut, T = 0 and no Δ.
pub opened_refused : (s : List ℕ) (m : ℕ) (r : Refusal) → locating s m ≡ Err r
    → (o : OpenedPart) → o.refusal ≡ refusal_number r → o.offset ≡ 0 → o.size ≡ 0 → o.top ≡ 0 → o.gaps ≡ false
    → Opened s m o
opened_refused s m r e o refusal offset size top gaps = record {
  refusal_is = refusal ∙ sym (ap refusal_of e) ∙ located_refusal s m;
  within = omega arith;
  part_is = rw size (sym (ap (part_of s) e) ∙ located_part s m);
  top_is = top ∙ sym (ap top_of e) ∙ located_top s m;
  gaps_is = gaps ∙ sym (ap gaps_of e) ∙ located_gaps s m;
}
