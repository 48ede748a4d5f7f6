-- A reader of the old form, word for word as the definitions had it before rows could have Δ: opening, lookup, and the rows handed out. A file with an
-- entry of the new kind it refuses with 9, and a file without one is read today as it was, with no Δ. By `OldForm`: a file of the first kind fails the
-- old form, and one of the second passes both forms or neither and has the same entries. Assumes nothing.
use Rattle.std.specs.Prelude.{◌≡◌, Bool, ◌&&◌, List, [], ◌∷◌, map, ℕ, zero, suc, ◌+◌, ◌*◌, ◌%◌, ◌^◌, eqb, leb, length, drop, Result, Ok, Err, Option, Some, None}
use Rattle.std.proofs.Math.Path.{refl, sym, ap, subst}
use Rattle.std.proofs.Common.{ap₂, ◌∙◌}
use Rattle.std.proofs.Math.Bool.{true, false, cond, not}
use Rattle.std.proofs.Math.ListN.{take}
use Rattle.std.proofs.lemmas.Bool.{eqb-false}
use Rattle.definitions.specs.Generator.{lawful_degree}
use Rattle.definitions.specs.Ranking.{lawful_top}
use Rattle.definitions.specs.Answers.{refusal_number, Situation, situation, unless}
use Rattle.definitions.specs.Catalogue.{byte_at, number_at, number_size, Entry, entry_of, body_size, opening, looking, lookup_numbers}
use Rattle.definitions.specs.Catalogue.{lookup_part, reader_refusal, reader_top, reader_gaps, t_at, at_row, row_at, next_row, next_place}
use Rattle.definitions.specs.declared.Refusal.{Refusal}
use Rattle.definitions.specs.declared.Refusal.TheVariants.{WrongDegree, IllFormedCatalogue, DegreeMissing}
use Rattle.definitions.specs.declared.Lookup.{Lookup}
use Rattle.definitions.specs.declared.Row.{Row}
use Rattle.answer_laws.specs.Unless.{Decides, here, later, NoneApplies, passes, at_end, Outcome, is_refused, is_given, outcome, unless_refused, unless_given}
use Rattle.catalogue_laws.specs.Missing.{entry_among}
use Rattle.catalogue_laws.specs.Outcome.{entry_for}
use Rattle.catalogue_laws.specs.Reader.{hands_out}
use Rattle.catalogue_laws.specs.OldForm.{OldEntry, old_entry_at, old_row_size, old_body_size, old_catalogue_form, now_entry, plain_entry, old_row_size_lem}
use Rattle.catalogue_laws.specs.OldForm.{NoGaps, HasGaps, plain_form, gaps_not_old, old_no_gaps}

-- ---- the old answers

-- A lookup told T and the row count.
pub data OldLookup : Type 0 where
  OldBody : ℕ → ℕ → OldLookup
  OldNoBody : Refusal → OldLookup

pub record OldRow : Type 0 where
  pub p : ℕ
  pub q : ℕ
  pub step : ℕ
  pub t3 : ℕ
  pub t4 : ℕ
  pub t5 : ℕ
  pub t6 : ℕ
  pub t7 : ℕ
  pub t8 : ℕ

pub data OldNextRow : Type 0 where
  OldFound : OldRow → OldNextRow
  OldEnd : OldNextRow

-- The same answers today: the rows have no Δ, and where a row has its place stands 0.
abbrev pub now_lookup : OldLookup → Result Lookup Refusal
now_lookup (OldBody top rows) = Ok (record { top = top; gaps = false; rows = rows })
now_lookup (OldNoBody r) = Err r

abbrev pub now_row : OldRow → Row
now_row r = record {
  p = r.p;
  q = r.q;
  step = r.step;
  t3 = r.t3;
  t4 = r.t4;
  t5 = r.t5;
  t6 = r.t6;
  t7 = r.t7;
  t8 = r.t8;
  delta = 0;
}

abbrev pub now_next : OldNextRow → Option Row
now_next (OldFound r) = Some (now_row r)
now_next OldEnd = None

-- ---- the old calls

unfoldable pub old_opening : List ℕ → Result ℕ Refusal
old_opening s = unless (situation (not (old_catalogue_form s)) IllFormedCatalogue ∷ []) Err (Ok (byte_at s 0))

unfoldable pub old_looking : List ℕ → ℕ → List Situation
old_looking s m =
    situation (not (lawful_degree m)) WrongDegree
    ∷ situation (not (old_catalogue_form s)) IllFormedCatalogue
    ∷ situation (eqb (entry_of s m) 0) DegreeMissing
    ∷ []

unfoldable pub old_lookup_numbers : List ℕ → ℕ → OldLookup
old_lookup_numbers s m = unless (old_looking s m) OldNoBody (OldBody (old_entry_at s (entry_of s m)).top (old_entry_at s (entry_of s m)).rows)

unfoldable pub old_lookup_part : List ℕ → ℕ → List ℕ
old_lookup_part s m =
    unless (old_looking s m) (λ (n : Refusal). []) (take (old_body_size (old_entry_at s (entry_of s m))) (drop (old_entry_at s (entry_of s m)).offset s))

unfoldable pub old_reader_refusal : List ℕ → ℕ → ℕ
old_reader_refusal s m = unless (old_looking s m) refusal_number 0

unfoldable pub old_reader_top : List ℕ → ℕ → ℕ
old_reader_top s m = unless (old_looking s m) (λ (n : Refusal). 0) (old_entry_at s (entry_of s m)).top

unfoldable pub old_at_row : ℕ → ℕ → List ℕ → ℕ → Bool
old_at_row m top body place =
    lawful_degree m && (lawful_top top && (eqb (place % old_row_size m top) 0 && leb (place + old_row_size m top) (length body)))

unfoldable pub old_row_at : ℕ → ℕ → List ℕ → ℕ → OldRow
old_row_at m top body place =
    let w : ℕ = number_size m in
    let t : ℕ → ℕ = t_at m top body place in
    record {
      p = 2 ^ m + number_at w body place;
      q = number_at w body (place + w);
      step = number_at w body (place + 2 * w);
      t3 = t 3;
      t4 = t 4;
      t5 = t 5;
      t6 = t 6;
      t7 = t 7;
      t8 = t 8;
    }

unfoldable pub old_next_row : ℕ → ℕ → List ℕ → ℕ → OldNextRow
old_next_row m top body place = cond (old_at_row m top body place) (OldFound (old_row_at m top body place)) OldEnd

unfoldable pub old_next_place : ℕ → ℕ → List ℕ → ℕ → ℕ
old_next_place m top body place = cond (old_at_row m top body place) (place + old_row_size m top) place

-- What a reader at a place handed out in n calls.
unfoldable pub old_hands_out : ℕ → ℕ → ℕ → List ℕ → ℕ → List OldNextRow
old_hands_out zero m top body place = []
old_hands_out (suc n) m top body place = old_next_row m top body place ∷ old_hands_out n m top body (old_next_place m top body place)

-- ---- a file of the new kind

-- REFUSED: to a file with an entry that has Δ an old reader says 9, by every call, for every lawful degree.
module _ (s : List ℕ) (h : HasGaps s) where
  pub gaps_not_opened : old_opening s ≡ Err IllFormedCatalogue
  unfolding old_opening
  gaps_not_opened = unless_refused _ _ (here (ap not (gaps_not_old s h)))

  module _ (m : ℕ) (d : lawful_degree m ≡ true) where
    nine : Decides IllFormedCatalogue (old_looking s m)
    unfolding old_looking
    nine = later (ap not d) (here (ap not (gaps_not_old s h)))

    pub gaps_not_looked_up : old_lookup_numbers s m ≡ OldNoBody IllFormedCatalogue
    unfolding old_lookup_numbers
    gaps_not_looked_up = unless_refused _ _ nine

    pub gaps_no_part : old_lookup_part s m ≡ []
    unfolding old_lookup_part
    gaps_no_part = unless_refused _ _ nine

    pub gaps_not_read : old_reader_refusal s m ≡ 9
    unfolding old_reader_refusal
    gaps_not_read = unless_refused _ _ nine

-- ---- a file without Δ

-- Rows without Δ, of any body, are read as they were.
module _ (m top : ℕ) (body : List ℕ) (place : ℕ) where
  old_at_row_lem : at_row m top false body place ≡ old_at_row m top body place
  unfolding at_row old_at_row
  old_at_row_lem = rw (old_row_size_lem m top)

  pub old_next_row_lem : next_row m top false body place ≡ now_next (old_next_row m top body place)
  unfolding next_row old_next_row row_at old_row_at
  old_next_row_lem = rw old_at_row_lem (go (old_at_row m top body place))
    where
      go : (b : Bool) → cond b (Some (row_at m top false body place)) None ≡ now_next (cond b (OldFound (old_row_at m top body place)) OldEnd)
      go true = refl
      go false = refl

  pub old_next_place_lem : next_place m top false body place ≡ old_next_place m top body place
  unfolding next_place old_next_place
  old_next_place_lem = rw (old_at_row_lem, old_row_size_lem m top)

pub old_hands_out_lem : (n m top : ℕ) (body : List ℕ) (place : ℕ) → hands_out n m top false body place ≡ map now_next (old_hands_out n m top body place)
unfolding hands_out old_hands_out
old_hands_out_lem zero m top body place = refl
old_hands_out_lem (suc n) m top body place =
    ap₂ ◌∷◌ (old_next_row_lem m top body place)
    (ap (hands_out n m top false body) (old_next_place_lem m top body place) ∙ old_hands_out_lem n m top body (old_next_place m top body place))

-- What a lookup and a reader of a degree say, today and before.
pub record ReadAsBefore (s : List ℕ) (m : ℕ) : Type 0 where
  pub opens : opening s ≡ old_opening s
  pub numbers_are : lookup_numbers s m ≡ now_lookup (old_lookup_numbers s m)
  pub part_is : lookup_part s m ≡ old_lookup_part s m
  pub refusal_is : reader_refusal s m ≡ old_reader_refusal s m
  pub top_is : reader_top s m ≡ old_reader_top s m
  pub gaps_is : reader_gaps s m ≡ false
  pub hands_rows_out : (n : ℕ)
      → hands_out n m (reader_top s m) (reader_gaps s m) (lookup_part s m) 0 ≡ map now_next (old_hands_out n m (old_reader_top s m) (old_lookup_part s m) 0)

module _ (s : List ℕ) (h : NoGaps s) where
  plain_opens : opening s ≡ old_opening s
  unfolding opening old_opening
  plain_opens = rw (plain_form s h)

  module _ (m : ℕ) where
    plain_looking : looking s m ≡ old_looking s m
    unfolding looking old_looking
    plain_looking = rw (plain_form s h)

    -- The entry that is found is the old one.
    plain_found : NoneApplies (looking s m) → entry_for s m ≡ now_entry (old_entry_at s (entry_of s m))
    unfolding looking
    plain_found (passes d (passes f (passes e at_end))) =
        let among = entry_among s m (eqb-false (entry_of s m) 0 e) in
        plain_entry s (entry_of s m) (ap (λ (x : Entry). x.gaps) among.entry_is ∙ h among.has.index among.has.listed)

    -- Lookup and reader, but for the rows.
    record Same : Type 0 where
      numbers_are : lookup_numbers s m ≡ now_lookup (old_lookup_numbers s m)
      part_is : lookup_part s m ≡ old_lookup_part s m
      refusal_is : reader_refusal s m ≡ old_reader_refusal s m
      top_is : reader_top s m ≡ old_reader_top s m
      gaps_is : reader_gaps s m ≡ false

    same_refused : {r : Refusal} → Decides r (looking s m) → Same
    unfolding lookup_numbers old_lookup_numbers lookup_part old_lookup_part reader_refusal old_reader_refusal reader_top old_reader_top reader_gaps
    same_refused {r} d =
        let o : Decides r (old_looking s m) = subst (Decides r) plain_looking d in
        record {
          numbers_are = unless_refused _ _ d ∙ sym (ap now_lookup (unless_refused _ _ o));
          part_is = unless_refused _ _ d ∙ sym (unless_refused _ _ o);
          refusal_is = unless_refused _ _ d ∙ sym (unless_refused _ _ o);
          top_is = unless_refused _ _ d ∙ sym (unless_refused _ _ o);
          gaps_is = unless_refused _ _ d;
        }

    same_given : NoneApplies (looking s m) → Same
    unfolding lookup_numbers old_lookup_numbers lookup_part old_lookup_part reader_refusal old_reader_refusal reader_top old_reader_top reader_gaps
    same_given n =
        let o : NoneApplies (old_looking s m) = subst NoneApplies plain_looking n in
        let was : OldEntry = old_entry_at s (entry_of s m) in
        let e : entry_for s m ≡ now_entry was = plain_found n in
        let size : body_size (now_entry was) ≡ old_body_size was = ap (λ (k : ℕ). was.rows * k) (old_row_size_lem was.degree was.top) in
        record {
          numbers_are = unless_given _ _ n ∙ ap (λ (x : Entry). Ok (record { top = x.top; gaps = x.gaps; rows = x.rows })) e ∙ sym (ap now_lookup (unless_given _ _ o));
          part_is =
              unless_given _ _ n
              ∙ ap (λ (x : Entry). take (body_size x) (drop x.offset s)) e
              ∙ ap (λ (k : ℕ). take k (drop was.offset s)) size
              ∙ sym (unless_given _ _ o);
          refusal_is = unless_given _ _ n ∙ sym (unless_given _ _ o);
          top_is = unless_given _ _ n ∙ ap (λ (x : Entry). x.top) e ∙ sym (unless_given _ _ o);
          gaps_is = unless_given _ _ n ∙ ap (λ (x : Entry). x.gaps) e;
        }

    same : Same
    same = go (outcome (looking s m))
      where
        go : Outcome (looking s m) → Same
        go (is_refused d) = same_refused d
        go (is_given n) = same_given n

    -- AS BEFORE: bytes of which no entry has Δ, a catalogue or not, are read as they were.
    pub plain_read : ReadAsBefore s m
    plain_read =
        let x = same in
        record {
          opens = plain_opens;
          numbers_are = x.numbers_are;
          part_is = x.part_is;
          refusal_is = x.refusal_is;
          top_is = x.top_is;
          gaps_is = x.gaps_is;
          hands_rows_out = λ n.
              ap (λ (b : Bool). hands_out n m (reader_top s m) b (lookup_part s m) 0) x.gaps_is
              ∙ ap₂ (λ (t : ℕ) (body : List ℕ). hands_out n m t false body 0) x.top_is x.part_is
              ∙ old_hands_out_lem n m (old_reader_top s m) (old_lookup_part s m) 0;
        }

-- So is every catalogue of the old form.
pub old_read : (s : List ℕ) → old_catalogue_form s ≡ true → (m : ℕ) → ReadAsBefore s m
old_read s t m = plain_read s (old_no_gaps s t) m
