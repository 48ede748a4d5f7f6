-- `text::lines::put_texts` puts texts one behind the other, where all of them fit. Assumes nothing.
use Rattle.std.proofs.Common.{◌≡◌, sym, ap, ◌∙◌, ℕ, List, [], ◌∷◌, ◌++◌, append-nil, ◌+◌, ◌≤◌, ◌<◌, length, take, take_all, flat_map, sum_by, rules, arith, add-zero, Bor, get_or}
use Rattle.std.proofs.lemmas.List.{take_more}
use Rattle.std.proofs.lemmas.List.Concat.{flat_map-append, length-flat_map}
use Rattle.std.proofs.lemmas.List.Folds.{length-flat_map-take}
use Rattle.slice_laws.specs.Over.{over_nothing, over_then}
use Rattle.slice_laws.proofs.Placing.{put, fits_room, fits_not}
use Rattle.text.proofs.lines.put_texts.Goals as goal
use Rattle.text.proofs.lines.put_texts.Goals.{After-fits, Else-not-fits}

abbrev joined : List (Bor (List ℕ)) → List ℕ
joined texts = flat_map (λ text. text.now) texts

abbrev no_text : Bor (List ℕ)
no_text = record { ref_ptr = (0, 0); now = [] }

-- The bytes of all texts are counted, and the test says whether they fit.
counted : (c : After-fits) → c.sum-len.result ≡ length (joined c.args.texts.now)
counted c =
    let n : c.sum-len.result ≡ sum_by (λ text. length text.now) c.args.texts.now = search rules in
    n ∙ sym (length-flat_map (λ text. text.now) c.args.texts.now)

room : (c : Else-not-fits) → c.args.at + length (joined c.args.texts.now) ≤ length c.args.out.now
room c = fits_room c.args.at (joined c.args.texts.now) c.args.out.now (counted (goal.at.Else-not-fits c).After-fits) c.fits.ensures c.if-not-fits.false

-- The text at an index, behind those before it.
module _ (texts : List (Bor (List ℕ))) (i : ℕ) (h : i < length texts) where
  joined_more : joined (take (i + 1) texts) ≡ joined (take i texts) ++ (get_or texts i no_text).now
  joined_more =
      ap joined (take_more texts i no_text h) ∙ flat_map-append (λ text. text.now) (take i texts) (get_or texts i no_text ∷ [])
      ∙ ap (λ (l : List ℕ). joined (take i texts) ++ l) (append-nil (get_or texts i no_text).now)

  joined_room : length (joined (take i texts)) + length (get_or texts i no_text).now ≤ length (joined texts)
  joined_room = length-flat_map-take (λ text. text.now) texts i no_text h

pub returns-then-not-fits : goal.returns-then-not-fits
returns-then-not-fits c =
    let a = c.args in
    let all = fits_not a.at (joined a.texts.now) a.out.now (counted (goal.at.returns-then-not-fits c).After-fits) c.fits.ensures c.if-not-fits.true in
    record { value = all.0; out_after = all.1 }

pub loop-text-init : goal.loop-text-init
loop-text-init c = record { length_so_far = sym (add-zero c.args.at); written = sym (over_nothing c.args.at c.args.out.now) }

pub write_text-end-requires : goal.write_text-end-requires
write_text-end-requires c =
    let here = c.loop-text in
    omega (arith, room (goal.at.write_text-end-requires c).Else-not-fits, joined_room c.args.texts.now here.text-index c.loop-text-test.true, here.auto.out)

pub loop-text-preserved : goal.loop-text-preserved
loop-text-preserved c =
    let a = c.args in
    let here = c.loop-text in
    let fit = room (goal.at.loop-text-preserved c).Else-not-fits in
    let part = joined_room a.texts.now here.text-index c.loop-text-test.true in
    let both = over_then a.at (joined (take here.text-index a.texts.now)) (get_or a.texts.now here.text-index no_text).now a.out.now (omega arith)
    here.invariant.length_so_far here.invariant.written c.write_text-end.ensures.value c.write_text-end.ensures.out_after in
    let more = joined_more a.texts.now here.text-index c.loop-text-test.true in
    record { length_so_far = rw more both.0; written = rw more both.1 }

pub returns : goal.returns
returns c =
    let a = c.args in
    let here = c.loop-text in
    let whole : take here.text-index a.texts.now ≡ a.texts.now = take_all here.text-index a.texts.now c.loop-text-test.false in
    let bytes = counted (goal.at.returns c).After-fits in
    let all = put a.at (joined a.texts.now) a.out.now (room (goal.at.returns c).Else-not-fits) (omega (arith, bytes)) (rw whole at here.invariant.written) in
    record { value = all.0; out_after = all.1 }
