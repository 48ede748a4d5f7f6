-- `write_catalogue::write_through` writes each output from the front of its buffer, where it stands. Assumes nothing.
use Rattle.std.proofs.Common.{◌≡◌, refl, subst, List, Result, Ok, Err, OnOk, arith, length, take, drop, take_at, ℕ}
use Rattle.std.specs.Io.KnownBytes.{Appends}
use Rattle.definitions.specs.Number.{over}
use Rattle.definitions.specs.Writing.{file_numbers, file_output, file_errors}
use Rattle.slice_laws.specs.Over.{over_front}
use Rattle.catalogue_line.specs.Room.{output_fits, errors_fit}
use Rattle.write_catalogue.proofs.write_through.Goals as goal

-- What was put over the front is there.
put_text : (text out : List ℕ) (r : ℕ) (exit : List ℕ) → r ≡ length text → exit ≡ over 0 text out → take r exit ≡ text
put_text text out r exit e k = rw (k, over_front text out, e) (take_at text (drop (length text) out) (length text) refl)

-- What holds in any case holds on success.
always : {A E P : Type 0} (r : Result A E) → P → OnOk r P
always (Ok x) p = p
always (Err e) p = tt

pub write_front-requires : goal.write_front-requires
write_front-requires g c =
    omega (arith, c.answer-lengths.ensures.file_value, output_fits (file_numbers c.args.input.now), c.answer-lengths.auto.file, c.requires)

pub write_front-requires-2 : goal.write_front-requires-2
write_front-requires-2 g c =
    omega (arith, c.answer-lengths.ensures.text_value, errors_fit (file_numbers c.args.input.now), c.answer-lengths.auto.text)

pub returns-clause-file_written : goal.returns-clause-file_written
returns-clause-file_written g c =
    let text : List ℕ = file_output (file_numbers c.args.input.now) in
    let wrote : Appends (g.W.Write.contents c.args.output.now) (g.W.Write.contents c.write_front.new.stream) text =
    subst (λ (bytes : List ℕ). Appends (g.W.Write.contents c.args.output.now) (g.W.Write.contents c.write_front.new.stream) bytes)
    (put_text text _ _ _ c.answer-lengths.ensures.file_value c.answer-lengths.ensures.file_after) c.in_ok-write_front.ensures in
    always c.write_front-2.result wrote

pub returns-clause-refusal_written : goal.returns-clause-refusal_written
returns-clause-refusal_written g c =
    let text : List ℕ = file_errors (file_numbers c.args.input.now) in
    subst (λ (bytes : List ℕ). OnOk c.write_front-2.result (Appends (g.E.Write.contents c.args.errors.now) (g.E.Write.contents c.write_front-2.new.stream) bytes))
    (put_text text _ _ _ c.answer-lengths.ensures.text_value c.answer-lengths.ensures.text_after) c.write_front-2.ensures
