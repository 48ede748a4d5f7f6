-- `recount_program::print` writes the line that was put at the front of its buffer, where any such line fits. Assumes nothing.
use Rattle.std.proofs.Common.{◌≡◌, ℕ, List, OnOk, ◌≤◌, length, take, replicate, take_at, drop, subst, refl, arith}
use Rattle.std.specs.Io.KnownBytes.{Appends}
use Rattle.definitions.specs.Number.{over}
use Rattle.definitions.specs.Recount.{recount}
use Rattle.slice_laws.specs.Over.{over_front}
use Rattle.slice_laws.proofs.Placing.{put_front, put_within}
use Rattle.recount_line.specs.Printed.{recount_room_lem}
use Rattle.recount_program.proofs.print.Goals as goal

pub write_front-requires : goal.write_front-requires
write_front-requires g c = omega (arith, put_within 0 (recount c.args.input.now) (replicate 34 0) (omega arith) c.put_recount-end.ensures.value c.put_recount-end.ensures.out_after)

-- What was put over the front is there.
put_text : (text out : List ℕ) (r : ℕ) (exit : List ℕ) → r ≡ length text → exit ≡ over 0 text out → take r exit ≡ text
put_text text out r exit e k = rw (k, over_front text out, e) (take_at text (drop (length text) out) (length text) refl)

pub returns : goal.returns
returns g c =
    let text : List ℕ = recount c.args.input.now in
    let out : List ℕ = replicate 34 0 in
    let room : length text ≤ length out = recount_room_lem c.args.input.now in
    let put = put_front text out room c.put_recount-end.ensures.value c.put_recount-end.ensures.out_after in
    let front : take c.put_recount-end.result c.put_recount-end.new.out ≡ text = put_text text out _ _ put.0 put.1 in
    subst (λ (bytes : List ℕ). OnOk c.write_front.result (Appends (g.W.Write.contents c.args.output.now) (g.W.Write.contents c.write_front.new.stream) bytes))
    front c.write_front.ensures
