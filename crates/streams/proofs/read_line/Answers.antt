-- A turn of `streams::read_line` puts the byte that came behind those before it, and it is no newline. Assumes nothing.
use Rattle.std.proofs.Common.{◌≡◌, ◌<◌, ◌+◌, ℕ, List, [], ◌∷◌, ◌++◌, length, take, drop, None, Some, Option, slice_set, arith, subst, sym, ap, ◌∙◌}
use Rattle.std.proofs.lemmas.List.{take_more_set, drop-set-lt, append_assoc, drop-drop}
use Rattle.std.proofs.lemmas.Grind.{common_steps}
use Rattle.std.specs.Io.KnownBytes.{Consumes}
use Rattle.streams.specs.Lines.{IsNext}
use Rattle.streams.proofs.read_line.Goals as goal

-- What is lost in two steps is lost one behind the other.
consumes-more : (a b c : Option (List ℕ)) (xs ys : List ℕ) → Consumes a b xs → Consumes b c ys → Consumes a c (xs ++ ys)
consumes-more None b c xs ys h k = tt
consumes-more (Some us) None c xs ys h k = absurd h
consumes-more (Some us) (Some vs) None xs ys h k = absurd k
consumes-more (Some us) (Some vs) (Some ws) xs ys h k = rw (h, k, append_assoc)

pub loop-n-preserved : goal.loop-n-preserved
loop-n-preserved g c =
    let room : c.loop-n.n < length c.loop-n.input = omega arith in
    let put : take (c.loop-n.n + 1) (slice_set c.loop-n.input c.loop-n.n c.in-Some.b) ≡ take c.loop-n.n c.loop-n.input ++ c.in-Some.b ∷ [] =
    take_more_set c.loop-n.input c.loop-n.n c.in-Some.b room in
    let came : Consumes (g.R.Read.remaining c.loop-n.reader) (g.R.Read.remaining c.next_byte.new.reader) (c.in-Some.b ∷ []) =
    subst (λ (i : Option ℕ). IsNext (g.R.Read.remaining c.loop-n.reader) (g.R.Read.remaining c.next_byte.new.reader) i) c.in-Some.is c.in_ok-next_byte.ensures in
    record {
      one_line = grind (arith, common_steps);
      behind =
          drop-set-lt (c.loop-n.n + 1) c.loop-n.input c.loop-n.n c.in-Some.b (omega arith) ∙ sym (drop-drop 1 c.loop-n.n c.loop-n.input)
          ∙ ap (λ (bs : List ℕ). drop 1 bs) c.loop-n.invariant.behind ∙ drop-drop 1 c.loop-n.n c.args.input.now;
      taken = rw put (consumes-more _ _ _ _ _ c.loop-n.invariant.taken came);
    }
