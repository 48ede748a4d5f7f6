-- `catalogue::body` meets its contract: the part is a function of where the body lies, and a body that is found is within the file. Assumes nothing.
use Rattle.std.specs.Prelude.{Ok}
use mathlib.Core.Path.{◌≡◌, sym, ap, ◌∙◌}
use Prim.Native.Nat.{ℕ, ◌+◌, ◌-◌}
use native.Mathlib.Omega.{arith}
use lib.ListN.{take, drop}
use Rattle.catalogue_seek.specs.Seek.{locating, part_of, located_part, LawfulPlace, located_lawful}
use Rattle.catalogue_seek.specs.declared.BodyPlace.{BodyPlace}
use Rattle.catalogue.proofs.body.Goals as goal
use Rattle.catalogue.proofs.body.Goals.{In-Ok}

abbrev place : In-Ok → BodyPlace
place c = c.in-Ok.found

found_at : (c : In-Ok) → locating c.args.file.now c.args.degree ≡ Ok (place c)
found_at c = sym c.locate.ensures ∙ c.in-Ok.is

lawful : (c : In-Ok) → LawfulPlace c.args.file.now c.args.degree (place c)
lawful c = located_lawful _ _ _ (found_at c)

pub overflow_add-to : goal.overflow_add-to
overflow_add-to c = omega (arith, (lawful (goal.at.overflow_add-to c).In-Ok).within)

pub slice_bounds-result-end : goal.slice_bounds-result-end
slice_bounds-result-end c = omega (arith, (lawful (goal.at.slice_bounds-result-end c).In-Ok).within)

pub returns-in-Ok : goal.returns-in-Ok
returns-in-Ok c =
    let found = (goal.at.returns-in-Ok c).In-Ok in
    let s = c.args.file.now in
    let size : (place found).offset + (place found).size - (place found).offset ≡ (place found).size = omega arith in
    ap (λ (n : ℕ). take n (drop (place found).offset s)) size ∙ ap (part_of s) (sym (found_at found)) ∙ located_part s _

pub returns-in-Err : goal.returns-in-Err
returns-in-Err c = ap (part_of _) (sym c.in-Err.is ∙ c.locate.ensures) ∙ located_part _ _
