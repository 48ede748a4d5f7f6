-- `line::word::find` finds the first such byte. Assumes nothing.
use Rattle.std.proofs.Common.{eqb, ap, length, ◌∙◌, rules, ℕ, Option}
use Rattle.std.specs.Option.{unwrap_or}
use Rattle.std.proofs.lemmas.Iterator.{YieldsList-from_slice}
use Rattle.std.proofs.lemmas.Iterator.Search.{position_from_yields_List}
use Rattle.std.proofs.lemmas.Bool.Decides.{nat_tests}
use Rattle.line.specs.Part.{up_to_place}
use Rattle.line.proofs.word.find.Goals as goal

pub returns : goal.returns
returns c =
    let a = c.args in
    let found = position_from_yields_List (λ x. eqb x a.byte) _ _ c.position.result c.position.ensures.ran (YieldsList-from_slice a.s.now cc) (λ x b q k. search (rules, nat_tests)) in
    c.unwrap_or.ensures ∙ ap (λ (o : Option ℕ). unwrap_or o (length a.s.now)) found ∙ up_to_place a.byte a.s.now
