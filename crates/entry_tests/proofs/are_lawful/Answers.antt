-- `are_lawful` asks of the entry at each place. Assumes nothing.
use Rattle.std.proofs.Common.{rules, Bool, ℕ, get_or, refl, ap, ap₂, arith, ◌∙◌}
use Rattle.std.proofs.lemmas.Iterator.{YieldsList-from_range}
use Rattle.std.proofs.lemmas.Iterator.Search.{all_from_yields_List}
use Rattle.definitions.specs.declared.Selection.{Selection}
use Rattle.definitions.specs.Generator.{lawful_degree}
use Rattle.definitions.specs.Number.{every}
use Rattle.definitions.specs.Ranking.{lawful_top}
use Rattle.definitions.specs.Writing.{entries_of, lawful_degrees, lawful_tops}
use Rattle.number_laws.specs.Ranges.{every_range}
use Rattle.writing_laws.specs.RankedFile.{no_entry}
use Rattle.entry_tests.proofs.ByPlace.{all_pass}
use Rattle.entry_tests.proofs.are_lawful.Goals as goal

pub returns : goal.returns
unfolding lawful_degrees lawful_tops
returns c =
    let l = entries_of c.args.floor c.args.entries.now in
    let n = c.count-n.result in
    let degree_passes = λ (s : Selection). lawful_degree s.degree in
    let top_passes = λ (s : Selection). lawful_top s.top in
    let at = λ (test : Selection → Bool) (k : ℕ). test (get_or l k no_entry) in
    let whole = λ (test : Selection → Bool). every_range n (at test) ∙ ap (λ (m : ℕ). every m (at test)) (c.count-n.ensures c.args.floor) ∙ all_pass test l in
    ap₂ (λ (d e : Bool). record { degrees = d; tops = e })
    (all_from_yields_List (at degree_passes) _ _ _ c.all.ensures.ran (YieldsList-from_range 0 n n refl (omega arith)) (λ k b q called. search rules)
    ∙ whole degree_passes)
    (all_from_yields_List (at top_passes) _ _ _ c.all-2.ensures.ran (YieldsList-from_range 0 n n refl (omega arith)) (λ k b q called. search rules)
    ∙ whole top_passes)
